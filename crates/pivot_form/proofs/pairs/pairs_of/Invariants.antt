use Rattle.std.proofs.Common.{length}
use Rattle.pivot_form.specs.Starts.{ArePairs}
use Rattle.pivot_form.proofs.pairs.pairs_of.Given as goal

abbrev pub invariant-loop-i : goal.invariant-loop-i
invariant-loop-i l = ArePairs (length l.program.costs) l.program.rows l.i l.pairs.items
