use Rattle.std.proofs.Common.{◌≡◌, take}
use Rattle.alteration_model.specs.Faults.{pairs_of}
use Rattle.margin_solve.proofs.certs.puts_of.Given as goal

abbrev pub invariant-loop-i : goal.invariant-loop-i
invariant-loop-i l = pairs_of l.puts.items ≡ take l.i l.changes
