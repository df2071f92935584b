use Rattle.std.proofs.Common.{◌≡◌, take}
use Rattle.alteration_model.specs.Faults.{pairs_of}
use Rattle.goal_rows.specs.Pairs.{puts_of}
use Rattle.witness_build.proofs.pairs.puts_for.Given as goal

abbrev pub invariant-loop-number : goal.invariant-loop-number
invariant-loop-number l = pairs_of l.puts.items ≡ puts_of l.gainer (take l.number-index l.numbers)
