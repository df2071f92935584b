use Rattle.witness_build.proofs.EqualRuns.{IsOnWalk}
use Rattle.witness_build.proofs.walks.walk.Given as goal

abbrev pub invariant-loop-run : goal.invariant-loop-run
invariant-loop-run l = IsOnWalk l.roll l.x l.run-iterator l.numbers.items l.lacking.items
