use Rattle.goal_rows.specs.Races.{election_of}
use Rattle.witness_build.proofs.LowRuns.{IsLowSoFar}
use Rattle.witness_build.proofs.from_points.replaced_numbers.Given as goal

abbrev pub invariant-loop-run : goal.invariant-loop-run
invariant-loop-run l = IsLowSoFar (election_of l.race) l.start l.whole l.numbers.items l.left.items l.run-iterator
