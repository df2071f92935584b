use Rattle.goal_rows.specs.Races.{election_of}
use Rattle.witness_build.specs.Nearest.{IsNearestSoFar}
use Rattle.witness_build.proofs.starts.nearest.Given as goal

abbrev pub invariant-loop-goal : goal.invariant-loop-goal
invariant-loop-goal l = IsNearestSoFar (election_of l.race) l.goal-index l.near
