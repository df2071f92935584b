use Rattle.std.proofs.Common.{◌≡◌, take}
use Rattle.std.specs.Prelude.{All}
use Rattle.goal_rows.specs.LongerKeys.{goals_of}
use Rattle.goal_rows.specs.Races.{IsGroundOf, election_of}
use Rattle.goal_rows.proofs.cover_grounds.root_grounds.Given as goal

abbrev pub invariant-loop-kid : goal.invariant-loop-kid
invariant-loop-kid l = record {
  goals : goals_of l.starts ≡ take l.kid-index l.kid-items;
  values : All (IsGroundOf (election_of l.race)) l.starts;
}
