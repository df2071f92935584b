use Rattle.std.proofs.Common.{◌≡◌, ◌∷◌, map}
use Rattle.std.specs.Prelude.{All, not}
use Rattle.irv_count.specs.Orders.{member}
use Rattle.goal_rows.specs.LongerKeys.{goals_of}
use Rattle.goal_rows.specs.Races.{IsGroundOf, election_of}
use Rattle.goal_rows.specs.Suffixes.{those}
use Rattle.goal_rows.specs.declared.goals.Goal.TheVariants.{Suffix}
use Rattle.goal_rows.proofs.cover_grounds.longer_grounds.Given as goal

abbrev pub invariant-loop-z : goal.invariant-loop-z
invariant-loop-z l = record {
  goals : goals_of l.starts ≡ map (λ z. Suffix (z ∷ l.candidates)) (those l.z (λ z. not (member z l.candidates)));
  values : All (IsGroundOf (election_of l.race)) l.starts;
}
