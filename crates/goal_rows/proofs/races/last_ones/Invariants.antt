use Rattle.std.proofs.Common.{◌≡◌, map, [], ◌∷◌}
use Rattle.std.specs.Prelude.{◌==◌, not}
use Rattle.goal_rows.specs.Suffixes.{those}
use Rattle.goal_rows.specs.declared.goals.Goal.TheVariants.{Suffix}
use Rattle.goal_rows.proofs.races.last_ones.Given as goal

abbrev pub invariant-loop-y : goal.invariant-loop-y
invariant-loop-y l = l.roots ≡ map (λ y. Suffix (y ∷ [])) (those l.y (λ y. not (y == l.x)))
