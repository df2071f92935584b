use Rattle.std.proofs.Common.{◌≡◌, ◌∷◌, map}
use Rattle.std.specs.List.{range_with_len}
use Rattle.goal_rows.specs.declared.weighings.Weighing.TheVariants.{Leaving, Through}
use Rattle.goal_rows.proofs.programs.through_weighings.Given as goal

abbrev pub invariant-loop-before : goal.invariant-loop-before
invariant-loop-before l = l.weighings.items ≡ Leaving ∷ map (λ p. Through p) (range_with_len 1 l.before)
