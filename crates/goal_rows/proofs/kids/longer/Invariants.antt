use Rattle.std.proofs.Common.{◌≡◌, map, ◌∷◌}
use Rattle.std.specs.Prelude.{not}
use Rattle.irv_count.specs.Orders.{member}
use Rattle.goal_rows.specs.Suffixes.{those}
use Rattle.goal_rows.specs.declared.goals.Goal.TheVariants.{Suffix}
use Rattle.goal_rows.proofs.kids.longer.Given as goal

abbrev pub invariant-loop-z : goal.invariant-loop-z
invariant-loop-z l = l.kids ≡ map (λ z. Suffix (z ∷ l.suffix)) (those l.z (λ z. not (member z l.suffix)))
