use Rattle.std.proofs.Common.{◌≡◌, map}
use Rattle.std.specs.List.{flat_map, range_with_len}
use Rattle.goal_rows.specs.Goals.{is_seated}
use Rattle.goal_rows.specs.Suffixes.{those}
use Rattle.goal_rows.specs.declared.goals.Goal.TheVariants.{Pair}
use Rattle.goal_rows.proofs.races.seated.Given as goal

abbrev pub invariant-loop-g : goal.invariant-loop-g
invariant-loop-g l = l.roots ≡ flat_map (λ g. map (λ m. Pair g m) (those l.c (is_seated l.shares g))) (range_with_len 0 l.g)
