use Rattle.std.proofs.Common.{◌≡◌, ◌++◌, map}
use Rattle.goal_rows.specs.Goals.{is_seated}
use Rattle.goal_rows.specs.Suffixes.{those}
use Rattle.goal_rows.specs.declared.goals.Goal.TheVariants.{Pair}
use Rattle.goal_rows.proofs.races.add_seated.Given as goal

abbrev pub invariant-loop-l : goal.invariant-loop-l
invariant-loop-l l = l.roots ≡ l.fn.roots ++ map (λ m. Pair l.g m) (those l.l (is_seated l.shares l.g))
