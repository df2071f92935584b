use Rattle.std.proofs.Common.{◌≡◌, map}
use Rattle.std.specs.List.{range_with_len}
use Rattle.goal_rows.specs.declared.goals.Goal.TheVariants.{Cover}
use Rattle.goal_rows.proofs.races.covers.Given as goal

abbrev pub invariant-loop-x : goal.invariant-loop-x
invariant-loop-x l = l.roots ≡ map Cover (range_with_len 0 l.x)
