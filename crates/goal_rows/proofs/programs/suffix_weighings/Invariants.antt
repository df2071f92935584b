use Rattle.std.proofs.Common.{◌≡◌, ◌+◌, ◌-◌, map}
use Rattle.std.specs.List.{flat_map, range_with_len}
use Rattle.goal_rows.specs.declared.weighings.Weighing.TheVariants.{Held}
use Rattle.goal_rows.proofs.programs.suffix_weighings.Given as goal

abbrev pub invariant-loop-i : goal.invariant-loop-i
invariant-loop-i l = l.weighings.items ≡ flat_map (λ i. map (λ j. Held i j) (range_with_len (i + 1) (l.m - (i + 1)))) (range_with_len 0 l.i)
