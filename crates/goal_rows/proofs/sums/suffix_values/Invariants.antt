use Rattle.std.proofs.Common.{◌≡◌}
use Rattle.std.specs.List.{flat_map, range_with_len}
use Rattle.goal_rows.specs.KeyCounts.{round_values}
use Rattle.goal_rows.proofs.sums.suffix_values.Given as goal

abbrev pub invariant-loop-i : goal.invariant-loop-i
invariant-loop-i l = l.sums ≡ flat_map (λ i. round_values l.m i l.classes) (range_with_len 0 l.i)
