use Rattle.std.proofs.Common.{◌≡◌, ◌-◌}
use Rattle.std.specs.Prelude.{find}
use Rattle.std.specs.List.{range_with_len}
use Rattle.irv_count.specs.Orders.{stands}
use Rattle.goal_rows.specs.KeyCounts.{first_bit}
use Rattle.goal_rows.proofs.sums.first_bit.Given as goal

abbrev pub invariant-loop-k : goal.invariant-loop-k
invariant-loop-k l = find (λ n. stands l.key n) (range_with_len l.k (40 - l.k)) ≡ first_bit l.i l.key
