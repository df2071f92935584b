use Rattle.std.proofs.Common.{◌≡◌, ◌++◌, ◌+◌, ◌-◌, map}
use Rattle.std.specs.List.{range_with_len}
use Rattle.goal_rows.specs.KeyCounts.{is_held, lead_by}
use Rattle.goal_rows.proofs.sums.add_round.Given as goal

abbrev pub invariant-loop-j : goal.invariant-loop-j
invariant-loop-j l = l.sums ≡ l.fn.sums ++ map (λ j. lead_by (is_held l.i j) (is_held l.i l.i) l.classes) (range_with_len (l.i + 1) (l.j - (l.i + 1)))
