use Rattle.std.proofs.Common.{ℕ, ◌≡◌, ◌<◌, ◌≤◌, get_or, length, take}
use Rattle.mov_base.specs.Sums.{add_up}
use Rattle.goal_rows.specs.KeyCounts.{counted_by, is_held}
use Rattle.goal_rows.proofs.sums.held_counts.Given as goal

abbrev pub invariant-loop-k : goal.invariant-loop-k
invariant-loop-k l = record {
  value : (j : ℕ) → j < 40 → get_or l.held j 0 ≡ counted_by (is_held l.i j) (take l.k l.classes);
  few : (j : ℕ) → get_or l.held j 0 ≤ add_up (λ c. c.1) (take l.k l.classes);
  long : length l.held ≡ 40;
}
