use Rattle.std.proofs.Common.{ℕ, Bool, ◌≡◌, ◌≤◌, take}
use Rattle.mov_base.specs.Sums.{add_up}
use Rattle.goal_rows.specs.KeyCounts.{counted_by}
use Rattle.goal_rows.proofs.sums.count_where.Given as goal

abbrev pub invariant-loop-k : goal.invariant-loop-k
invariant-loop-k g l = record {
  value : (passes : ℕ → Bool) → ((key : ℕ) (b : Bool) → goal.F-post g l.test key b → b ≡ passes key) → l.sum ≡ counted_by passes (take l.k l.classes);
  few : l.sum ≤ add_up (λ c. c.1) (take l.k l.classes);
}
