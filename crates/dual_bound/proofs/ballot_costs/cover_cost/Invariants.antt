use Rattle.std.proofs.Common.{◌≡◌, ◌<◌, ◌≤◌, ◌+◌, ◌*◌, ◌^◌, length, drop}
use Rattle.std.specs.Prelude.{unsigned_abs, ◌+ℤ◌}
use Rattle.goal_rows.specs.Suffixes.{others}
use Rattle.dual_bound.proofs.OldCosts.{others_from, rest_cost}
use Rattle.dual_bound.proofs.ballot_costs.cover_cost.Given as goal

abbrev pub invariant-loop-j : goal.invariant-loop-j
invariant-loop-j l = record {
  before : l.j ≤ l.x → l.row ≡ l.j;
  behind : l.x < l.j → l.row + 1 ≡ l.j;
  total : l.sum +ℤ rest_cost l.x l.key (drop l.row l.rows) (others_from (length l.rows + 1) l.x l.j)
      ≡ rest_cost l.x l.key l.rows (others (length l.rows + 1) l.x);
  bound : unsigned_abs l.sum ≤ l.row * 2 ^ 63;
}
