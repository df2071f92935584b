use Rattle.std.proofs.Common.{ℕ, ◌<◌, ◌+◌, ◌≡◌, get_or, length}
use Rattle.irv_count.specs.Orders.{held_count, stands}
use Rattle.irv_count.proofs.held.held_counts.Given as goal

abbrev pub invariant-loop-run : goal.invariant-loop-run
invariant-loop-run l = record {
  same : l.run-iterator.c ≡ l.roll.c;
  counted : (x : ℕ) → x < length l.counts
      → get_or l.counts x 0 + held_count (stands l.standing) l.run-iterator.ballots x ≡ held_count (stands l.standing) l.roll.ballots x;
}
