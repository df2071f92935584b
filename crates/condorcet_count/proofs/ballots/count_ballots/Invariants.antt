use Rattle.std.proofs.Common.{ℕ, ◌<◌, ◌≡◌, ◌+◌}
use Rattle.condorcet_count.specs.Preferences.{count_at}
use Rattle.condorcet_count.specs.Behind.{behind_count}
use Rattle.condorcet_count.proofs.ballots.count_ballots.Given as goal

abbrev pub invariant-loop-run : goal.invariant-loop-run
invariant-loop-run l = record {
  same : l.run-iterator.c ≡ l.roll.c;
  counted : (x y : ℕ) → x < l.c → y < l.c
      → count_at l.c l.counts x y + behind_count l.run-iterator.ballots x y ≡ behind_count l.roll.ballots x y;
}
