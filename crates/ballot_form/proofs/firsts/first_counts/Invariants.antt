use Rattle.std.proofs.Common.{ℕ, ◌<◌, ◌+◌, ◌≡◌, get_or, length}
use Rattle.ballot_form.specs.Scores.{first_count}
use Rattle.ballot_form.proofs.firsts.first_counts.Given as goal

abbrev pub invariant-loop-run : goal.invariant-loop-run
invariant-loop-run l = record {
  same : l.run-iterator.c ≡ l.roll.c;
  counted : (x : ℕ) → x < length l.counts → get_or l.counts x 0 + first_count l.run-iterator.ballots x ≡ first_count l.roll.ballots x;
}
