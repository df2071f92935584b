use Rattle.std.proofs.Common.{ℕ, ◌<◌, ◌+◌, ◌≡◌, get_or, length}
use Rattle.ballot_form.specs.Scores.{borda_points, score_of}
use Rattle.score_count.proofs.scores.add_places.Given as goal

abbrev pub invariant-loop-run : goal.invariant-loop-run
invariant-loop-run l = record {
  same : l.run-iterator.c ≡ l.roll.c;
  counted : (x : ℕ) → x < length l.scores
      → get_or l.scores x 0 + score_of (borda_points l.c) l.run-iterator.ballots x ≡ score_of (borda_points l.c) l.roll.ballots x;
}
