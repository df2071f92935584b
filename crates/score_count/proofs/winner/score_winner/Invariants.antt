use Rattle.std.proofs.Common.{ℕ, ◌<◌, ◌≤◌, get_or}
use Rattle.score_count.proofs.winner.score_winner.Given as goal

abbrev pub invariant-loop-i : goal.invariant-loop-i
invariant-loop-i l = record {
  within : l.best < l.i;
  greatest : (y : ℕ) → y < l.i → get_or l.scores y 0 ≤ get_or l.scores l.best 0;
  lowest : (y : ℕ) → y < l.best → get_or l.scores y 0 < get_or l.scores l.best 0;
}
