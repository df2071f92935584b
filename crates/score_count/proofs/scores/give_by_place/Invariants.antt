use Rattle.std.proofs.Common.{ℕ, ◌<◌, ◌+◌, ◌*◌, ◌≡◌, take, get_or, length}
use Rattle.ballot_form.specs.Scores.{borda_points}
use Rattle.score_count.proofs.scores.give_by_place.Given as goal

abbrev pub invariant-loop-i : goal.invariant-loop-i
invariant-loop-i l = (x : ℕ) → x < length l.scores
    → get_or l.scores x 0 ≡ get_or l.initial.scores x 0 + l.count * borda_points l.c (take l.i l.row) x
