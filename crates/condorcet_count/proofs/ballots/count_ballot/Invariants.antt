use Rattle.std.proofs.Common.{ℕ, ◌<◌, ◌≡◌, ◌+◌, take, cond}
use Rattle.condorcet_count.specs.Preferences.{count_at}
use Rattle.condorcet_count.specs.Behind.{is_behind}
use Rattle.condorcet_count.proofs.ballots.count_ballot.Given as goal

abbrev pub invariant-loop-i : goal.invariant-loop-i
invariant-loop-i l = (x y : ℕ) → x < l.c → y < l.c → count_at l.c l.counts x y ≡ count_at l.c l.initial.counts x y + cond (is_behind (take l.i l.row) x y) l.times 0
