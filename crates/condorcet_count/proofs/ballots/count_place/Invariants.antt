use Rattle.std.proofs.Common.{ℕ, ◌<◌, ◌≡◌, ◌+◌, take, cond}
use Rattle.std.specs.Prelude.{◌==◌, ◌&&◌}
use Rattle.condorcet_count.specs.Preferences.{count_at}
use Rattle.condorcet_count.specs.Behind.{is_on}
use Rattle.condorcet_count.proofs.ballots.count_place.Given as goal

abbrev pub invariant-loop-other : goal.invariant-loop-other
invariant-loop-other l = (x y : ℕ) → x < l.c → y < l.c
    → count_at l.c l.counts x y ≡ count_at l.c l.initial.counts x y + cond ((l.last == x) && is_on (take l.other-index l.upto) y) l.times 0
