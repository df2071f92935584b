use Rattle.std.proofs.Common.{ℕ, ◌<◌, ◌≤◌, ◌+◌, ◌*◌, get_or}
use Rattle.dhondt_seats.proofs.allocation.is_fair.Given as goal

abbrev pub invariant-loop-a : goal.invariant-loop-a
invariant-loop-a l = (a : ℕ) → a < l.a → 1 ≤ get_or l.shares a 0
    → get_or l.votes l.next 0 * get_or l.shares a 0 ≤ get_or l.votes a 0 * (get_or l.shares l.next 0 + 1)
