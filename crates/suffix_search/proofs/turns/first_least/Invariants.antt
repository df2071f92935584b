use Rattle.std.proofs.Common.{◌≡◌, ◌<◌, ◌≤◌, ℕ, length}
use Rattle.suffix_search.specs.Searches.{bound_in}
use Rattle.suffix_search.proofs.turns.first_least.Given as goal

abbrev pub invariant-loop-i : goal.invariant-loop-i
invariant-loop-i l =
    (l.place < length l.leaves) × (l.place < l.i) × (l.low ≡ bound_in l.leaves l.place)
    × ((k : ℕ) → k < l.i → l.low ≤ bound_in l.leaves k)
    × ((k : ℕ) → k < l.place → l.low < bound_in l.leaves k)
