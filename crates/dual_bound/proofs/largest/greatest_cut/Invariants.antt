use Rattle.std.proofs.Common.{ℕ, ◌+◌, ◌-◌, ◌<◌, ◌≤◌, List}
use Rattle.signature_class.specs.Classes.{IsGrouped}
use Rattle.dual_bound.specs.Largest.{CutsAt}
use Rattle.dual_bound.proofs.largest.greatest_cut.Given as goal

abbrev pub decreases-loop-high : goal.decreases-loop-high
decreases-loop-high l = l.high - l.low

abbrev pub invariant-loop-high : goal.invariant-loop-high
invariant-loop-high l =
    (l.low < l.high)
    × (l.high ≤ l.ballots + 2)
    × ((xs : List ℕ) → IsGrouped xs l.classes → CutsAt l.base xs l.low)
    × ((xs : List ℕ) → IsGrouped xs l.classes → (u : ℕ) → u ≤ l.ballots + 1 → CutsAt l.base xs u → u < l.high)
