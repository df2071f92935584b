-- The best of the places one after another, from the last back to the start.
use Rattle.std.specs.Prelude.{◌≡◌, ◌⊎◌, ℕ, ◌-◌, ◌*◌, List, ℤ, pos, ◌≤ℤ◌, ◌<ℤ◌}
use Rattle.sig_graph.specs.Paths.{IsBest}
use Rattle.sig_graph.specs.declared.weights.TheConstants.{WEIGHT_LIMIT}

-- what the cell of the place u holds: its best, at most the limit for each arc that a path from there can have
pub record IsDone (m : ℕ) (weights : List ℤ) (u : ℕ) (best : ℤ) : Type 0 where
  pub greatest : IsBest m weights u best
  pub at_least : pos 0 ≤ℤ best
  pub at_most : best ≤ℤ pos ((m - u) * WEIGHT_LIMIT)

-- the greater of two, the first where they are equal
abbrev pub IsBetter : ℤ → ℤ → ℤ → Type 0
IsBetter value via better = ((via ≤ℤ value) × (better ≡ value)) ⊎ ((value <ℤ via) × (better ≡ via))
