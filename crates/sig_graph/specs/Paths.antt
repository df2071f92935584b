-- The graph of a suffix of m candidates: the start 0, the places 1 to m, and an arc from each of these to each later
-- place. A path is a list of places along arcs, from the start or from a place.
use Rattle.std.specs.Prelude.{◌≡◌, ℕ, ◌+◌, ◌-◌, ◌*◌, ◌/◌, ◌<◌, ◌≤◌, List, [], ◌∷◌, map, slice_index, slice_index_or, unsigned_abs, ℤ, pos, ◌≤ℤ◌}
use Rattle.std.proofs.Common.{zero, suc}
use Rattle.std.specs.List.{flat_map, range_with_len}
use Rattle.mov_base.specs.Sums.{sum_z}
use Rattle.sig_graph.specs.declared.weights.TheConstants.{WEIGHT_LIMIT}

-- the arcs of the graph, by where they begin, then by where they end
abbrev pub arcs_of : ℕ → List (ℕ × ℕ)
arcs_of m = flat_map (λ u. map (λ x. (u, x)) (range_with_len (u + 1) (m - u))) (range_with_len 0 m)

-- how many there are
abbrev pub arc_total : ℕ → ℕ
arc_total m = m * (m + 1) / 2

-- how many arcs begin before the place u
abbrev pub arcs_before : ℕ → ℕ → ℕ
arcs_before m zero = 0
arcs_before m (suc u) = arcs_before m u + (m - u)

-- the number of the arc from u to x, from 0
abbrev pub arc_at : ℕ → ℕ → ℕ → ℕ
arc_at m u x = arcs_before m u + (x - u - 1)

-- ---- paths

-- the places of a path from u: each comes after the one before it, and is one of the m
abbrev pub IsPathFrom : ℕ → ℕ → List ℕ → Type 0
IsPathFrom m u [] = Unit {0}
IsPathFrom m u (x ∷ path) = (u < x) × (x ≤ m) × IsPathFrom m x path

-- a path from the start
abbrev pub IsPath : ℕ → List ℕ → Type 0
IsPath m path = IsPathFrom m 0 path

-- the arcs of a path from u
abbrev pub path_arcs : ℕ → List ℕ → List (ℕ × ℕ)
path_arcs u [] = []
path_arcs u (x ∷ path) = (u, x) ∷ path_arcs x path

-- ---- weights

-- the weight of the arc from u to x, of a list of weights in the order of arcs
abbrev pub weight_at : ℕ → List ℤ → ℕ → ℕ → ℤ
weight_at m weights u x = slice_index_or weights (arc_at m u x) (pos 0)

-- the weights of the arcs of a path from u together
abbrev pub path_sum : ℕ → List ℤ → ℕ → List ℕ → ℤ
path_sum m weights u path = sum_z (λ a. weight_at m weights a.0 a.1) (path_arcs u path)

-- the greatest sum over all paths from u, the empty one included
pub record IsBest (m : ℕ) (weights : List ℤ) (u : ℕ) (best : ℤ) : Type 0 where
  pub above : (path : List ℕ) → IsPathFrom m u path → path_sum m weights u path ≤ℤ best
  pub reached : (path : List ℕ) × IsPathFrom m u path × (path_sum m weights u path ≡ best)

-- a weight within the limit
abbrev pub IsSmallWeight : ℤ → Type 0
IsSmallWeight w = unsigned_abs w < WEIGHT_LIMIT

-- ---- ballots

-- the candidates of a suffix at the places of a path, in turn
abbrev pub ballot_of : List ℕ → List ℕ → List ℕ
ballot_of suffix path = map (λ p. slice_index suffix (p - 1)) path
