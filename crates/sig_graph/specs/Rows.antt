-- The rows of a suffix by arcs. The weight of a row for the places i < j is 1 for a ballot that j holds in round i, and
-- less 1 for one that i holds; who holds it is read from the arcs of its signature.
use Rattle.std.specs.Prelude.{ℕ, nat_le, nat_lt, ◌==◌, ◌&&◌, Bool, List, map, find, if◌then◌else◌, ℤ, pos, ◌-ℤ◌}
use Rattle.ballot_form.specs.Scores.{is_some_of}
use Rattle.sig_graph.specs.Paths.{arcs_of}

abbrev pub one_where : Bool → ℕ
one_where b = if b then 1 else 0

-- the arc leads from before the place i to the place j
abbrev pub leads_over : ℕ → ℕ → ℕ × ℕ → Bool
leads_over i j a = nat_lt a.0 i && (a.1 == j)

-- the weight of an arc in the row of i and j: 1 on those from before i to j, less 1 on those from before i to i
abbrev pub row_weight_of : ℕ → ℕ → ℕ × ℕ → ℤ
row_weight_of i j a = pos (one_where (leads_over i j a)) -ℤ pos (one_where (leads_over i i a))

-- the weights of all arcs in that row, in their order
abbrev pub row_weights : ℕ → ℕ → ℕ → List ℤ
row_weights m i j = map (row_weight_of i j) (arcs_of m)

-- j is the first of the places that is at least i
abbrev pub is_first_from : ℕ → List ℕ → ℕ → Bool
is_first_from i places j = is_some_of (find (λ p. nat_le i p) places) j
