-- Who holds a ballot in a round, read from the arcs of its signature.
use Rattle.std.proofs.Common.{◌≡◌, ◌≢◌, ℕ, ◌+◌, ◌<◌, ◌≤◌, ◌&&◌, true, false, cond, List, [], ◌∷◌, refl, inl, inr, arith}
use Rattle.std.specs.Prelude.{count_by, nat_le, nat_lt, ◌==◌}
use Rattle.std.proofs.Math.IntN.{pos, ◌-ℤ◌}
use Rattle.std.proofs.lemmas.Int.{ints}
use Rattle.std.proofs.lemmas.Bool.{cases_lt}
use Rattle.std.proofs.lemmas.Bool.Decides.{nat_tests}
use Rattle.std.proofs.lemmas.List.Sums.{sum_by-cons}
use Rattle.sig_graph.specs.Paths.{path_arcs, path_sum, weight_at, IsPathFrom}
use Rattle.sig_graph.specs.Rows.{is_first_from, leads_over, one_where, row_weight_of, row_weights}
use Rattle.sig_graph.proofs.ArcNumbers.{get_or-each}

-- how many arcs of a path from u lead from before i to j
abbrev pub over : ℕ → ℕ → ℕ → List ℕ → ℕ
over i j u path = count_by (leads_over i j) (path_arcs u path)

-- whether the arc from u to x does, as a number
abbrev pub one_over : ℕ → ℕ → ℕ → ℕ → ℕ
one_over i j u x = cond (nat_lt u i && (x == j)) 1 0

over-cons : (i j u x : ℕ) (path : List ℕ) → over i j u (x ∷ path) ≡ one_over i j u x + over i j x path
over-cons i j u x path = sum_by-cons (λ a. cond (leads_over i j a) 1 0) (u, x) (path_arcs x path)

one_over-late : (i j u x : ℕ) → i ≤ u → one_over i j u x ≡ 0
one_over-late i j u x late = grind (arith, nat_tests)

one_over-past : (i j u x : ℕ) → x ≢ j → one_over i j u x ≡ 0
one_over-past i j u x ne = grind (arith, nat_tests)

one_over-here : (i j u x : ℕ) → u < i → one_over i j u x ≡ one_where (x == j)
one_over-here i j u x lt = grind (arith, nat_tests)

over-late : (m i j u : ℕ) (path : List ℕ) → i ≤ u → IsPathFrom m u path → over i j u path ≡ 0
over-late m i j u [] late is = refl
over-late m i j u (x ∷ path) late is =
    omega (arith, over-cons i j u x path, one_over-late i j u x late, over-late m i j x path (omega (arith, is.0)) is.2)

-- one arc leads over i to j exactly where j is the first place that is at least i
pub over_is_first : (m i j u : ℕ) (path : List ℕ) → u < i → i ≤ j → IsPathFrom m u path →
    over i j u path ≡ one_where (is_first_from i path j)
over_is_first m i j u [] lt le is = refl
over_is_first m i j u (x ∷ path) lt le is = elim (cases_lt x i) [
  | inl low ↦
      let test : nat_le i x ≡ false = grind (arith, nat_tests) in
      let later = over_is_first m i j x path low le is.2 in
      rw test (omega (arith, over-cons i j u x path, one_over-past i j u x (omega arith), later))
  | inr at ↦
      let test : nat_le i x ≡ true = grind (arith, nat_tests) in
      rw test (omega (arith, over-cons i j u x path, one_over-here i j u x lt, over-late m i j x path at is.2))
]

-- ---- the row of i and j

weight_at-row : (m i j u x : ℕ) → u < x → x ≤ m →
    weight_at m (row_weights m i j) u x ≡ pos (one_over i j u x) -ℤ pos (one_over i i u x)
weight_at-row m i j u x lt le = get_or-each (row_weight_of i j) m u x (pos 0) lt le

path_sum-row : (m i j u : ℕ) (path : List ℕ) → IsPathFrom m u path →
    path_sum m (row_weights m i j) u path ≡ pos (over i j u path) -ℤ pos (over i i u path)
path_sum-row m i j u [] is = omega (arith, ints)
path_sum-row m i j u (x ∷ path) is =
    omega (
      arith,
      ints,
      weight_at-row m i j u x is.0 is.1,
      path_sum-row m i j x path is.2,
      over-cons i j u x path,
      over-cons i i u x path,
    )

-- a row's weight: 1 where j holds the ballot in round i, less 1 where i does
pub row_by_arcs : (m i j : ℕ) (path : List ℕ) → 1 ≤ i → i ≤ j → IsPathFrom m 0 path →
    path_sum m (row_weights m i j) 0 path ≡
    pos (one_where (is_first_from i path j)) -ℤ pos (one_where (is_first_from i path i))
row_by_arcs m i j path some le is =
    omega (
      arith,
      ints,
      path_sum-row m i j 0 path is,
      over_is_first m i j 0 path some le is,
      over_is_first m i i 0 path some (omega arith) is,
    )
