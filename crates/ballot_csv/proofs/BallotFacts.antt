-- A ballot, cell by cell, and a ballot without repeats.
use Rattle.std.proofs.Common.{ℕ, List, [], ◌∷◌, ◌++◌, ◌≡◌, ◌+◌, ◌≤◌, refl, ap, true, false, Option, Some, None, inl, inr, arith, cond, take, drop}
use Rattle.std.specs.Prelude.{◌==◌, ◌||◌, filter, not, slice_get}
use Rattle.std.specs.List.{filter_map, list_any}
use Rattle.std.proofs.lemmas.Bool.{cases_Bool, eqb-true}
use Rattle.std.proofs.lemmas.Bool.Decides.{nat_tests}
use Rattle.std.proofs.lemmas.List.{append-nil}
use Rattle.std.proofs.lemmas.List.Elements.{filter-append, filter_map-append}
use Rattle.ballot_csv.specs.OneRecord.{ballot_of, candidate_of, with_candidate, without_repeats}
use Rattle.ballot_csv.proofs.CellFacts.{rest_more}

-- another number is found among the rest as before
kept : (x y : ℕ) (zs : List ℕ) → (y == x) ≡ false → list_any (λ z. z == y) (filter (λ z. not (z == x)) zs) ≡ list_any (λ z. z == y) zs
kept x y [] other = refl
kept x y (z ∷ zs) other = elim (cases_Bool (z == x)) [
  | inl same ↦
      let is = eqb-true z x same in
      let differs : (z == y) ≡ false = grind (arith, nat_tests) in
      rw (same, differs) (kept x y zs other)
  | inr new ↦ rw new (ap (λ b. (z == y) || b) (kept x y zs other))
]

-- one number more
repeats_last : (xs : List ℕ) (y : ℕ) → without_repeats (xs ++ y ∷ []) ≡ with_candidate (without_repeats xs) (Some y)
repeats_last [] y = refl
repeats_last (x ∷ xs) y = rw (repeats_last xs y) (elim (cases_Bool (x == y)) [
  | inl same ↦
      let is = eqb-true x y same in
      let back : (y == x) ≡ true = grind (arith, nat_tests) in
      rw same (ap (λ t. x ∷ t) (here same back))
  | inr other ↦
      let back : (y == x) ≡ false = grind (arith, nat_tests) in
      rw (other, kept x y (without_repeats xs) back) (there back)
])
  where
    here : (x == y) ≡ true → (y == x) ≡ true
        → filter (λ z. not (z == x)) (cond (list_any (λ z. z == y) (without_repeats xs)) (without_repeats xs) (without_repeats xs ++ y ∷ [])) ≡ filter (λ z. not (z == x)) (without_repeats xs)
    here same back = elim (cases_Bool (list_any (λ z. z == y) (without_repeats xs))) [
      | inl seen ↦ rw seen refl
      | inr new ↦ rw (new, filter-append (λ z. not (z == x)) (without_repeats xs) (y ∷ []), back) (append-nil (filter (λ z. not (z == x)) (without_repeats xs)))
    ]

    there : (y == x) ≡ false
        → x ∷ filter (λ z. not (z == x)) (cond (list_any (λ z. z == y) (without_repeats xs)) (without_repeats xs) (without_repeats xs ++ y ∷ []))
        ≡ cond (list_any (λ z. z == y) (without_repeats xs)) (x ∷ filter (λ z. not (z == x)) (without_repeats xs)) (x ∷ filter (λ z. not (z == x)) (without_repeats xs) ++ y ∷ [])
    there back = elim (cases_Bool (list_any (λ z. z == y) (without_repeats xs))) [
      | inl seen ↦ rw seen refl
      | inr new ↦ rw (new, filter-append (λ z. not (z == x)) (without_repeats xs) (y ∷ []), back) refl
    ]

last_cell : (o : Option ℕ) (xs : List ℕ) (more : List ℕ) → more ≡ filter_map (λ x. x) (o ∷ []) → without_repeats (xs ++ more) ≡ with_candidate (without_repeats xs) o
last_cell None xs more is = rw is (ap without_repeats (append-nil xs))
last_cell (Some y) xs more is = rw is (repeats_last xs y)

-- one cell more
pub ballot_more : (names cells : List (List ℕ)) (i : ℕ) (cell : List ℕ) → 1 ≤ i → slice_get cells i ≡ Some cell
    → ballot_of names (drop 1 (take (i + 1) cells)) ≡ with_candidate (ballot_of names (drop 1 (take i cells))) (candidate_of names cell)
ballot_more names cells i cell one at =
    rw (rest_more cells i cell one at, filter_map-append (candidate_of names) (drop 1 (take i cells)) (cell ∷ []))
    (last_cell (candidate_of names cell) (filter_map (candidate_of names) (drop 1 (take i cells))) (filter_map (candidate_of names) (cell ∷ [])) refl)
