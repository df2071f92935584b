-- Who holds a ballot, by the bits of its key and by the places that the key stands for.
use Rattle.std.proofs.Common.{◌≡◌, ℕ, zero, suc, ◌+◌, ◌-◌, ◌<◌, ◌≤◌, List, [], ◌∷◌, ◌++◌, Bool, true, false, map, refl, sym, ap, ◌∙◌, inl, inr, arith}
use Rattle.std.specs.Prelude.{◌==◌, nat_le, filter, find, ℤ}
use Rattle.std.specs.List.{flat_map, range_with_len}
use Rattle.std.proofs.lemmas.Bool.{cases_Bool, cases_eq}
use Rattle.std.proofs.lemmas.Bool.Decides.{nat_tests}
use Rattle.std.proofs.lemmas.List.{append-nil, map-append}
use Rattle.std.proofs.lemmas.List.Concat.{flat_map-cons}
use Rattle.ballot_form.specs.Scores.{is_some_of}
use Rattle.irv_count.specs.Orders.{stands}
use Rattle.irv_count.proofs.Members.{differ_test, same_test}
use Rattle.signature_class.specs.declared.limits.TheConstants.{MOST_PLACES}
use Rattle.sig_graph.specs.Paths.{IsPathFrom}
use Rattle.sig_graph.specs.Rows.{is_first_from}
use Rattle.goal_rows.specs.KeyCounts.{is_held}
use Rattle.goal_rows.proofs.Lists.{list_more}
use Rattle.dual_bound.specs.Weighing.{places_by, row_places}
use Rattle.dual_bound.proofs.PathArcs.{round_at}
use Rattle.dual_bound.proofs.SideBySide.{AreAlike}

-- the places from 1 on whose bits stand in a key
abbrev on_place : ℕ → ℕ → Bool
on_place key p = stands key (p - 1)

-- the places of a key are a path
path_by_test : (m u a n : ℕ) (test : ℕ → Bool) → u < a → a + n ≤ m + 1 → IsPathFrom m u (filter test (range_with_len a n))
path_by_test m u a zero test above fits = tt
path_by_test m u a (suc n) test above fits = elim (cases_Bool (test a)) [
  | inl on ↦ rw on (above, omega (arith, fits), path_by_test m a (a + 1) n test (omega arith) (omega (arith, fits)))
  | inr off ↦ rw off (path_by_test m u (a + 1) n test (omega (arith, above)) (omega (arith, fits)))
]

pub places_are_path : (m key : ℕ) → IsPathFrom m 0 (places_by m key)
places_are_path m key = path_by_test m 0 1 m (on_place key) (omega arith) (omega arith)

-- no place past j is j
found_past : (test : ℕ → Bool) (j a n : ℕ) → j < a → is_some_of (find test (range_with_len a n)) j ≡ false
found_past test j a zero past = refl
found_past test j a (suc n) past = elim (cases_Bool (test a)) [
  | inl on ↦ rw on (differ_test a j (λ e. omega (arith, e, past)))
  | inr off ↦ rw off (found_past test j (a + 1) n (omega (arith, past)))
]

-- places before i aren't found
skipped : (test : ℕ → Bool) (i a d n : ℕ) → a + d ≡ i
    → find (λ p. nat_le i p) (filter test (range_with_len a (d + n))) ≡ find (λ p. nat_le i p) (filter test (range_with_len i n))
skipped test i a zero n at =
    let e : a ≡ i = omega (arith, at) in
    let f : zero + n ≡ n = omega arith in
    rw (e, f) refl
skipped test i a (suc d) n at =
    let f : suc d + n ≡ suc (d + n) = omega arith in
    let below : nat_le i a ≡ false = grind (arith, nat_tests) in
    let rest = skipped test i (a + 1) d n (omega (arith, at)) in
    elim (cases_Bool (test a)) [
      | inl on ↦ rw (f, on, below) rest
      | inr off ↦ rw (f, off) rest
    ]

same_place : (a j : ℕ) → (a == j) ≡ (a + 1 == j + 1)
same_place a j = elim (cases_eq a j) [
  | inl same ↦ same_test a j same ∙ sym (same_test (a + 1) (j + 1) (ap (λ k. k + 1) same))
  | inr differ ↦ differ_test a j differ ∙ sym (differ_test (a + 1) (j + 1) (λ e. differ (omega (arith, e))))
]

-- the first bit from a on, and the first place from a + 1 on
found_alike : (key i j a n more : ℕ) → i ≤ a + 1 → j < a + n
    → is_some_of (find (λ k. stands key k) (range_with_len a (n + more))) j ≡ is_some_of (find (λ p. nat_le i p) (filter (on_place key) (range_with_len (a + 1) n))) (j + 1)
found_alike key i j a zero more from to =
    let f : zero + more ≡ more = omega arith in
    rw f (found_past (λ k. stands key k) j a more (omega (arith, to)))
found_alike key i j a (suc n) more from to =
    let f : suc n + more ≡ suc (n + more) = omega arith in
    let back : a + 1 - 1 ≡ a = omega arith in
    let reached : nat_le i (a + 1) ≡ true = grind (arith, nat_tests) in
    let rest = found_alike key i j (a + 1) n more (omega (arith, from)) (omega (arith, to)) in
    elim (cases_Bool (stands key a)) [
      | inl on ↦ rw (f, back, on, reached) (same_place a j)
      | inr off ↦ rw (f, back, off) rest
    ]

-- the holder in round i, by the key's bits and by its places
pub held_by_place : (m i j key : ℕ) → i < m → j < m → m ≤ MOST_PLACES → is_held i j key ≡ is_first_from (i + 1) (places_by m key) (j + 1)
held_by_place m i j key im jm few =
    let n : MOST_PLACES - i ≡ (m - i) + (MOST_PLACES - m) = omega (arith, im, few) in
    let whole : m ≡ i + (m - i) = omega (arith, im) in
    let first : 1 + i ≡ i + 1 = omega arith in
    ap (λ k. is_some_of (find (λ k. stands key k) (range_with_len i k)) j) n
    ∙ found_alike key (i + 1) j i (m - i) (MOST_PLACES - m) (omega arith) (omega (arith, im, jm))
    ∙ ap (λ o. is_some_of o (j + 1)) (sym (skipped (on_place key) (i + 1) 1 i (m - i) first))
    ∙ ap (λ n. is_some_of (find (λ p. nat_le (i + 1) p) (filter (on_place key) (range_with_len 1 n))) (j + 1)) (sym whole)

-- ---- the rows of a suffix, by the places that they compare

-- each of two places of m, in their order
abbrev pub AreCompared : ℕ → List (ℕ × ℕ) → Type 0
AreCompared m [] = Unit {0}
AreCompared m (r ∷ rs) = (1 ≤ r.0) × (r.0 ≤ r.1) × (r.1 ≤ m) × AreCompared m rs

compared_append : (m : ℕ) (rs qs : List (ℕ × ℕ)) → AreCompared m rs → AreCompared m qs → AreCompared m (rs ++ qs)
compared_append m [] qs one two = two
compared_append m (r ∷ rs) qs one two = (one.0, one.1, one.2, compared_append m rs qs one.3 two)

compared_round : (m i a n : ℕ) → 1 ≤ i → i ≤ a → a + n ≤ m + 1 → AreCompared m (map (λ j. (i, j)) (range_with_len a n))
compared_round m i a zero some from fits = tt
compared_round m i a (suc n) some from fits = (some, from, omega (arith, fits), compared_round m i (a + 1) n some (omega (arith, from)) (omega (arith, fits)))

compared_rounds : (m k n : ℕ) → 1 ≤ k → k + n ≤ m + 1 → AreCompared m (flat_map (round_at m) (range_with_len k n))
compared_rounds m k zero some fits = tt
compared_rounds m k (suc n) some fits =
    rw (flat_map-cons (round_at m) k (range_with_len (k + 1) n))
    (compared_append m (round_at m k) (flat_map (round_at m) (range_with_len (k + 1) n)) (compared_round m k (k + 1) (m - k) some (omega arith) (omega (arith, fits)))
    (compared_rounds m (k + 1) n (omega (arith, some)) (omega (arith, fits))))

pub row_places_compared : (m : ℕ) → AreCompared m (row_places m)
row_places_compared m = compared_rounds m 1 (m - 1) (omega arith) (omega arith)

-- what the rows are made of, by the places less one
abbrev pub from_places : {W : Type 0} → (ℕ → ℕ → W) → ℕ × ℕ → W
from_places held r = held (r.0 - 1) (r.1 - 1)

abbrev pub held_at : {W : Type 0} → (ℕ → ℕ → W) → ℕ → ℕ → List W
held_at held m i = map (λ j. held i j) (range_with_len (i + 1) (m - (i + 1)))

round_back : {W : Type 0} (held : ℕ → ℕ → W) (i a n : ℕ) → map (λ j. held i j) (range_with_len a n) ≡ map (from_places held) (map (λ j. (i + 1, j)) (range_with_len (a + 1) n))
round_back held i a zero = refl
round_back held i a (suc n) =
    let one : i + 1 - 1 ≡ i = omega arith in
    let two : a + 1 - 1 ≡ a = omega arith in
    rw (one, two) (ap (λ ws. held i a ∷ ws) (round_back held i (a + 1) n))

rounds_back : {W : Type 0} (held : ℕ → ℕ → W) (m i n : ℕ)
    → flat_map (held_at held m) (range_with_len i n) ≡ map (from_places held) (flat_map (round_at m) (range_with_len (i + 1) n))
rounds_back held m i zero = refl
rounds_back held m i (suc n) =
    flat_map-cons (held_at held m) i (range_with_len (i + 1) n)
    ∙ ap (λ ws. ws ++ flat_map (held_at held m) (range_with_len (i + 1) n)) (round_back held i (i + 1) (m - (i + 1)))
    ∙ ap (λ ws. map (from_places held) (round_at m (i + 1)) ++ ws) (rounds_back held m (i + 1) n)
    ∙ sym (map-append (from_places held) (round_at m (i + 1)) (flat_map (round_at m) (range_with_len (i + 1 + 1) n)))
    ∙ ap (map (from_places held)) (sym (flat_map-cons (round_at m) (i + 1) (range_with_len (i + 1 + 1) n)))

pub rows_by_places : {W : Type 0} (held : ℕ → ℕ → W) (m : ℕ) → flat_map (held_at held m) (range_with_len 0 m) ≡ map (from_places held) (row_places m)
rows_by_places held zero = refl
rows_by_places held (suc n) =
    let last : suc n - (n + 1) ≡ 0 = omega arith in
    let none = ap (λ k. map (λ j. held n j) (range_with_len (n + 1) k)) last in
    let front = flat_map (held_at held (suc n)) (range_with_len 0 n) in
    let next : n + 1 ≡ suc n = omega arith in
    let one : suc n - 1 ≡ n = omega arith in
    ap (λ k. flat_map (held_at held (suc n)) (range_with_len 0 k)) (sym next)
    ∙ sym (list_more (held_at held (suc n)) n front (front ++ held_at held (suc n) n) refl refl)
    ∙ ap (λ ws. front ++ ws) none
    ∙ append-nil front
    ∙ rounds_back held (suc n) 0 n
    ∙ ap (λ k. map (from_places held) (flat_map (round_at (suc n)) (range_with_len 1 k))) (sym one)

-- two ways that are alike for places that are compared
pub alike_on_places : (m : ℕ) (f g : ℕ × ℕ → ℤ) (rs : List (ℕ × ℕ)) → AreCompared m rs
    → ((i j : ℕ) → 1 ≤ i → i ≤ j → j ≤ m → f (i, j) ≡ g (i, j)) → AreAlike f g rs
alike_on_places m f g [] are same = tt
alike_on_places m f g (r ∷ rs) are same = (same r.0 r.1 are.0 are.1 are.2, alike_on_places m f g rs are.3 same)
