-- Places of candidates in a suffix.
use Rattle.std.proofs.Common.{ℕ, zero, suc, List, [], ◌∷◌, true, false, ◌≡◌, ◌<◌, ◌≤◌, ◌+◌, ◌-◌, ◌==◌, ◌∙◌, ◌⊎◌}
use Rattle.std.proofs.Common.{length, drop, get_or, ltb, refl, sym, ap, inl, inr, arith}
use Rattle.std.proofs.lemmas.Bool.{cases_Bool, cases_eq, lt-ltb, le-ltb}
use Rattle.ballot_form.specs.Ballots.{AreDistinct}
use Rattle.irv_count.specs.Orders.{member}
use Rattle.irv_count.proofs.Members.{differ_test, member_at, same_test}
use Rattle.signature_class.specs.Signatures.{candidate_at, place_from, place_in}

-- a candidate isn't in the suffix, or its place is one of these
pub place_range : (suffix : List ℕ) (i x : ℕ)
    → (place_from i suffix x ≡ 0) ⊎ ((i ≤ place_from i suffix x) × (place_from i suffix x < i + length suffix))
place_range [] i x = inl refl
place_range (y ∷ suffix) i x = elim (cases_Bool (y == x)) [
  | inl t ↦ rw t (inr (omega arith, omega arith))
  | inr f ↦ rw f (elim (place_range suffix (i + 1) x) [
    | inl none ↦ inl none
    | inr some ↦ inr (omega (arith, some.0), omega (arith, some.1))
  ])
]

pub place_le : (suffix : List ℕ) (x : ℕ) → place_in suffix x ≤ length suffix
place_le suffix x = elim (place_range suffix 1 x) [
  | inl none ↦ omega (arith, none)
  | inr some ↦ omega (arith, some.1)
]

-- one that isn't in the suffix
pub place_out : (suffix : List ℕ) (i x : ℕ) → member x suffix ≡ false → place_from i suffix x ≡ 0
place_out [] i x out = refl
place_out (y ∷ suffix) i x out = elim (cases_eq y x) [
  | inl same ↦ absurd (let e : true ≡ false = rw (same_test x y (sym same)) at out in cc)
  | inr other ↦ rw (differ_test y x other) (place_out suffix (i + 1) x (rw (differ_test x y (λ e. other (sym e))) at out))
]

-- one that is
pub place_on : (suffix : List ℕ) (i x : ℕ) → 1 ≤ i → member x suffix ≡ true → 1 ≤ place_from i suffix x
place_on [] i x some on = cc
place_on (y ∷ suffix) i x some on = elim (cases_eq y x) [
  | inl same ↦ rw (same_test y x same) some
  | inr other ↦ rw (differ_test y x other) (place_on suffix (i + 1) x (omega arith) (rw (differ_test x y (λ e. other (sym e))) at on))
]

tail_distinct : (y : ℕ) (suffix : List ℕ) → AreDistinct (y ∷ suffix) → AreDistinct suffix
tail_distinct y suffix distinct i j d before within = distinct (suc i) (suc j) d (omega arith) (omega arith)

-- the first of distinct candidates isn't among the others
first_out : (y : ℕ) (suffix : List ℕ) → AreDistinct (y ∷ suffix) → member y suffix ≡ false
first_out y suffix distinct = elim (cases_Bool (member y suffix)) [
  | inl on ↦ let r = member_at y suffix on in absurd (distinct 0 (suc r.0) 0 (omega arith) (let k = r.1 in omega arith) (sym r.2))
  | inr off ↦ off
]

-- the place of the candidate at a place
pub place_at : (suffix : List ℕ) (i k : ℕ) → AreDistinct suffix → k < length suffix
    → place_from i suffix (get_or suffix k 0) ≡ i + k
place_at [] i k distinct within = absurd (omega arith)
place_at (y ∷ suffix) i zero distinct within = rw (same_test y y refl) (omega arith)
place_at (y ∷ suffix) i (suc k) distinct within =
    let other : (y == get_or suffix k 0) ≡ false = differ_test y (get_or suffix k 0) (distinct 0 (suc k) 0 (omega arith) within) in
    let ih = place_at suffix (i + 1) k (tail_distinct y suffix distinct) (omega arith) in
    rw other (omega (arith, ih))

pub place_of_candidate : (suffix : List ℕ) (p : ℕ) → AreDistinct suffix → 1 ≤ p → p ≤ length suffix
    → place_in suffix (candidate_at suffix p) ≡ p
place_of_candidate suffix p distinct low high = omega (arith, place_at suffix 1 (p - 1) distinct (omega arith))

-- the candidate at the place of a candidate
pub at_place : (suffix : List ℕ) (i x : ℕ) → 1 ≤ place_from i suffix x → get_or suffix (place_from i suffix x - i) 0 ≡ x
at_place [] i x some = absurd (omega arith)
at_place (y ∷ suffix) i x some = elim (cases_eq y x) [
  | inl same ↦ rw (same_test y x same) (let e : i - i ≡ 0 = omega arith in rw e same)
  | inr other ↦
      let f = differ_test y x other in
      let some1 : 1 ≤ place_from (i + 1) suffix x = rw f at some in
      rw f (elim (place_range suffix (i + 1) x) [
        | inl none ↦ absurd (omega (arith, none))
        | inr within ↦
            let low = within.0 in
            let e : place_from (i + 1) suffix x - i ≡ suc (place_from (i + 1) suffix x - (i + 1)) = omega arith in
            rw e (at_place suffix (i + 1) x some1)
      ])
]

pub candidate_of_place : (suffix : List ℕ) (x : ℕ) → 1 ≤ place_in suffix x → candidate_at suffix (place_in suffix x) ≡ x
candidate_of_place suffix x some = at_place suffix 1 x some

-- who is at a place after so many, of distinct candidates
pub later_places : (suffix : List ℕ) (i j x : ℕ) → AreDistinct suffix → 1 ≤ i
    → member x (drop j suffix) ≡ ltb (i + j - 1) (place_from i suffix x)
later_places [] i zero x distinct from = sym (le-ltb (i + 0 - 1) 0 (omega arith))
later_places [] i (suc j) x distinct from = sym (le-ltb (i + suc j - 1) 0 (omega arith))
later_places (y ∷ suffix) i zero x distinct from = elim (cases_eq x y) [
  | inl same ↦ rw (same_test x y same, same_test y x (sym same)) (sym (lt-ltb (i + 0 - 1) i (omega arith)))
  | inr other ↦
      rw (differ_test x y other, differ_test y x (λ e. other (sym e))) (later_places suffix (i + 1) zero x (tail_distinct y suffix distinct) (omega arith)
      ∙ below (place_range suffix (i + 1) x))
]
  where
    below : (place_from (i + 1) suffix x ≡ 0) ⊎ ((i + 1 ≤ place_from (i + 1) suffix x) × (place_from (i + 1) suffix x < i + 1 + length suffix))
        → ltb (i + 1 + 0 - 1) (place_from (i + 1) suffix x) ≡ ltb (i + 0 - 1) (place_from (i + 1) suffix x)
    below (inl none) = rw (le-ltb (i + 1 + 0 - 1) (place_from (i + 1) suffix x) (omega (arith, none)), le-ltb (i + 0 - 1) (place_from (i + 1) suffix x) (omega (arith, none))) refl
    below (inr some) =
        let low = some.0 in
        rw (lt-ltb (i + 1 + 0 - 1) (place_from (i + 1) suffix x) (omega arith), lt-ltb (i + 0 - 1) (place_from (i + 1) suffix x) (omega arith)) refl
later_places (y ∷ suffix) i (suc j) x distinct from = elim (cases_eq y x) [
  | inl same ↦
      let out : member x (drop j suffix) ≡ false = subst_out same in
      rw (out, same_test y x same) (sym (le-ltb (i + suc j - 1) i (omega arith)))
  | inr other ↦
      let e : i + 1 + j - 1 ≡ i + suc j - 1 = omega arith in
      rw (differ_test y x other) (later_places suffix (i + 1) j x (tail_distinct y suffix distinct) (omega arith) ∙ ap (λ n. ltb n (place_from (i + 1) suffix x)) e)
]
  where
    dropped : (k : ℕ) (xs : List ℕ) → member x xs ≡ false → member x (drop k xs) ≡ false
    dropped zero xs out = out
    dropped (suc k) [] out = refl
    dropped (suc k) (z ∷ xs) out = elim (cases_eq x z) [
      | inl at ↦ absurd (let t : true ≡ false = rw (same_test x z at) at out in cc)
      | inr not_at ↦ dropped k xs (rw (differ_test x z not_at) at out)
    ]

    subst_out : y ≡ x → member x (drop j suffix) ≡ false
    subst_out same = dropped j suffix (let o = first_out y suffix distinct in rw same at o)
