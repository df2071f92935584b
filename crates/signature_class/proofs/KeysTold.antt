-- What a key under a suffix tells, and keys under a suffix with one candidate more.
use Rattle.std.proofs.Common.{ℕ, zero, suc, List, [], ◌∷◌, Bool, true, false, ◌≡◌, ◌<◌, ◌≤◌, ◌+◌, ◌-◌, ◌*◌, ◌^◌}
use Rattle.std.proofs.Common.{◌==◌, ◌∙◌, ◌⊎◌, cond, length, map, get_or, refl, sym, ap, inl, inr, arith}
use Rattle.std.specs.Prelude.{◌||◌}
use Rattle.std.proofs.lemmas.Bool.{cases_Bool, cases_eq, cases_lt, lt-ltb, le-ltb}
use Rattle.std.proofs.lemmas.List.Elements.{All-weaker}
use Rattle.irv_count.specs.Orders.{member}
use Rattle.irv_count.proofs.Members.{differ_test, same_test}
use Rattle.signature_class.specs.Signatures.{ArePlaces, bits_of, holds_before, kept_from, place_from, place_in}
use Rattle.signature_class.specs.Signatures.{places_key, signature_of, suffix_key}
use Rattle.signature_class.specs.declared.limits.TheConstants.{MOST_PLACES}
use Rattle.signature_class.proofs.KeyBits.{bits_below, bits_same, bits_step, bits_unset, same_bits}
use Rattle.signature_class.proofs.KeptPlaces.{climb_of_places, climb_same, high_out, signature_places}
use Rattle.signature_class.proofs.SuffixPlaces.{place_on, place_out}

-- ---- equal keys
pub key_tells_places : (places others : List ℕ) → ArePlaces MOST_PLACES places → ArePlaces MOST_PLACES others
    → places_key places ≡ places_key others → places ≡ others
key_tells_places places others are also same =
    let up = climb_of_places MOST_PLACES places are in
    let other = climb_of_places MOST_PLACES others also in
    climb_same MOST_PLACES 0 places others up other (λ p some. elim (cases_lt MOST_PLACES p) [
      | inl high ↦ high_out MOST_PLACES 0 p places up high ∙ sym (high_out MOST_PLACES 0 p others other high)
      | inr low ↦
          let e : p - 1 + 1 ≡ p = omega arith in
          rw e at (same_bits MOST_PLACES (λ k. member (k + 1) places) (λ k. member (k + 1) others) same (p - 1) (omega arith))
    ])

pub more_places : (m n : ℕ) (places : List ℕ) → m ≤ n → ArePlaces m places → ArePlaces n places
more_places m n places few are = record {
  within = All-weaker (λ p. (1 ≤ p) × (p ≤ m)) (λ p. (1 ≤ p) × (p ≤ n)) (λ p is. (is.0, let most = is.1 in omega arith)) places are.within;
  ascending = are.ascending;
}

pub key_tells_signature : (suffix ballot other : List ℕ) → length suffix ≤ MOST_PLACES
    → suffix_key suffix ballot ≡ suffix_key suffix other
    → signature_of suffix ballot ≡ signature_of suffix other
key_tells_signature suffix ballot other few same = key_tells_places (signature_of suffix ballot) (signature_of suffix other)
    (more_places (length suffix) MOST_PLACES (signature_of suffix ballot) few (signature_places suffix ballot))
    (more_places (length suffix) MOST_PLACES (signature_of suffix other) few (signature_places suffix other)) same

-- ---- how large a key is
pub suffix_key_below : (suffix ballot : List ℕ) → suffix_key suffix ballot < 2 ^ length suffix
suffix_key_below suffix ballot =
    let up = climb_of_places (length suffix) (signature_of suffix ballot) (signature_places suffix ballot) in
    bits_below MOST_PLACES (length suffix) (λ k. member (k + 1) (signature_of suffix ballot))
    (λ k past. high_out (length suffix) 0 (k + 1) (signature_of suffix ballot) up (omega arith))

-- ---- one candidate more in front

-- a place where one more stands in front
abbrev pub moved : ℕ → ℕ
moved zero = 0
moved (suc p) = suc (suc p)

place_moved : (suffix : List ℕ) (i x : ℕ) → 1 ≤ i → place_from (i + 1) suffix x ≡ moved (place_from i suffix x)
place_moved [] i x some = refl
place_moved (y ∷ suffix) zero x some = absurd (omega arith)
place_moved (y ∷ suffix) (suc i) x some = elim (cases_Bool (y == x)) [
  | inl t ↦ rw t (omega arith)
  | inr f ↦ rw f (place_moved suffix (suc i + 1) x (omega arith))
]

moved_more : (m p : ℕ) → m < p → moved p ≡ suc p
moved_more m zero lt = absurd (omega arith)
moved_more m (suc p) lt = refl

moved_le : (m p : ℕ) → p ≤ m → moved p ≤ m + 1
moved_le m zero le = omega arith
moved_le m (suc p) le = omega arith

-- the place of another one than the first
place_of_other : (z x : ℕ) (suffix : List ℕ) → (x ≡ z → ⊥) → place_in (z ∷ suffix) x ≡ moved (place_in suffix x)
place_of_other z x suffix other = rw (differ_test z x (λ e. other (sym e))) (place_moved suffix 1 x (omega arith))

kept_moved : (z : ℕ) (suffix : List ℕ) (m : ℕ) (ballot : List ℕ) → member z suffix ≡ false
    → kept_from (z ∷ suffix) (m + 1) ballot ≡ map suc (kept_from suffix m ballot)
kept_moved z suffix m [] out = refl
kept_moved z suffix m (x ∷ ballot) out = elim (cases_eq x z) [
  | inl same ↦
      let none : place_in suffix x ≡ 0 = rw same (place_out suffix 1 z out) in
      rw (same_test z x (sym same), le-ltb (m + 1) 1 (omega arith), none, le-ltb m 0 (omega arith)) (kept_moved z suffix m ballot out)
  | inr other ↦
      let p = place_in suffix x in
      let place = place_of_other z x suffix other in
      elim (cases_lt m p) [
        | inl up ↦
            let e : moved p ≡ p + 1 = moved_more m p up ∙ omega arith in
            let f : suc p ≡ p + 1 = omega arith in
            rw (place, e, lt-ltb (m + 1) (p + 1) (omega arith), lt-ltb m p up, f) (ap (λ ps. (p + 1) ∷ ps) (kept_moved z suffix p ballot out))
        | inr down ↦ rw (place, le-ltb (m + 1) (moved p) (moved_le m p down), le-ltb m p down) (kept_moved z suffix m ballot out)
      ]
]

-- the places where one more stands in front, and holds the ballot or not
abbrev pub with_first : Bool → List ℕ → List ℕ
with_first h places = cond h (1 ∷ map suc places) (map suc places)

signature_moved : (z : ℕ) (suffix ballot : List ℕ) → member z suffix ≡ false
    → signature_of (z ∷ suffix) ballot ≡ with_first (holds_before z suffix ballot) (signature_of suffix ballot)
signature_moved z suffix [] out = refl
signature_moved z suffix (x ∷ ballot) out = elim (cases_eq x z) [
  | inl same ↦
      let none : place_in suffix x ≡ 0 = rw same (place_out suffix 1 z out) in
      let later = kept_moved z suffix 0 ballot out in
      rw (same_test x z same, same_test z x (sym same), same_test x z same, none) (ap (λ ps. 1 ∷ ps) later)
  | inr other ↦ elim (cases_Bool (member x suffix)) [
    | inl on ↦
        let p = place_in suffix x in
        let some : 0 < p = place_on suffix 1 x (omega arith) on in
        let place = place_of_other z x suffix other in
        let e : moved p ≡ p + 1 = moved_more 0 p some ∙ omega arith in
        let f : suc p ≡ p + 1 = omega arith in
        rw (differ_test x z other, on, differ_test x z other, place, e, lt-ltb 0 (p + 1) (omega arith), lt-ltb 0 p some, f) (ap (λ ps. (p + 1) ∷ ps) (kept_moved z suffix p ballot out))
    | inr off ↦
        let none : place_in suffix x ≡ 0 = place_out suffix 1 x off in
        let place = place_of_other z x suffix other in
        rw (differ_test x z other, off, place, none) (signature_moved z suffix ballot out)
  ]
]

-- ---- its bits

member_moved : (k : ℕ) (places : List ℕ) → member (suc k) (map suc places) ≡ member k places
member_moved k [] = refl
member_moved k (p ∷ places) = rw (member_moved k places) (ap (λ b. b || member k places) (test (cases_eq k p)))
  where
    test : (k ≡ p) ⊎ (k ≡ p → ⊥) → (suc k == suc p) ≡ (k == p)
    test (inl same) = same_test (suc k) (suc p) (omega arith) ∙ sym (same_test k p same)
    test (inr other) = differ_test (suc k) (suc p) (λ e. other (omega arith)) ∙ sym (differ_test k p other)

-- the bits of the others are those of the places before, one further
others_bit : (h : Bool) (places : List ℕ) (k : ℕ) → member (k + 1 + 1) (with_first h places) ≡ member (k + 1) places
others_bit h places k = of h
  where
    later : member (k + 1 + 1) (map suc places) ≡ member (k + 1) places
    later = let e : k + 1 + 1 ≡ suc (k + 1) = omega arith in ap (λ n. member n (map suc places)) e ∙ member_moved (k + 1) places

    of : (h : Bool) → member (k + 1 + 1) (with_first h places) ≡ member (k + 1) places
    of true = rw (differ_test (k + 1 + 1) 1 (λ at. omega arith)) later
    of false = later

-- the lowest bit is that of the first
first_bit : (h : Bool) (m : ℕ) (places : List ℕ) → ArePlaces m places → member (0 + 1) (with_first h places) ≡ h
first_bit true m places are = refl
first_bit false m places are = member_moved 0 places ∙ none_low places (λ k lt. (are.within k 0 lt).0)
  where
    none_low : (places : List ℕ) → ((k : ℕ) → k < length places → 1 ≤ get_or places k 0) → member 0 places ≡ false
    none_low [] some = refl
    none_low (p ∷ places) some =
        let first = some 0 (omega arith) in
        rw (differ_test 0 p (λ e. omega arith)) (none_low places (λ k lt. some (suc k) (omega arith)))

key_moved : (h : Bool) (n : ℕ) (places : List ℕ) → ArePlaces n places
    → bits_of (suc n) (λ k. member (k + 1) (with_first h places)) ≡ 2 * bits_of (suc n) (λ k. member (k + 1) places) + cond h 1 0
key_moved h n places are =
    let high = high_out n 0 (n + 1) places (climb_of_places n places are) (omega arith) in
    let others = bits_same n (λ k. member (k + 1 + 1) (with_first h places)) (λ k. member (k + 1) places) (λ k lt. others_bit h places k) in
    let top = bits_unset n (suc n) (λ k. member (k + 1) places) (omega arith) (λ k past within.
    let e : k ≡ n = omega arith in
    ap (λ i. member (i + 1) places) e ∙ high) in
    let step = bits_step n (λ k. member (k + 1) (with_first h places)) in
    let one : Bool → ℕ = λ b. cond b 1 0 in
    let first = ap one (first_bit h n places are) in
    omega (arith, others, top, step, first)

pub kid_key : (z : ℕ) (suffix ballot : List ℕ) → member z suffix ≡ false → length suffix < MOST_PLACES
    → suffix_key (z ∷ suffix) ballot ≡ 2 * suffix_key suffix ballot + cond (holds_before z suffix ballot) 1 0
kid_key z suffix ballot out few =
    ap places_key (signature_moved z suffix ballot out)
    ∙ key_moved (holds_before z suffix ballot) 39 (signature_of suffix ballot) (more_places (length suffix) 39 (signature_of suffix ballot) (omega arith) (signature_places suffix ballot))
