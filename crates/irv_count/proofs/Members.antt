-- Members of a list, and of its first part.
use Rattle.std.proofs.Common.{ℕ, zero, suc, List, [], ◌∷◌, ◌++◌, Bool, true, false, ◌≡◌, ◌<◌, ◌⊎◌, ◌+◌, length, take, get_or, ◌∙◌, refl, sym, ap, inl, inr, arith}
use Rattle.std.specs.Prelude.{not, ◌==◌, ◌||◌, Contains}
use Rattle.std.proofs.lemmas.Bool.{cases_eq}
use Rattle.std.proofs.lemmas.Bool.Decides.{nat_tests}
use Rattle.std.proofs.lemmas.List.Elements.{at_from_Contains}
use Rattle.irv_count.specs.Orders.{member}

pub same_test : (x y : ℕ) → x ≡ y → (x == y) ≡ true
same_test x y e = grind (arith, nat_tests)

pub differ_test : (x y : ℕ) → (x ≡ y → ⊥) → (x == y) ≡ false
differ_test x y ne = grind (arith, nat_tests)

pub bool_cases : (b : Bool) → (b ≡ true) ⊎ (b ≡ false)
bool_cases true = inl refl
bool_cases false = inr refl

pub or_true : (b : Bool) → (b || true) ≡ true
or_true true = refl
or_true false = refl

pub not_true : (b : Bool) → not b ≡ true → b ≡ false
not_true true e = cc
not_true false e = refl

pub not_false : (b : Bool) → not b ≡ false → b ≡ true
not_false true e = refl
not_false false e = cc

pub member_append : (x y : ℕ) (order : List ℕ) → member x (order ++ y ∷ []) ≡ (member x order || (x == y))
member_append x y [] = elim (x == y) as (λ b. (b || false) ≡ (false || b)) [ true ↦ refl | false ↦ refl ]
member_append x y (z ∷ order) =
    rw (member_append x y order) (elim (x == z) as (λ b. (b || (member x order || (x == y))) ≡ ((b || member x order) || (x == y))) [ true ↦ refl | false ↦ refl ])

-- one place more
pub take_more_at : (order : List ℕ) (i : ℕ) → i < length order → take (i + 1) order ≡ take i order ++ get_or order i 0 ∷ []
take_more_at [] i lt = absurd (omega arith)
take_more_at (x ∷ order) zero lt = refl
take_more_at (x ∷ order) (suc i) lt = let e : suc i + 1 ≡ suc (i + 1) = omega arith in rw e (ap (λ t. x ∷ t) (take_more_at order i (omega arith)))

-- a member is at some place
pub member_at : (x : ℕ) (xs : List ℕ) → member x xs ≡ true → (k : ℕ) × (k < length xs) × (get_or xs k 0 ≡ x)
member_at x [] e = cc
member_at x (y ∷ xs) e = elim (cases_eq x y) [
  | inl same ↦ (0, omega arith, sym same)
  | inr ne ↦ let r = member_at x xs (rw (differ_test x y ne) at e) in (suc r.0, (let k = r.1 in omega arith), r.2)
]

-- what stands at a place before k is among the first k
pub at_member : (xs : List ℕ) (j k : ℕ) → j < k → j < length xs → member (get_or xs j 0) (take k xs) ≡ true
at_member [] j k jk jl = absurd (omega arith)
at_member (y ∷ xs) j zero jk jl = absurd (omega arith)
at_member (y ∷ xs) zero (suc k) jk jl = rw (same_test y y refl) refl
at_member (y ∷ xs) (suc j) (suc k) jk jl = rw (at_member xs j k (omega arith) (omega arith)) (or_true (get_or xs j 0 == y))

-- what stands at a place is a member
pub place_member : (xs : List ℕ) (k : ℕ) → k < length xs → member (get_or xs k 0) xs ≡ true
place_member [] k kl = absurd (omega arith)
place_member (y ∷ xs) zero kl = rw (same_test y y refl) refl
place_member (y ∷ xs) (suc k) kl = rw (place_member xs k (omega arith)) (or_true (get_or xs k 0 == y))

pub not_contained : (xs : List ℕ) (x : ℕ) → member x xs ≡ false → Contains xs x → ⊥
not_contained xs x out contained =
    let r = at_from_Contains xs x contained in
    let m = place_member xs r.0 r.1 in
    let m1 = rw (r.2 0) at m in
    let z : true ≡ false = sym m1 ∙ out in cc

-- a member of the first i is at a place before i
pub first_at : (x : ℕ) (xs : List ℕ) (i : ℕ) → member x (take i xs) ≡ true → (k : ℕ) × (k < i) × (k < length xs) × (get_or xs k 0 ≡ x)
first_at x xs zero e = cc
first_at x [] (suc i) e = cc
first_at x (y ∷ xs) (suc i) e = elim (cases_eq x y) [
  | inl same ↦ (0, omega arith, omega arith, sym same)
  | inr ne ↦ let r = first_at x xs i (rw (differ_test x y ne) at e) in (suc r.0, (let k = r.1 in omega arith), (let k = r.2 in omega arith), r.3)
]
