-- The greatest sum of at most k of the numbers.
use Rattle.std.proofs.Common.{◌≡◌, ℕ, zero, suc, ◌+◌, ◌-◌, ◌*◌, ◌≤◌, List, [], ◌∷◌, cond, max, ltb, leb, refl, arith}
use Rattle.std.proofs.lemmas.Bool.Decides.{nat_tests}
use Rattle.mov_base.specs.Sums.{add_up, most}

-- one where the number is above, or at least, the threshold
abbrev pub above : ℕ → ℕ → ℕ
above θ x = cond (ltb θ x) 1 0

abbrev pub reaching : ℕ → ℕ → ℕ
reaching θ x = cond (leb θ x) 1 0

-- what a threshold allows: each number counts with what it has above it
pub most-le : (θ k : ℕ) (xs : List ℕ) → most k xs ≤ k * θ + add_up (λ x. x - θ) xs
most-le θ k [] = omega arith
most-le θ zero (x ∷ xs) = omega arith
most-le θ (suc k) (x ∷ xs) = omega (arith, most-le θ k xs, most-le θ (suc k) xs)

-- the cases of one more number
step_zero : (θ x s f r : ℕ) → above θ x + f ≤ 0 → (f ≤ 0 → 0 * θ + s ≤ r) → r ≡ 0 → 0 * θ + ((x - θ) + s) ≤ 0
step_zero θ x s f r few ih e = grind (arith, nat_tests)

step_suc : (θ k x s f m r q : ℕ) → above θ x + f ≤ suc k → suc k ≤ reaching θ x + m → f ≤ m →
    (f ≤ k → k ≤ m → k * θ + s ≤ r) → (f ≤ suc k → suc k ≤ m → suc k * θ + s ≤ q) →
    suc k * θ + ((x - θ) + s) ≤ max (x + r) q
step_suc θ k x s f m r q few many order take skip = grind (arith, nat_tests)

few-le-many : (θ : ℕ) (xs : List ℕ) → add_up (above θ) xs ≤ add_up (reaching θ) xs
few-le-many θ [] = omega arith
few-le-many θ (x ∷ xs) = let h = few-le-many θ xs in grind (arith, nat_tests)

pub most-none : (xs : List ℕ) → most zero xs ≡ 0
most-none [] = refl
most-none (x ∷ xs) = refl

-- the threshold is exact where at most k numbers are above it and at least k reach it
pub most-reached : (θ k : ℕ) (xs : List ℕ) → add_up (above θ) xs ≤ k → k ≤ add_up (reaching θ) xs →
    k * θ + add_up (λ x. x - θ) xs ≤ most k xs
most-reached θ zero [] few many = omega arith
most-reached θ (suc k) [] few many = omega arith
most-reached θ zero (x ∷ xs) few many =
    step_zero θ x _ _ (most zero xs) few (λ h. most-reached θ zero xs h (omega arith)) (most-none xs)
most-reached θ (suc k) (x ∷ xs) few many =
    step_suc θ k x _ _ _ _ _ few many (few-le-many θ xs) (most-reached θ k xs) (most-reached θ (suc k) xs)

pub most-mono : (j k : ℕ) (xs : List ℕ) → j ≤ k → most j xs ≤ most k xs
most-mono zero k xs h = omega (arith, most-none xs)
most-mono (suc j) zero xs h = absurd (omega arith)
most-mono (suc j) (suc k) [] h = omega arith
most-mono (suc j) (suc k) (x ∷ xs) h = omega (arith, most-mono j k xs (omega arith), most-mono (suc j) (suc k) xs h)
