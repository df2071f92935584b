-- Sums over a range of numbers.
use Rattle.std.proofs.Common.{◌≡◌, ◌≢◌, ℕ, zero, suc, ◌+◌, ◌<◌, ◌≤◌, refl, ap, inl, inr, arith}
use Rattle.std.specs.List.{range_with_len}
use Rattle.std.proofs.lemmas.Bool.{cases_eq}
use Rattle.mov_base.specs.Sums.{add_up}

-- equal terms
pub range-same : (g h : ℕ → ℕ) (a n : ℕ) → ((b : ℕ) → a ≤ b → b < a + n → g b ≡ h b) →
    add_up g (range_with_len a n) ≡ add_up h (range_with_len a n)
range-same g h a zero same = refl
range-same g h a (suc n) same =
    omega (
      arith,
      same a (omega arith) (omega arith),
      range-same g h (a + 1) n
          (λ b from to. same b (omega arith) (omega arith)),
    )

-- terms that are 0
pub range-none : (g : ℕ → ℕ) (a n : ℕ) → ((b : ℕ) → a ≤ b → b < a + n → g b ≡ 0) → add_up g (range_with_len a n) ≡ 0
range-none g a zero none = refl
range-none g a (suc n) none =
    omega (
      arith,
      none a (omega arith) (omega arith),
      range-none g (a + 1) n
          (λ b from to. none b (omega arith) (omega arith)),
    )

-- sums of two terms
pub range-add : (g h : ℕ → ℕ) (a n : ℕ) → add_up (λ b. g b + h b) (range_with_len a n) ≡
    add_up g (range_with_len a n) + add_up h (range_with_len a n)
range-add g h a zero = refl
range-add g h a (suc n) = omega (arith, range-add g h (a + 1) n)

-- one less at x
pub range-less : (g h : ℕ → ℕ) (x a n : ℕ) → ((b : ℕ) → a ≤ b → b < a + n → b ≢ x → g b ≡ h b) → g x + 1 ≡ h x →
    a ≤ x → x < a + n →
    add_up g (range_with_len a n) + 1 ≡ add_up h (range_with_len a n)
range-less g h x a zero same one from to = absurd (omega arith)
range-less g h x a (suc n) same one from to = elim (cases_eq a x) [
  | inl e ↦
      let later = range-same g h (a + 1) n (λ b le lt. same b (omega arith) (omega arith) (omega arith)) in
      omega (arith, later, ap g e, ap h e)
  | inr ne ↦
      let here = same a (omega arith) (omega arith) ne in
      let later = range-less g h x (a + 1) n (λ b le lt other. same b (omega arith) (omega arith) other) one
      (omega arith) (omega arith) in
      omega (arith, here, later)
]

-- a term is at most the sum
pub term-le : (g : ℕ → ℕ) (b a n : ℕ) → a ≤ b → b < a + n → g b ≤ add_up g (range_with_len a n)
term-le g b a zero from to = absurd (omega arith)
term-le g b a (suc n) from to = elim (cases_eq b a) [
  | inl e ↦ omega (arith, ap g e)
  | inr ne ↦ omega (arith, term-le g b (a + 1) n (omega arith) (omega arith))
]

-- what is summed so far and what is left, after one term more
pub range_step : (g : ℕ → ℕ) (s v t a n k : ℕ) → s + add_up g (range_with_len a n) ≡ t → n ≡ k + 1 → v ≡ g a →
    s + v + add_up g (range_with_len (a + 1) k) ≡ t
range_step g s v t a zero k is one here = absurd (omega arith)
range_step g s v t a (suc n) k is one here =
    let e : n ≡ k = omega arith in
    omega (arith, is, here, ap (λ j. add_up g (range_with_len (a + 1) j)) e)
