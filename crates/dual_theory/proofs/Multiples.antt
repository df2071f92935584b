-- Fractions in lowest terms, and least common multiples.
use Rattle.std.proofs.Common.{ℕ, zero, suc, ◌≡◌, ◌<◌, ◌≤◌, ◌+◌, ◌*◌, ◌/◌, ◌%◌, arith, ap, sym, ◌∙◌, ⊎_elim, subst}
use Rattle.std.specs.Prelude.{pos}
use Prim.Native.Nat.{◌∣◌}
use Rattle.std.specs.Int.{IsGcd}
use Rattle.std.proofs.lemmas.Bool.{cases_eq}
use Rattle.std.proofs.lemmas.Nat.Gcd.{mod-eq-zero_of_dvd}
use Rattle.std.proofs.Math.Nat.{dvd-mul_left, dvd-mul_right, eq-zero_of_zero-dvd, mul-dvd-mul_left, dvd_of_mul-dvd-mul_right, le_of_mul-le-mul_left}
use Rattle.exact_num.specs.Divisors.{gcd_of}
use Rattle.exact_num.proofs.Divisors.{IsGcd-gcd_of, lowest_terms, gauss}
use Rattle.dual_theory.specs.Ends.{lcm_of}

pub exact_quotient : (a g : ℕ) → g ∣ a → a / g * g ≡ a
exact_quotient a g h = let z = mod-eq-zero_of_dvd g h in omega (arith, z, split g a)
  where
    split : (g a : ℕ) → a ≡ a / g * g + a % g
    split g a = omega arith

pub cancel_nat : (g a b : ℕ) → 0 < g → a * g ≡ b * g → a ≡ b
cancel_nat g a b h e =
    let x : g * a ≤ g * b = omega (arith, e) in
    let y : g * b ≤ g * a = omega (arith, e) in
    let l : a ≤ b = le_of_mul-le-mul_left x h in
    let m : b ≤ a = le_of_mul-le-mul_left y h in
    omega (arith, l, m)

-- ---- lowest terms
module _ (num den : ℕ) (above : 0 < den) where
  divisor_above : 0 < gcd_of num den
  divisor_above = ⊎_elim (λ z. let none : den ≡ 0 = eq-zero_of_zero-dvd (subst (λ (g : ℕ). g ∣ den) z (IsGcd-gcd_of num den).1) in absurd (omega (arith, none, above))) (λ apart. omega (arith, apart)) (cases_eq (gcd_of num den) 0)

  pub num_back : num / gcd_of num den * gcd_of num den ≡ num
  num_back = exact_quotient num (gcd_of num den) (IsGcd-gcd_of num den).0

  pub den_back : den / gcd_of num den * gcd_of num den ≡ den
  den_back = exact_quotient den (gcd_of num den) (IsGcd-gcd_of num den).1

  pub den_above : 0 < den / gcd_of num den
  den_above = ⊎_elim (λ z. let e = den_back in let f : den / gcd_of num den * gcd_of num den ≡ 0 * gcd_of num den = ap (λ (q : ℕ). q * gcd_of num den) z in absurd (omega (arith, e, f, above))) (λ apart. omega (arith, apart)) (cases_eq (den / gcd_of num den) 0)

  swapped : IsGcd den num (gcd_of num den)
  swapped = let is = IsGcd-gcd_of num den in (is.1, is.0, λ d i j. is.2 d j i)

  pub in_lowest : IsGcd (den / gcd_of num den) (num / gcd_of num den) 1
  in_lowest =
      let one : gcd_of (den / gcd_of num den) (num / gcd_of num den) ≡ 1 = lowest_terms (pos den) (pos num) (pos (den / gcd_of num den)) (pos (num / gcd_of num den)) (gcd_of num den) divisor_above swapped (ap pos den_back) (ap pos num_back) in
      subst (IsGcd (den / gcd_of num den) (num / gcd_of num den)) one (IsGcd-gcd_of (den / gcd_of num den) (num / gcd_of num den))

-- ---- least common multiples
module _ (a b : ℕ) (a_above : 0 < a) (b_above : 0 < b) where
  pub lcm_left : a ∣ lcm_of a b
  lcm_left = dvd-mul_right a (b / gcd_of a b)

  pub lcm_right : b ∣ lcm_of a b
  lcm_right =
      let g = gcd_of a b in
      let x : b / g * g ≡ b = den_back a b b_above in
      let y : a / g * g ≡ a = num_back a b b_above in
      let e : a / g * b ≡ a * (b / g) = ap (λ (n : ℕ). a / g * n) (sym x) ∙ assoc (a / g) (b / g) g ∙ ap (λ (n : ℕ). n * (b / g)) y in
      subst (λ (n : ℕ). b ∣ n) e (dvd-mul_left b (a / g))
    where
      assoc : (k m g : ℕ) → k * (m * g) ≡ (k * g) * m
      assoc k m g = omega arith

  pub lcm_above : 0 < lcm_of a b
  lcm_above = product_above a (b / gcd_of a b) a_above (den_above a b b_above)
    where
      product_above : (m n : ℕ) → 0 < m → 0 < n → 0 < m * n
      product_above (suc m) (suc n) h k = omega arith
      product_above zero n h k = absurd (omega (arith, h))
      product_above (suc m) zero h k = absurd (omega (arith, k))

  pub lcm_least : (m : ℕ) → a ∣ m → b ∣ m → lcm_of a b ∣ m
  lcm_least m h k =
      let g = gcd_of a b in
      let x : b / g * g ≡ b = den_back a b b_above in
      let y : a / g * g ≡ a = num_back a b b_above in
      let q : m / a * a ≡ m = exact_quotient m a h in
      let whole : m / a * (a / g) * g ≡ m = omega (arith, ap (λ (n : ℕ). m / a * n) y, q) in
      let part : b / g * g ∣ m / a * (a / g) * g = subst (λ (n : ℕ). n ∣ m / a * (a / g) * g) (sym x) (subst (λ (n : ℕ). b ∣ n) (sym whole) k) in
      let less : b / g ∣ m / a * (a / g) = dvd_of_mul-dvd-mul_right (b / g) (divisor_above a b b_above) part in
      let rest : b / g ∣ m / a = gauss (b / g) (a / g) (m / a) (in_lowest a b b_above) less in
      subst (λ (n : ℕ). a * (b / g) ∣ n) (omega (arith, q)) (mul-dvd-mul_left (b / g) a rest)
