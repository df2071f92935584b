-- Greatest common divisors and quotients of lists of numbers.
use Rattle.std.proofs.Common.{ℕ, zero, suc, ◌≡◌, ◌<◌, ◌/◌, arith, refl, ap, sym, ◌∙◌, subst, List, [], ◌∷◌, map, ⊎_elim}
use Rattle.std.specs.List.{All, fold}
use Rattle.std.proofs.lemmas.Bool.{cases_eq}
use Rattle.std.proofs.lemmas.List.Elements.{All-cons}
use Rattle.std.proofs.Math.Nat.{eq-zero_of_zero-dvd, zero-div}
use Rattle.std.proofs.lemmas.Nat.Gcd.{le_of_dvd}
use Prim.Native.Nat.{◌∣◌}
use Rattle.exact_num.specs.Divisors.{gcd_of}
use Rattle.exact_num.proofs.Divisors.{IsGcd-gcd_of}
use Rattle.dual_theory.specs.Multipliers.{divisor_of, lowest}

pub zero_both : (a b : ℕ) → gcd_of a b ≡ 0 → (a ≡ 0) × (b ≡ 0)
zero_both a b e = let g = IsGcd-gcd_of a b in (eq-zero_of_zero-dvd (subst (λ (m : ℕ). m ∣ a) e g.0), eq-zero_of_zero-dvd (subst (λ (m : ℕ). m ∣ b) e g.1))

pub gcd_positive : (a b : ℕ) → 0 < b → 0 < gcd_of a b
gcd_positive a b h = ⊎_elim
    (λ (none : gcd_of a b ≡ 0). let both = zero_both a b none in absurd (omega (arith, h, both.1)))
    (λ some. omega (arith, some))
    (cases_eq (gcd_of a b) 0)

pub gcd_small : (a b m : ℕ) → a < m → b < m → gcd_of a b < m
gcd_small zero zero m h l = let none : gcd_of 0 0 ≡ 0 = unfold gcd_of in refl in omega (arith, h, none)
gcd_small zero (suc b) m h l = let g = IsGcd-gcd_of 0 (suc b) in omega (arith, l, le_of_dvd {m = gcd_of 0 (suc b)} {n = suc b} (omega arith) g.1)
gcd_small (suc a) b m h l = let g = IsGcd-gcd_of (suc a) b in omega (arith, h, le_of_dvd {m = gcd_of (suc a) b} {n = suc a} (omega arith) g.0)

zero_fold : (g : ℕ) (xs : List ℕ) → fold gcd_of g xs ≡ 0 → (g ≡ 0) × All (λ x. x ≡ 0) xs
zero_fold g [] e = (e, λ k d h. absurd (omega (arith, h)))
zero_fold g (x ∷ xs) e =
    let rest = zero_fold (gcd_of g x) xs e in
    let both = zero_both g x rest.0 in
    (both.0, All-cons (λ (y : ℕ). y ≡ 0) x xs both.1 rest.1)

zero_map : (f : ℕ → ℕ) (xs : List ℕ) → f 0 ≡ 0 → All (λ x. x ≡ 0) xs → map f xs ≡ xs
zero_map f [] z a = refl
zero_map f (x ∷ xs) z a =
    let here : x ≡ 0 = a 0 0 (omega arith) in
    let first : f x ≡ x = ap f here ∙ z ∙ sym here in
    let rest : map f xs ≡ xs = zero_map f xs z (λ k d h. a (suc k) d (omega (arith, h))) in
    cc

-- numbers without a divisor are 0
pub lowest_zero : (xs : List ℕ) → divisor_of xs ≡ 0 → xs ≡ lowest xs
lowest_zero xs e = sym (zero_map (λ x. x / divisor_of xs) xs (zero-div (divisor_of xs)) (zero_fold 0 xs e).1)

quotient_below : (x d m : ℕ) → x < m → x / d < m
quotient_below x zero m h = omega (arith, h)
quotient_below x (suc d) m h = omega (arith, h)

pub all_quotients : (d m : ℕ) (xs : List ℕ) → All (λ x. x < m) xs → All (λ x. x < m) (map (λ x. x / d) xs)
all_quotients d m [] a = λ k e h. absurd (omega (arith, h))
all_quotients d m (x ∷ xs) a = All-cons (λ (y : ℕ). y < m) (x / d) (map (λ y. y / d) xs) (quotient_below x d m (a 0 0 (omega arith))) (all_quotients d m xs (λ k e h. a (suc k) e (omega (arith, h))))
