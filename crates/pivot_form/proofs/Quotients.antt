-- Quotients that are tried, and greatest common divisors by them.
use Rattle.std.proofs.Common.{ℕ, zero, suc, ◌≡◌, ◌<◌, ◌≤◌, ◌*◌, arith, ap, sym, ◌∙◌, subst}
use Rattle.std.specs.Prelude.{ℤ, pos, negsuc, ◌*ℤ◌, ◌<ℤ◌, ◌≤ℤ◌, unsigned_abs, nat_eq, IsTrue}
use Prim.Native.Nat.{◌∣◌}
use Rattle.std.specs.Int.{IsGcd}
use Rattle.std.specs.Int.RustNames.{int_div, FitsSigned}
use Rattle.std.proofs.lemmas.Bool.Decides.{nat_tests}
use Rattle.std.proofs.lemmas.Int.{ints, to_z-of_z, fits_signed_mul, unsigned_abs-mul}
use mir.Syntax.{w64}
use mir.Val.{to_z, of_z}
use Rattle.exact_num.specs.declared.limits.TheConstants.{WIDE}
use Rattle.exact_num.specs.Divisors.{gcd_of, gcd_with}
use Rattle.exact_num.proofs.Divisors.{exact, gcd_of_is, IsGcd-gcd_of, IsGcd-swapped}
use Rattle.exact_num.proofs.Ring.{leaf, times, same}
use Rattle.std.proofs.lemmas.Nat.Gcd.{dvd_refl, le_of_dvd}
use Rattle.std.proofs.Math.Nat.{dvd-mul_left, eq-zero_of_zero-dvd}
use Rattle.pivot_form.proofs.Sums.{cancel}

pub quotient_fits : (y v : ℤ) (most : ℕ) → unsigned_abs y ≤ most → most * unsigned_abs v < WIDE → FitsSigned w64 (y *ℤ v)
quotient_fits y v most le room = fits_signed_mul w64 y v most (unsigned_abs v) le (omega arith) room

same_bits : (x y : ℤ) → FitsSigned w64 x → FitsSigned w64 y → of_z w64 x ≡ of_z w64 y → x ≡ y
same_bits x y f g e = sym (to_z-of_z w64 x f) ∙ ap (to_z w64) e ∙ to_z-of_z w64 y g

tested : (a b : ℕ) → IsTrue (nat_eq a b) → a ≡ b
tested a b t = grind (arith, nat_tests)

pub quotient_is : (y v x : ℤ) → FitsSigned w64 (y *ℤ v) → FitsSigned w64 x → IsTrue (nat_eq (of_z w64 (y *ℤ v)) (of_z w64 x)) → y *ℤ v ≡ x
quotient_is y v x f g t = same_bits (y *ℤ v) x f g (tested (of_z w64 (y *ℤ v)) (of_z w64 x) t)

swap : (a b : ℤ) → a *ℤ b ≡ b *ℤ a
swap a b = same (times (leaf a) (leaf b)) (times (leaf b) (leaf a)) (omega arith)

-- ---- what is found is the part
pub part_is : (x y v : ℤ) → pos 0 <ℤ v → y *ℤ v ≡ x → y ≡ int_div x v
part_is x y (pos g) above e =
    let divides : g ∣ unsigned_abs x = subst (λ (z : ℤ). g ∣ unsigned_abs z) e (subst (λ (n : ℕ). g ∣ n) (sym (unsigned_abs-mul y (pos g))) (dvd-mul_left g (unsigned_abs y))) in
    cancel (pos g) y (int_div x (pos g)) above (swap (pos g) y ∙ e ∙ sym (exact x g divides) ∙ swap (int_div x (pos g)) (pos g))
part_is x y (negsuc g) above e = absurd (omega (arith, ints, above))

-- ---- greatest common divisors
below_wide : (a b g : ℕ) → IsGcd a b g → a < WIDE → b < WIDE → g < WIDE
below_wide zero zero g is h l = let none : g ≡ 0 = eq-zero_of_zero-dvd (is.2 0 (dvd_refl 0) (dvd_refl 0)) in omega (arith, none)
below_wide (suc a) b g is h l = let le = le_of_dvd (omega arith) is.0 in omega (arith, le, h)
below_wide zero (suc b) g is h l = let le = le_of_dvd (omega arith) is.1 in omega (arith, le, l)

pub gcd_small : (a b g : ℕ) → g ≡ gcd_of a b → a < WIDE → b < WIDE → g < WIDE
gcd_small a b g e h l = below_wide a b g (subst (IsGcd a b) (sym e) (IsGcd-gcd_of a b)) h l

pub gcd_turned : (a b g : ℕ) → g ≡ gcd_of a b → g ≡ gcd_of b a
gcd_turned a b g e = gcd_of_is b a g (IsGcd-swapped a b g (subst (IsGcd a b) (sym e) (IsGcd-gcd_of a b)))

pub gcd_stays : (v x y : ℤ) → pos 0 ≤ℤ v → y *ℤ v ≡ x → pos (gcd_with (unsigned_abs v) x) ≡ v
gcd_stays v x y above e =
    let divides : unsigned_abs v ∣ unsigned_abs x = subst (λ (z : ℤ). unsigned_abs v ∣ unsigned_abs z) e (subst (λ (n : ℕ). unsigned_abs v ∣ n) (sym (unsigned_abs-mul y v)) (dvd-mul_left (unsigned_abs v) (unsigned_abs y))) in
    let same : unsigned_abs v ≡ gcd_of (unsigned_abs v) (unsigned_abs x) = gcd_of_is (unsigned_abs v) (unsigned_abs x) (unsigned_abs v) (dvd_refl (unsigned_abs v), divides, λ d i j. i) in
    ap pos (sym same) ∙ omega (arith, ints, above)

pub found_gcd : (a b : ℤ) (g n m p q : ℕ) → g ≡ gcd_of n m → n ≡ p → p ≡ unsigned_abs b → m ≡ q → q ≡ unsigned_abs a → g ≡ gcd_of (unsigned_abs b) (unsigned_abs a)
found_gcd a b g n m p q e en ep em eq = e ∙ ap (λ (k : ℕ). gcd_of k m) (en ∙ ep) ∙ ap (gcd_of (unsigned_abs b)) (em ∙ eq)
