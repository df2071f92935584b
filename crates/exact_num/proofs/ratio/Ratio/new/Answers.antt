use Rattle.std.proofs.Common.{rules, ◌≡◌, ◌<◌, subst, ℕ}
use Rattle.std.specs.Prelude.{pos, ◌*ℤ◌, unsigned_abs}
use Prim.Native.Nat.{◌∣◌}
use Rattle.std.specs.Int.{IsGcd}
use Rattle.std.proofs.lemmas.Int.{to_z-of_z}
use Rattle.std.specs.Int.RustNames.{FitsSigned}
use mir.Syntax.{w64}
use Rattle.exact_num.proofs.Divisors.{lowest_terms, divisor_positive, positive_part, same_ratio}
use Rattle.exact_num.proofs.ratio.Ratio.new.Goals as goal

pub quotient-requires-clause-divides : goal.quotient-requires-clause-divides
quotient-requires-clause-divides c =
    let fn_ : FitsSigned w64 c.args.num = c.ranges.num in
    let is : c.unsigned_abs.result ≡ unsigned_abs c.args.num = simp to_z-of_z at c.unsigned_abs.ensures.value in
    simp to_z-of_z (subst (λ (m : ℕ). c.gcd-divisor.result ∣ m) is c.gcd-divisor.ensures.divisor.0)

pub quotient-requires-2-clause-divides : goal.quotient-requires-2-clause-divides
quotient-requires-2-clause-divides c =
    let fd : FitsSigned w64 c.args.den = c.ranges.den in
    let is : c.unsigned_abs-2.result ≡ unsigned_abs c.args.den = simp to_z-of_z at c.unsigned_abs-2.ensures.value in
    simp to_z-of_z (subst (λ (m : ℕ). c.gcd-divisor.result ∣ m) is c.gcd-divisor.ensures.divisor.1)

pub quotient-requires-clause-positive : goal.quotient-requires-clause-positive
quotient-requires-clause-positive c =
    let fd : FitsSigned w64 c.args.den = c.ranges.den in
    let is : c.unsigned_abs-2.result ≡ unsigned_abs c.args.den = simp to_z-of_z at c.unsigned_abs-2.ensures.value in
    divisor_positive c.args.den c.gcd-divisor.result c.requires (subst (λ (m : ℕ). c.gcd-divisor.result ∣ m) is c.gcd-divisor.ensures.divisor.1)

pub quotient-requires-2-clause-positive : goal.quotient-requires-2-clause-positive
quotient-requires-2-clause-positive c =
    let fd : FitsSigned w64 c.args.den = c.ranges.den in
    let is : c.unsigned_abs-2.result ≡ unsigned_abs c.args.den = simp to_z-of_z at c.unsigned_abs-2.ensures.value in
    divisor_positive c.args.den c.gcd-divisor.result c.requires (subst (λ (m : ℕ). c.gcd-divisor.result ∣ m) is c.gcd-divisor.ensures.divisor.1)

pub invariant_of-result : goal.invariant_of-result
invariant_of-result c =
    let fn_ : FitsSigned w64 c.args.num = c.ranges.num in
    let fd : FitsSigned w64 c.args.den = c.ranges.den in
    let fa : FitsSigned w64 c.quotient.result = search rules in
    let fb : FitsSigned w64 c.quotient-2.result = search rules in
    let g = c.gcd-divisor.result in
    let a_is : c.unsigned_abs.result ≡ unsigned_abs c.args.num = simp to_z-of_z at c.unsigned_abs.ensures.value in
    let b_is : c.unsigned_abs-2.result ≡ unsigned_abs c.args.den = simp to_z-of_z at c.unsigned_abs-2.ensures.value in
    let is : IsGcd (unsigned_abs c.args.num) (unsigned_abs c.args.den) g = subst (λ (m : ℕ). IsGcd m (unsigned_abs c.args.den) g) a_is (subst (λ (m : ℕ). IsGcd c.unsigned_abs.result m g) b_is c.gcd-divisor.ensures.divisor) in
    let above : 0 < g = divisor_positive c.args.den g c.requires is.1 in
    let e : c.quotient.result *ℤ pos g ≡ c.args.num = simp to_z-of_z at c.quotient.ensures in
    let f : c.quotient-2.result *ℤ pos g ≡ c.args.den = simp to_z-of_z at c.quotient-2.ensures in
    simp to_z-of_z (record { positive = positive_part c.quotient-2.result c.args.den g c.requires f; lowest = lowest_terms c.args.num c.args.den c.quotient.result c.quotient-2.result g above is e f })

pub returns : goal.returns
returns c =
    let fn_ : FitsSigned w64 c.args.num = c.ranges.num in
    let fd : FitsSigned w64 c.args.den = c.ranges.den in
    let fa : FitsSigned w64 c.quotient.result = search rules in
    let fb : FitsSigned w64 c.quotient-2.result = search rules in
    let g = c.gcd-divisor.result in
    let e : c.quotient.result *ℤ pos g ≡ c.args.num = simp to_z-of_z at c.quotient.ensures in
    let f : c.quotient-2.result *ℤ pos g ≡ c.args.den = simp to_z-of_z at c.quotient-2.ensures in
    simp to_z-of_z (same_ratio c.args.num c.args.den c.quotient.result c.quotient-2.result g e f)
