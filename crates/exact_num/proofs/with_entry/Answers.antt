use Rattle.std.proofs.Common.{arith, refl, ◌≡◌, subst, ℕ}
use Rattle.std.specs.Prelude.{unsigned_abs}
use Rattle.std.specs.Int.{IsGcd}
use Rattle.std.specs.Int.RustNames.{FitsSigned}
use mir.Syntax.{w128}
use Rattle.std.proofs.lemmas.Int.{ints, to_z-of_z}
use Rattle.std.proofs.lemmas.Nat.Gcd.{IsGcd-from_zero}
use Rattle.exact_num.proofs.Divisors.{gcd_of_is, IsGcd-swapped}
use Rattle.exact_num.proofs.with_entry.Goals as goal

pub returns-then-x-eq0 : goal.returns-then-x-eq0
returns-then-x-eq0 c =
    let none : 0 ≡ unsigned_abs c.args.x = omega (arith, ints, c.if-x-eq0.true) in
    gcd_of_is c.args.divisor (unsigned_abs c.args.x) c.args.divisor (subst (λ (n : ℕ). IsGcd c.args.divisor n c.args.divisor) none (IsGcd-from_zero c.args.divisor 0 refl))

pub returns-else-x-eq0 : goal.returns-else-x-eq0
returns-else-x-eq0 c =
    let fits : FitsSigned w128 c.args.x = c.ranges.x in
    let size : c.unsigned_abs.result ≡ unsigned_abs c.args.x = simp to_z-of_z at c.unsigned_abs.ensures.value in
    gcd_of_is c.args.divisor (unsigned_abs c.args.x) c.gcd.result (subst (λ (n : ℕ). IsGcd c.args.divisor n c.gcd.result) size (IsGcd-swapped c.unsigned_abs.result c.args.divisor c.gcd.result c.gcd.ensures.divisor))
