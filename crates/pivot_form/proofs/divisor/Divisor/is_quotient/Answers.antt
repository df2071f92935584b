use Rattle.std.proofs.Common.{arith, rules, ◌≡◌}
use Rattle.std.specs.Prelude.{unsigned_abs, ◌*ℤ◌}
use Rattle.std.specs.Int.RustNames.{FitsSigned}
use Rattle.std.proofs.lemmas.Int.{to_z-of_z}
use mir.Syntax.{w64}
use Rattle.pivot_form.proofs.Quotients.{quotient_fits, quotient_is}
use Rattle.pivot_form.proofs.divisor.Divisor.is_quotient.Goals as goal

pub overflow_mul-result : goal.overflow_mul-result
overflow_mul-result c =
    let q : FitsSigned w64 c.args.quotient = c.ranges.quotient in
    let v : FitsSigned w64 c.args.self.now.value = search rules in
    let size : c.unsigned_abs.result ≡ unsigned_abs c.args.quotient = simp to_z-of_z at c.unsigned_abs.ensures.value in
    simp to_z-of_z (quotient_fits c.args.quotient c.args.self.now.value c.args.self.now.most (omega (arith, size, c.if-unsigned_abs-self.true)) c.args.self.now.room)

pub returns-then-unsigned_abs-self : goal.returns-then-unsigned_abs-self
returns-then-unsigned_abs-self c =
    let q : FitsSigned w64 c.args.quotient = c.ranges.quotient in
    let v : FitsSigned w64 c.args.self.now.value = search rules in
    let size : c.unsigned_abs.result ≡ unsigned_abs c.args.quotient = simp to_z-of_z at c.unsigned_abs.ensures.value in
    let fits : FitsSigned w64 (c.args.quotient *ℤ c.args.self.now.value) = quotient_fits c.args.quotient c.args.self.now.value c.args.self.now.most (omega (arith, size, c.if-unsigned_abs-self.true)) c.args.self.now.room in
    simp to_z-of_z (quotient_is c.args.quotient c.args.self.now.value c.args.x fits c.ranges.x)
