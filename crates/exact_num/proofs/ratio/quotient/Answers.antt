use Rattle.std.proofs.Common.{arith, rules, ◌≡◌, ap, ◌∙◌}
use Rattle.std.specs.Prelude.{ℤ, pos, ◌*ℤ◌}
use Rattle.std.proofs.lemmas.Int.{ints, to_z-of_z, quot_fits}
use Rattle.std.specs.Int.RustNames.{FitsSigned, int_div}
use mir.Syntax.{w64, w128}
use Rattle.exact_num.proofs.Bounds.{fits_wider}
use Rattle.exact_num.proofs.Divisors.{exact}
use Rattle.exact_num.proofs.ratio.quotient.Goals as goal

pub overflow_cast-result : goal.overflow_cast-result
overflow_cast-result c =
    let x = c.args.x in
    let small : FitsSigned w64 x = c.ranges.x in
    let wide : FitsSigned w128 x = fits_wider x small in
    let part : FitsSigned w128 c.part_of.result = search rules in
    let value : c.part_of.result ≡ int_div x (pos c.args.divisor) = simp to_z-of_z at c.part_of.ensures in
    simp to_z-of_z (rw value (quot_fits w64 x (pos c.args.divisor) small (omega (arith, ints, c.requires.positive))))

pub returns : goal.returns
returns c =
    let x = c.args.x in
    let small : FitsSigned w64 x = c.ranges.x in
    let wide : FitsSigned w128 x = fits_wider x small in
    let part : FitsSigned w128 c.part_of.result = search rules in
    let value : c.part_of.result ≡ int_div x (pos c.args.divisor) = simp to_z-of_z at c.part_of.ensures in
    let narrow : FitsSigned w64 c.part_of.result = rw value (quot_fits w64 x (pos c.args.divisor) small (omega (arith, ints, c.requires.positive))) in
    simp to_z-of_z (ap (λ (z : ℤ). z *ℤ pos c.args.divisor) value ∙ exact x c.args.divisor c.requires.divides)
