use Rattle.std.proofs.Common.{rules, ◌≡◌, ap, ◌∙◌}
use Rattle.std.specs.Prelude.{pos, unsigned_abs}
use Rattle.std.specs.Int.RustNames.{FitsSigned}
use Rattle.std.proofs.lemmas.Int.{to_z-of_z}
use mir.Syntax.{w64}
use Rattle.pivot_form.proofs.Quotients.{found_gcd, gcd_small, gcd_turned}
use Rattle.pivot_form.proofs.divisor.common_divisor.Goals as goal

pub signed-requires : goal.signed-requires
signed-requires c =
    let a : FitsSigned w64 c.args.a = c.ranges.a in
    let b : FitsSigned w64 c.args.b = c.ranges.b in
    let sized_b : c.unsigned_abs.result ≡ unsigned_abs c.args.b = simp to_z-of_z at c.unsigned_abs.ensures.value in
    let sized_a : c.unsigned_abs-2.result ≡ unsigned_abs c.args.a = simp to_z-of_z at c.unsigned_abs-2.ensures.value in
    gcd_small (unsigned_abs c.args.b) (unsigned_abs c.args.a) c.gcd.result (found_gcd c.args.a c.args.b c.gcd.result _ _ _ _ c.gcd.ensures.value c.from.ensures sized_b c.from-2.ensures sized_a) c.requires.small_b c.requires.small_a

pub returns : goal.returns
returns c =
    let a : FitsSigned w64 c.args.a = c.ranges.a in
    let b : FitsSigned w64 c.args.b = c.ranges.b in
    let sized_b : c.unsigned_abs.result ≡ unsigned_abs c.args.b = simp to_z-of_z at c.unsigned_abs.ensures.value in
    let sized_a : c.unsigned_abs-2.result ≡ unsigned_abs c.args.a = simp to_z-of_z at c.unsigned_abs-2.ensures.value in
    let fits : FitsSigned w64 c.signed.result = search rules in
    let same = gcd_turned (unsigned_abs c.args.b) (unsigned_abs c.args.a) c.gcd.result (found_gcd c.args.a c.args.b c.gcd.result _ _ _ _ c.gcd.ensures.value c.from.ensures sized_b c.from-2.ensures sized_a) in
    record { value = simp to_z-of_z (c.signed.ensures ∙ ap pos same) }
