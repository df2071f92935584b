use Rattle.std.proofs.Common.{rules, ◌≡◌}
use Rattle.std.specs.Prelude.{◌*ℤ◌}
use Rattle.std.specs.Ordering.{int_cmp}
use Rattle.std.proofs.lemmas.Int.{to_z-of_z}
use Rattle.std.proofs.lemmas.Cmp.{int_ranked}
use Rattle.std.specs.Int.RustNames.{FitsSigned}
use mir.Syntax.{w64, w128}
use Rattle.exact_num.proofs.ratio.Ratio.compare.Goals as goal

pub returns : goal.returns
returns c =
    let a = c.args.self.now.num in
    let b = c.args.self.now.den in
    let p = c.args.other.now.num in
    let q = c.args.other.now.den in
    let fa : FitsSigned w64 a = search rules in
    let fb : FitsSigned w64 b = search rules in
    let fp : FitsSigned w64 p = search rules in
    let fq : FitsSigned w64 q = search rules in
    let fl : FitsSigned w128 c.product-left.result = search rules in
    let fr : FitsSigned w128 c.product-right.result = search rules in
    let left : c.product-left.result ≡ a *ℤ q = simp to_z-of_z at c.product-left.ensures in
    let right : c.product-right.result ≡ p *ℤ b = simp to_z-of_z at c.product-right.ensures in
    let order : c.cmp.result ≡ int_cmp c.product-left.result c.product-right.result = simp to_z-of_z at c.cmp.ensures in
    rw (left, right) at (int_ranked c.product-left.result c.product-right.result c.cmp.result order)
