use Rattle.std.proofs.Common.{arith, rules, ◌≡◌, ◌∙◌, ap, set, get_or, List}
use Rattle.std.specs.Prelude.{ℤ, pos}
use Rattle.std.specs.Int.RustNames.{FitsSigned, int_div}
use Rattle.std.proofs.lemmas.Int.{to_z-of_z}
use mir.Syntax.{w64}
use Rattle.exact_num.proofs.Maps.{map_front, map_front_more, map_front_all, get_or-map_front}
use Rattle.pivot_form.proofs.small_rows.divide.Goals as goal

pub loop-x-preserved : goal.loop-x-preserved
loop-x-preserved c =
    let i = c.loop-x.x-index in
    let f : ℤ → ℤ = λ x. int_div x c.args.divisor.now.value in
    let e : get_or c.loop-x.row i (pos 0) ≡ get_or c.args.row.now i (pos 0) = ap (λ (r : List ℤ). get_or r i (pos 0)) c.loop-x.invariant ∙ get_or-map_front f i c.args.row.now (pos 0) in
    let fits : FitsSigned w64 (get_or c.loop-x.row i (pos 0)) = search rules in
    let made : FitsSigned w64 c.part_of.result = search rules in
    let value : c.part_of.result ≡ f (get_or c.loop-x.row i (pos 0)) = simp to_z-of_z at c.part_of.ensures in
    let more = map_front_more f i c.args.row.now (pos 0) (omega arith) in
    simp to_z-of_z (ap (λ (r : List ℤ). set r i c.part_of.result) c.loop-x.invariant ∙ ap (set (map_front f i c.args.row.now) i) (value ∙ ap f e) ∙ more)

pub returns : goal.returns
returns c = c.loop-x.invariant ∙ map_front_all (λ x. int_div x c.args.divisor.now.value) c.loop-x.x-index c.args.row.now (omega arith)
