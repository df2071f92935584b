use Rattle.std.proofs.Common.{arith, rules, ◌≡◌, ◌≢◌, ◌<◌, ◌∙◌, refl, length, get_or, below_more, get_or-set_other, get_or-set_same}
use Rattle.std.specs.Prelude.{pos, ◌*ℤ◌, ◌-ℤ◌}
use Rattle.std.specs.Int.RustNames.{FitsSigned}
use Rattle.std.proofs.lemmas.Int.{to_z-of_z}
use mir.Syntax.{w64}
use Rattle.pivot_form.proofs.Equations.{same_combination}
use Rattle.pivot_form.proofs.small_rows.combine_small.Goals as goal

pub loop-i-preserved : goal.loop-i-preserved
loop-i-preserved c =
    let pl : FitsSigned w64 c.args.p = c.ranges.p in
    let ql : FitsSigned w64 c.args.q = c.ranges.q in
    let i = c.loop-i.i in
    let lt : i < length c.loop-i.row = omega arith in
    let rf : FitsSigned w64 c.small_cross.result = search rules in
    let xf : FitsSigned w64 (get_or c.loop-i.row i (pos 0)) = search rules in
    let yf : FitsSigned w64 (get_or c.args.lead.now i (pos 0)) = search rules in
    let value : c.small_cross.result ≡ c.args.p *ℤ get_or c.loop-i.row i (pos 0) -ℤ c.args.q *ℤ get_or c.args.lead.now i (pos 0) = simp to_z-of_z at c.small_cross.ensures in
    let here = c.loop-i.invariant.left i (omega arith) in
    record {
      done = below_more _ _
          (λ k h. let ne : k ≢ i = omega arith in rw get_or-set_other (c.loop-i.invariant.done k h))
          (rw get_or-set_same (simp to_z-of_z (value ∙ rw here refl)));
      left = λ k h. let ne : k ≢ i = omega arith in rw get_or-set_other (c.loop-i.invariant.left k (omega (arith, h)));
    }

pub returns : goal.returns
returns c =
    let pl : FitsSigned w64 c.args.p = c.ranges.p in
    let ql : FitsSigned w64 c.args.q = c.ranges.q in
    same_combination c.args.p c.args.q c.loop-i.row c.args.row.now c.args.lead.now (omega arith) (omega (arith, c.requires.same)) (λ k l. simp to_z-of_z at (c.loop-i.invariant.done k (omega (arith, l))))
