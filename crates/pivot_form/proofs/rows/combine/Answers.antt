use Rattle.std.proofs.Common.{arith, ◌<◌, length, get_or, rules, below_more, get_or-set_other, get_or-set_same, ◌≢◌}
use Rattle.std.proofs.lemmas.Int.{to_z-of_z}
use Rattle.std.specs.Prelude.{pos}
use Rattle.std.specs.Int.RustNames.{FitsSigned}
use mir.Syntax.{w64, w128}
use Rattle.pivot_form.proofs.Equations.{same_combination}
use Rattle.pivot_form.proofs.rows.combine.Goals as goal

pub loop-i-preserved : goal.loop-i-preserved
loop-i-preserved c =
    let pl = c.ranges.p in
    let ql = c.ranges.q in
    let rf : FitsSigned w128 c.cross.result = search rules in
    let xf : FitsSigned w64 (get_or c.args.row.now c.loop-i.i (pos 0)) = search rules in
    let yf : FitsSigned w64 (get_or c.args.lead.now c.loop-i.i (pos 0)) = search rules in
    let value = simp to_z-of_z at c.cross.ensures.value in
    below_more _ _
    (λ k h. let ne : k ≢ c.loop-i.i = omega arith in rw get_or-set_other (c.loop-i.invariant k h))
    (let lt : c.loop-i.i < length c.loop-i.out = omega arith in rw get_or-set_same (simp to_z-of_z value))

pub returns : goal.returns
returns c =
    let pl = c.ranges.p in
    let ql = c.ranges.q in
    same_combination c.args.p c.args.q c.loop-i.out c.args.row.now c.args.lead.now (omega arith) (omega arith) (λ k l. simp to_z-of_z at (c.loop-i.invariant k (omega arith)))
