use Rattle.std.proofs.Common.{refl}
use Rattle.std.specs.Prelude.{◌*ℤ◌, ◌-ℤ◌, unsigned_abs, ◌*◌}
use Rattle.std.specs.Int.RustNames.{FitsSigned}
use Rattle.std.proofs.Common.{arith}
use Rattle.std.proofs.lemmas.Int.{to_z-of_z}
use mir.Syntax.{w64}
use Rattle.pivot_form.proofs.SmallRows.{small_difference, small_product}
use Rattle.pivot_form.proofs.small_rows.small_cross.Goals as goal

pub overflow_sub-result : goal.overflow_sub-result
overflow_sub-result c =
    let p : FitsSigned w64 c.args.p = c.ranges.p in
    let x : FitsSigned w64 c.args.x = c.ranges.x in
    let q : FitsSigned w64 c.args.q = c.ranges.q in
    let y : FitsSigned w64 c.args.y = c.ranges.y in
    let first : FitsSigned w64 (c.args.p *ℤ c.args.x) = small_product c.args.p c.args.x (unsigned_abs c.args.q * unsigned_abs c.args.y) c.requires in
    let second : FitsSigned w64 (c.args.q *ℤ c.args.y) = small_product c.args.q c.args.y (unsigned_abs c.args.p * unsigned_abs c.args.x) (omega (arith, c.requires)) in
    simp to_z-of_z (small_difference c.args.p c.args.x c.args.q c.args.y c.requires)

pub returns : goal.returns
returns c =
    let p : FitsSigned w64 c.args.p = c.ranges.p in
    let x : FitsSigned w64 c.args.x = c.ranges.x in
    let q : FitsSigned w64 c.args.q = c.ranges.q in
    let y : FitsSigned w64 c.args.y = c.ranges.y in
    let first : FitsSigned w64 (c.args.p *ℤ c.args.x) = small_product c.args.p c.args.x (unsigned_abs c.args.q * unsigned_abs c.args.y) c.requires in
    let second : FitsSigned w64 (c.args.q *ℤ c.args.y) = small_product c.args.q c.args.y (unsigned_abs c.args.p * unsigned_abs c.args.x) (omega (arith, c.requires)) in
    let whole : FitsSigned w64 (c.args.p *ℤ c.args.x -ℤ c.args.q *ℤ c.args.y) = small_difference c.args.p c.args.x c.args.q c.args.y c.requires in
    simp to_z-of_z refl
