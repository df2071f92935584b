use Rattle.std.proofs.Common.{arith, ◌+◌, Some, ℕ, ◌≡◌, get_or, rules, sym, ◌∙◌, drop, ap}
use Rattle.std.proofs.lemmas.Int.{to_z-of_z}
use Rattle.std.proofs.lemmas.List.{at_drop_more}
use Rattle.std.specs.Prelude.{pos, unsigned_abs}
use Rattle.std.specs.Int.RustNames.{FitsSigned}
use mir.Syntax.{w128}
use Rattle.row_program.specs.Forms.{first_large}
use Rattle.pivot_form.proofs.Equations.{first_large_here, first_large_past}
use Rattle.pivot_form.proofs.rows.find_large.Goals as goal

pub loop-x-preserved : goal.loop-x-preserved
loop-x-preserved c =
    let i = c.loop-x.x-index in
    let x = get_or c.args.row.now i (pos 0) in
    let f : FitsSigned w128 x = search rules in
    let size : c.unsigned_abs-size.result ≡ unsigned_abs x = (simp to_z-of_z at c.unsigned_abs-size.ensures).value in
    let more = at_drop_more first_large c.args.row.now i (pos 0) (omega arith) in
    sym (more ∙ first_large_past x (drop (i + 1) c.args.row.now) (omega arith)) ∙ c.loop-x.invariant

pub returns-then-size : goal.returns-then-size
returns-then-size c =
    let i = c.loop-x.x-index in
    let x = get_or c.args.row.now i (pos 0) in
    let f : FitsSigned w128 x = search rules in
    let size : c.unsigned_abs-size.result ≡ unsigned_abs x = (simp to_z-of_z at c.unsigned_abs-size.ensures).value in
    let more = at_drop_more first_large c.args.row.now i (pos 0) (omega arith) in
    ap (λ (n : ℕ). Some n) size ∙ sym (first_large_here x (drop (i + 1) c.args.row.now) (omega arith)) ∙ sym more ∙ c.loop-x.invariant
