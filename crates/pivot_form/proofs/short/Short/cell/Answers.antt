use Rattle.std.proofs.Common.{arith, refl, ◌∙◌, ◌≡◌, ◌<◌, subst, sym}
use Rattle.std.specs.Prelude.{unsigned_abs, ℤ}
use Rattle.exact_num.specs.declared.limits.TheConstants.{WIDE}
use Rattle.pivot_form.specs.Kept.{cell}
use Rattle.pivot_form.specs.Shorts.{store_of}
use Rattle.pivot_form.proofs.Equations.{length-row_lists}
use Rattle.pivot_form.proofs.Shorts.{cell_read, cell_small, kept_bits, small_bits, vector_inside}
use Rattle.pivot_form.proofs.short.Short.cell.Goals as goal

pub index-requires-2 : goal.index-requires-2
index-requires-2 c =
    let wide = vector_inside (store_of c.args.self.now) c.args.self.now.rows.items c.args.slot c.index.result.now c.requires.short refl (omega (arith, c.requires.slot, length-row_lists c.args.self.now.rows.items)) c.index.ensures in
    omega (arith, wide, c.requires.place)

read : (c : goal.After-result-1) → c.index-2.result.now ≡ cell (store_of c.args.self.now) c.args.slot c.args.place
read c = cell_read (store_of c.args.self.now) c.args.self.now.rows.items c.args.slot c.args.place c.index.result.now c.index-2.result.now c.requires.short refl (omega (arith, c.requires.slot, length-row_lists c.args.self.now.rows.items)) c.index.ensures c.requires.place c.index-2.ensures

small : (c : goal.After-result-1) → unsigned_abs c.index-2.result.now < WIDE
small c = subst (λ (x : ℤ). unsigned_abs x < WIDE) (sym (read c)) (cell_small (store_of c.args.self.now) c.args.slot c.args.place c.requires.short c.requires.slot c.requires.place)

pub returns-clause-value : goal.returns-clause-value
returns-clause-value c = kept_bits c.index-2.result.now (small c) ∙ read c

pub returns-clause-small : goal.returns-clause-small
returns-clause-small c = small_bits c.index-2.result.now (small c)
