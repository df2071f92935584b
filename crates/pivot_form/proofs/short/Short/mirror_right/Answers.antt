use Rattle.std.proofs.Common.{◌∙◌, ◌≡◌, ◌<◌, sym, subst}
use Rattle.std.specs.Prelude.{unsigned_abs, ℤ}
use Rattle.exact_num.specs.declared.limits.TheConstants.{WIDE}
use Rattle.pivot_form.specs.Kept.{right_of}
use Rattle.pivot_form.specs.Shorts.{store_of}
use Rattle.pivot_form.proofs.Shorts.{cast_bits, cast_fits, crossed_right, right_small, slot_within}
use Rattle.pivot_form.proofs.short.Short.mirror_right.Goals as goal

pub cell-requires-2-clause-slot : goal.cell-requires-2-clause-slot
cell-requires-2-clause-slot c = slot_within (store_of c.args.self.now) c.args.basic c.args.pair c.requires.short c.requires.basic c.requires.paired c.requires.pair c.args.slot c.requires.other

is_right : (c : goal.After-cross) → c.cross.result ≡ right_of (store_of c.args.self.now) c.args.basic
is_right c = crossed_right (store_of c.args.self.now) c.args.basic c.args.pair c.requires.short c.requires.basic c.requires.paired c.requires.pair c.args.slot c.cell.result c.cell-2.result c.cross.result c.requires.other c.cell.ensures.value c.cell-2.ensures.value c.cell.ensures.small c.cell-2.ensures.small c.cross.ensures.value

small : (c : goal.After-cross) → unsigned_abs c.cross.result < WIDE
small c = subst (λ (x : ℤ). unsigned_abs x < WIDE) (sym (is_right c)) (right_small (store_of c.args.self.now) c.args.basic c.requires.short c.requires.basic)

pub overflow_cast-result : goal.overflow_cast-result
overflow_cast-result c = cast_fits c.cross.result (small c)

pub returns : goal.returns
returns c = cast_bits c.cross.result (small c) ∙ is_right c
