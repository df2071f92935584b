use Rattle.std.proofs.Common.{arith, ap, length, ◌+◌, ◌≡◌, ◌<◌, ◌∙◌, List, set, subst, sym}
use Rattle.std.specs.Prelude.{ℤ, unsigned_abs}
use Rattle.std.specs.List.{All}
use mir.Syntax.{w64}
use mir.Val.{to_z, of_z}
use Rattle.exact_num.specs.declared.limits.TheConstants.{WIDE}
use Rattle.pivot_form.specs.Kept.{whole_row}
use Rattle.pivot_form.specs.Shorts.{store_of}
use Rattle.pivot_form.proofs.Shorts.{equation, kept_bits, right_small}
use Rattle.pivot_form.proofs.Whole.{width_at}
use Rattle.pivot_form.proofs.WholeRows.{entry_written, row_finished}
use Rattle.pivot_form.proofs.whole_rows.write_row.Goals as goal

made : (c : goal.After-right) → set c.loop-variable.out c.len-variables.result (to_z w64 (of_z w64 c.right.result)) ≡ whole_row (store_of c.args.short.now) c.args.basic
made c =
    let s = store_of c.args.short.now in
    let small : unsigned_abs c.right.result < WIDE = subst (λ (x : ℤ). unsigned_abs x < WIDE) (sym c.right.ensures) (right_small s c.args.basic c.requires.short c.requires.basic) in
    row_finished s c.args.basic c.len-variables.result c.loop-variable.out (to_z w64 (of_z w64 c.right.result))
    (omega (arith, c.len-variables.ensures, c.args.short.now.places.ok.0))
    (omega (arith, c.loop-variable.auto.out, c.requires.wide))
    (λ v l. c.loop-variable.invariant v (omega (arith, l, c.loop-variable-test.false)))
    (kept_bits c.right.result small ∙ c.right.ensures)

pub entry-requires : goal.entry-requires
entry-requires c = omega (arith, c.loop-variable-test.true, ap length c.new-equation.ensures, width_at (store_of c.args.short.now) c.args.basic, c.len-variables.ensures, c.args.short.now.places.ok.0)

pub loop-variable-preserved : goal.loop-variable-preserved
loop-variable-preserved c =
    let s = store_of c.args.short.now in
    let inside : c.loop-variable.variable + 1 < length c.new-equation.result = omega (arith, c.loop-variable-test.true, ap length c.new-equation.ensures, width_at s c.args.basic, c.len-variables.ensures, c.args.short.now.places.ok.0) in
    let wide : c.loop-variable.variable < length c.loop-variable.out = omega (arith, inside, ap length c.new-equation.ensures, width_at s c.args.basic, c.loop-variable.auto.out, c.requires.wide) in
    entry_written s c.args.basic c.loop-variable.variable c.loop-variable.out c.new-equation.result c.entry.result (sym c.new-equation.ensures) inside wide c.entry.ensures.small c.entry.ensures.value c.loop-variable.invariant

pub returns-clause-value : goal.returns-clause-value
returns-clause-value c = made c

pub returns-clause-small : goal.returns-clause-small
returns-clause-small c =
    let e = equation (store_of c.args.short.now) c.args.basic c.requires.short c.requires.basic in
    subst (λ (row : List ℤ). All (λ x. unsigned_abs x < WIDE) row) (sym (made c)) e.small
