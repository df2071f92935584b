use Rattle.std.proofs.Common.{rules, ◌≡◌, get_or, sym, subst, List, None}
use Rattle.std.specs.Prelude.{ℤ, pos}
use Rattle.row_program.specs.Forms.{first_large}
use Rattle.pivot_form.specs.Kept.{cleared_by}
use Rattle.pivot_form.proofs.Cleared.{cleared_none}
use Rattle.pivot_form.proofs.Equations.{small_from_none}
use Rattle.pivot_form.proofs.clearing.clear_short.Goals as goal

pub store-requires-clause-small : goal.store-requires-clause-small
store-requires-clause-small c =
    let made : c.clear_by.new.out ≡ cleared_by c.args.lead.now.column c.args.lead.now.own c.args.lead.now.row.now c.args.row.now = search rules in
    small_from_none c.clear_by.new.out (subst (λ (xs : List ℤ). first_large xs ≡ None) (sym made) c.requires.narrow)

pub returns-then-q-eq0 : goal.returns-then-q-eq0
returns-then-q-eq0 c =
    let lead = c.args.lead.now in
    let none : get_or c.args.row.now lead.column (pos 0) ≡ pos 0 = search rules in
    cleared_none lead.column lead.own lead.row.now c.args.row.now c.requires.same_lead lead.positive none c.requires.primitive
