use Rattle.std.proofs.Common.{arith, ap, sym, ◌∙◌, subst, ◌≡◌, length}
use Rattle.std.proofs.lemmas.List.{with_items_is}
use Rattle.row_program.specs.Forms.{IsNonbasic, Table, tableau}
use Rattle.pivot_form.specs.Invariant.{IsForm}
use Rattle.pivot_form.specs.Shorts.{AreSumsUpTo, store_of}
use Rattle.pivot_form.proofs.NextForm.{reduced_next, solutions_kept, solved_next}
use Rattle.pivot_form.proofs.WholeRows.{basic_at, row_inside}
use Rattle.pivot_form.proofs.form.Form.pivot.Goals as goal

pub unpair-requires-clause-basic : goal.unpair-requires-clause-basic
unpair-requires-clause-basic c = rw c.basic-basic.ensures (basic_at (store_of c.self.inside.short) c.args.row c.self.invariant.0 (row_inside (store_of c.self.inside.short) c.args.self c.args.row c.self.view_is c.requires.row))

pub returns-in-Some-clause-solutions : goal.returns-in-Some-clause-solutions
returns-in-Some-clause-solutions c = solutions_kept c.args.self c.args.row c.args.column (subst IsForm c.self.view_is c.self.invariant.0.form) c.requires.row c.requires.column c.requires.nonzero

pub returns-in-Some-clause-solved : goal.returns-in-Some-clause-solved
returns-in-Some-clause-solved c = solved_next c.args.self c.args.row c.args.column (subst IsForm c.self.view_is c.self.invariant.0.form) c.requires.row c.requires.column c.requires.nonzero

pub returns-in-Some-clause-reduced : goal.returns-in-Some-clause-reduced
returns-in-Some-clause-reduced c = reduced_next c.args.self c.args.row c.args.column (subst IsForm c.self.view_is c.self.invariant.0.form) c.requires.row c.requires.column c.requires.nonzero

pub pivot-requires-clause-nonbasic : goal.pivot-requires-clause-nonbasic
pivot-requires-clause-nonbasic c = subst (λ (t : Table). IsNonbasic (tableau t) c.args.column) (sym (c.unpair.ensures.same ∙ c.self.view_is)) c.requires.nonbasic

pub returns-clause-solutions : goal.returns-clause-solutions
returns-clause-solutions c = solutions_kept c.args.self c.args.row c.args.column (subst IsForm c.self.view_is c.self.invariant.0.form) c.requires.row c.requires.column c.requires.nonzero

pub returns-clause-solved : goal.returns-clause-solved
returns-clause-solved c = solved_next c.args.self c.args.row c.args.column (subst IsForm c.self.view_is c.self.invariant.0.form) c.requires.row c.requires.column c.requires.nonzero

pub returns-clause-reduced : goal.returns-clause-reduced
returns-clause-reduced c = reduced_next c.args.self c.args.row c.args.column (subst IsForm c.self.view_is c.self.invariant.0.form) c.requires.row c.requires.column c.requires.nonzero

pub invariant_of-self : goal.invariant_of-self
invariant_of-self c =
    let inside = c.self.inside in
    let lead = c.find_large-large.new.lead in
    let whole = c.find_large-large.new.whole in
    let scratch = c.find_large-large.new.scratch in
    let width = c.pivot.ensures.width ∙ c.unpair.ensures.width in
    let variables = ap (λ (t : Table). t.variables) c.pivot.ensures.value in
    let same = ap (λ (t : Table). t.variables) c.unpair.ensures.same in
    let lead_len : length c.pivot.new.lead ≡ inside.lead.len = omega (arith, c.pivot.auto.lead, c.as_mut_slice-4.ensures.len) in
    let scratch_len : length c.pivot.new.scratch ≡ inside.scratch.len = omega (arith, c.pivot.auto.scratch, c.as_mut_slice-5.ensures.len) in
    let whole_lead_len : length lead ≡ inside.whole_lead.len = omega (arith, c.find_large-large.auto.lead, c.as_mut_slice.ensures.len) in
    let whole_row_len : length whole ≡ inside.whole_row.len = omega (arith, c.find_large-large.auto.whole, c.as_mut_slice-2.ensures.len) in
    let whole_scratch_len : length scratch ≡ inside.whole_scratch.len = omega (arith, c.find_large-large.auto.scratch, c.as_mut_slice-3.ensures.len) in
    let new_lead = ap length (with_items_is inside.lead c.pivot.new.lead lead_len) in
    let new_scratch = ap length (with_items_is inside.scratch c.pivot.new.scratch scratch_len) in
    let new_whole_lead = ap length (with_items_is inside.whole_lead lead whole_lead_len) in
    let new_whole_row = ap length (with_items_is inside.whole_row whole whole_row_len) in
    let new_whole_scratch = ap length (with_items_is inside.whole_scratch scratch whole_scratch_len) in (
      c.pivot.ensures.short,
      subst (AreSumsUpTo inside.most_sum) (sym (c.pivot.ensures.pairs ∙ c.unpair.ensures.pairs)) c.self.invariant.1,
      omega (arith, new_lead, lead_len, inside.lead.ok.0, width, c.self.invariant.2),
      omega (arith, new_scratch, scratch_len, inside.scratch.ok.0, width, c.self.invariant.3),
      omega (arith, new_whole_lead, whole_lead_len, inside.whole_lead.ok.0, variables, same, c.self.invariant.4),
      omega (arith, new_whole_row, whole_row_len, inside.whole_row.ok.0, variables, same, c.self.invariant.5),
      omega (arith, new_whole_scratch, whole_scratch_len, inside.whole_scratch.ok.0, variables, same, c.self.invariant.6),
    )
