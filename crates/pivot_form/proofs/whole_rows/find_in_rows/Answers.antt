use Rattle.std.proofs.Common.{arith, ◌≡◌, ◌<◌, ◌∙◌, length, ap, sym, ℕ, None}
use Rattle.row_program.specs.Forms.{eliminated, first_large}
use Rattle.pivot_form.specs.Kept.{whole_row}
use Rattle.pivot_form.specs.Shorts.{store_of}
use Rattle.pivot_form.proofs.WholeRows.{past_other, past_pivot, none_of}
use Rattle.pivot_form.proofs.whole_rows.find_in_rows.Goals as goal
use Rattle.pivot_form.proofs.whole_rows.find_in_rows.Goals.{then-i-row+else-is_some, else-i-row}

pub loop-i-preserved : goal.loop-i-preserved
loop-i-preserved c =
    let s = store_of c.args.short.now in
    let i = c.loop-i.i in
    let inside : i < length s.basis = omega (arith, c.loop-i-test.true, c.row_count-i-end.ensures) in
    elim c.if-i-row.branch [
      | then-i-row+else-is_some w ↦
          let none : w.find_cleared-large.result ≡ None = none_of w.find_cleared-large.result (sym w.is_some.ensures ∙ w.if-is_some.false) in
          past_other s c.args.row c.args.column i c.args.lead.now inside c.requires.lead (omega (arith, w.if-i-row.true))
          (ap (λ (b : ℕ). first_large (eliminated c.args.column (whole_row s b) c.args.lead.now)) (sym w.basic.ensures) ∙ sym w.find_cleared-large.ensures ∙ none)
          ∙ c.loop-i.invariant
      | else-i-row w ↦ past_pivot s c.args.row c.args.column i c.args.lead.now inside c.requires.lead (omega (arith, w.if-i-row.false)) c.requires.small_lead ∙ c.loop-i.invariant
    ]
