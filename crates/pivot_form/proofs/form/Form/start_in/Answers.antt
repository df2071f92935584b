use Rattle.std.proofs.Common.{arith, ap, sym, subst, ◌≡◌, ◌∙◌, ◌+◌, ℕ, length, None}
use Rattle.std.specs.Prelude.{pos}
use Rattle.std.proofs.lemmas.List.{length-replicate}
use Rattle.pivot_form.specs.Shorts.{AreSumsUpTo}
use Rattle.row_program.specs.Forms.{IsReduced, IsSolved, Table, first_large_of, tableau}
use Rattle.pivot_form.proofs.FirstForm.{first_is_form, first_narrow, first_reduced}
use Rattle.pivot_form.proofs.form.Form.start_in.Goals as goal

pub returns-clause-solved : goal.returns-clause-solved
returns-clause-solved c = let form = first_is_form c.args.program.now in subst (λ (t : Table). IsSolved (tableau t)) (sym c.in_ok-short.ensures.value) form.solved

pub returns-clause-reduced : goal.returns-clause-reduced
returns-clause-reduced c = subst IsReduced (sym c.in_ok-short.ensures.value) (first_reduced c.args.program.now)

pub returns-clause-narrow : goal.returns-clause-narrow
returns-clause-narrow c = subst (λ (t : Table). first_large_of t.rows ≡ None) (sym c.in_ok-short.ensures.value) (first_narrow c.args.program.now)

pub invariant_of-result : goal.invariant_of-result
invariant_of-result c =
    let short = c.in_ok-short.short in
    let width = short.width + 2 in
    let whole = c.len-whole.result + 1 in
    let lead = ap length c.in_ok-filled.ensures ∙ length-replicate width (pos 0) in
    let scratch = ap length c.in_ok-filled-2.ensures ∙ length-replicate width (pos 0) in
    let whole_lead = ap length c.in_ok-filled-3.ensures ∙ length-replicate whole (pos 0) in
    let whole_row = ap length c.in_ok-filled-4.ensures ∙ length-replicate whole (pos 0) in
    let whole_scratch = ap length c.in_ok-filled-5.ensures ∙ length-replicate whole (pos 0) in
    let variables : c.len-whole.result ≡ length short.places.items = omega (arith, c.len-whole.ensures, short.places.ok.0) in (
      c.in_ok-short.ensures.short,
      subst (AreSumsUpTo c.most_sum-most_sum.result) c.as_slice.ensures.value c.most_sum-most_sum.ensures,
      lead,
      scratch,
      whole_lead ∙ ap (λ (n : ℕ). n + 1) variables,
      whole_row ∙ ap (λ (n : ℕ). n + 1) variables,
      whole_scratch ∙ ap (λ (n : ℕ). n + 1) variables,
    )
