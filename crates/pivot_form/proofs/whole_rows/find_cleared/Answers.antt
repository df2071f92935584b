use Rattle.std.proofs.Common.{arith, ◌≡◌, ◌∙◌, List, ap, get_or, sym}
use Rattle.std.specs.Prelude.{ℤ, pos}
use Rattle.std.proofs.lemmas.Int.{ints}
use Rattle.pivot_form.specs.Shorts.{store_of}
use Rattle.pivot_form.proofs.WholeRows.{clear_none}
use Rattle.pivot_form.proofs.whole_rows.find_cleared.Goals as goal

pub returns-then-whole-column-eq0 : goal.returns-then-whole-column-eq0
returns-then-whole-column-eq0 c =
    let none : get_or c.write_row.new.out c.args.column (pos 0) ≡ pos 0 = omega (arith, ints, c.if-whole-column-eq0.true) in
    sym (clear_none (store_of c.args.short.now) c.args.basic c.args.column c.args.lead.now c.requires.short c.requires.basic c.requires.wide_lead c.requires.positive (ap (λ (row : List ℤ). get_or row c.args.column (pos 0)) (sym c.write_row.ensures.value) ∙ none))
