use Rattle.std.proofs.Common.{arith, rules, ◌≡◌, ◌<◌, ◌∙◌, get_or, length}
use Rattle.std.specs.Prelude.{pos}
use lib.IntN.{neg_ℤ}
use Rattle.std.proofs.lemmas.Int.{to_z-of_z}
use Rattle.std.proofs.lemmas.List.{get_or-set_other}
use Rattle.std.specs.Int.RustNames.{FitsSigned}
use mir.Syntax.{w64}
use Rattle.row_program.specs.declared.program.Term.{Term}
use Rattle.pivot_form.proofs.FirstSlots.{columns_more}
use Rattle.pivot_form.proofs.start.write_terms.Goals as goal

pub loop-term-preserved : goal.loop-term-preserved
loop-term-preserved c =
    let d : Term = record { variable = 0; times = pos 0 } in
    let i = c.loop-term.term-index in
    let t : Term = get_or c.args.terms.now i d in
    let small : FitsSigned w64 t.times = search rules in
    let made : FitsSigned w64 c.opposite.result = search rules in
    let is : c.opposite.result ≡ neg_ℤ t.times = simp to_z-of_z at c.opposite.ensures in
    let low : t.variable < c.args.variables = c.requires.within i d (omega arith) in
    let wide : c.args.variables < length c.loop-term.row = omega arith in
    simp to_z-of_z (record {
      written = columns_more c.args.terms.now c.loop-term.row c.args.variables i d c.opposite.result (omega arith) wide c.requires.one_each low is c.loop-term.invariant.written;
      rest = λ k h. get_or-set_other c.loop-term.row t.variable k c.opposite.result (pos 0) (λ e. absurd (omega (arith, e, h, low))) ∙ c.loop-term.invariant.rest k h;
    })
