use Rattle.std.proofs.Common.{arith, ◌≡◌, ◌+◌, get_or, rules}
use Rattle.std.specs.Prelude.{pos}
use Rattle.std.proofs.lemmas.Int.{ints, to_z-of_z}
use Rattle.std.specs.Int.RustNames.{FitsSigned}
use mir.Syntax.{w64}
use Rattle.row_program.specs.Points.{term_value}
use Rattle.row_program.specs.declared.program.Term.{Term}
use Rattle.row_program.proofs.Values.{sum_z_more}
use Rattle.dual_bound.proofs.cell_rows.terms_sum.Goals as goal

pub loop-term-preserved : goal.loop-term-preserved
loop-term-preserved c =
    let none : Term = record { variable = 0; times = pos 0 } in
    let t : Term = get_or c.args.terms.now c.loop-term.term-index none in
    let small : FitsSigned w64 t.times = search rules in
    let more = sum_z_more (term_value c.args.values.now) c.args.terms.now c.loop-term.term-index (c.loop-term.term-index + 1) none (omega arith) (omega arith) in
    let value : c.scaled-sum.result ≡ term_value c.args.values.now t = simp to_z-of_z at c.scaled-sum.ensures.value in
    let total = c.loop-term.invariant.total in
    record { total = omega (arith, ints, more, value, total); bound = omega (arith, ints, c.scaled-sum.ensures.small, c.loop-term.invariant.bound) }
