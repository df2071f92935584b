use Rattle.std.proofs.Common.{arith, ap, sym, ◌∙◌, ◌≡◌, None, Some}
use Rattle.row_program.specs.Method.{row_of_basic}
use Rattle.lex_dual.specs.Choices.{equation_at}
use Rattle.lex_dual.proofs.Tables.{place_at, row_place}
use Rattle.lex_dual.proofs.choice.equation_of.Goals as goal

pub equation-requires : goal.equation-requires
equation-requires c =
    let is : row_of_basic c.args.form.now c.args.v ≡ Some c.in-Some.row = sym (place_at c.args.form.now c.args.places.now c.args.v None c.requires.places c.requires.v) ∙ c.in-Some.is in
    let at = row_place c.args.form.now c.args.v (Some c.in-Some.row) is in
    omega (arith, at.0, c.requires.form.basics)

pub returns-in-Some-clause-value : goal.returns-in-Some-clause-value
returns-in-Some-clause-value c =
    let is : row_of_basic c.args.form.now c.args.v ≡ Some c.in-Some.row = sym (place_at c.args.form.now c.args.places.now c.args.v None c.requires.places c.requires.v) ∙ c.in-Some.is in
    ap Some c.equation.ensures.value ∙ sym (ap (equation_at c.args.form.now) is)

pub returns-in-None-clause-value : goal.returns-in-None-clause-value
returns-in-None-clause-value c =
    let is : row_of_basic c.args.form.now c.args.v ≡ None = sym (place_at c.args.form.now c.args.places.now c.args.v None c.requires.places c.requires.v) ∙ c.in-None.is in
    sym (ap (equation_at c.args.form.now) is)
