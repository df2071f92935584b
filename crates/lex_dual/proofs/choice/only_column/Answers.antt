use Rattle.std.proofs.Common.{arith, ap, sym, ◌∙◌, ◌≡◌, None, Some}
use Rattle.std.specs.Prelude.{pos}
use Rattle.std.proofs.lemmas.Bool.Decides.{nat_tests}
use Rattle.row_program.specs.Method.{column_in, row_of_basic}
use Rattle.lex_dual.proofs.Tables.{place_at, row_place}
use Rattle.lex_dual.proofs.Thinning.{only_in}
use Rattle.lex_dual.proofs.choice.only_column.Goals as goal

pub lone-requires : goal.lone-requires
lone-requires c =
    let is : row_of_basic c.args.form.now c.args.v ≡ Some c.in-Some.row = sym (place_at c.args.form.now c.args.places.now c.args.v None c.requires.places c.requires.v) ∙ c.in-Some.is in
    let at = row_place c.args.form.now c.args.v (Some c.in-Some.row) is in
    omega (arith, at.0, c.requires.form.basics)

pub returns-in-Some : goal.returns-in-Some
returns-in-Some c =
    let is : row_of_basic c.args.form.now c.args.v ≡ Some c.in-Some.row = sym (place_at c.args.form.now c.args.places.now c.args.v None c.requires.places c.requires.v) ∙ c.in-Some.is in
    let at = row_place c.args.form.now c.args.v (Some c.in-Some.row) is in
    only_in c.args.form.now c.args.v c.in-Some.row c.lone.result is (omega (arith, at.0, c.requires.form.basics)) c.lone.ensures

pub returns-in-None : goal.returns-in-None
returns-in-None c = λ j out off.
    let is : row_of_basic c.args.form.now c.args.v ≡ None = sym (place_at c.args.form.now c.args.places.now c.args.v None c.requires.places c.requires.v) ∙ c.in-None.is in
    let at : column_in c.args.form.now j c.args.v None ≡ pos 0 = grind (arith, nat_tests) in
    ap (column_in c.args.form.now j c.args.v) is ∙ at
