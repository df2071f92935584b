use Rattle.std.proofs.Common.{arith, ap, sym, ◌∙◌, ◌≡◌, ◌+◌, None, Some, rules}
use Rattle.std.specs.Prelude.{ℕ, unsigned_abs, Option}
use Rattle.std.proofs.lemmas.Int.{ints, to_z-of_z}
use Rattle.std.specs.Int.RustNames.{FitsSigned}
use mir.Syntax.{w64}
use Rattle.row_program.specs.Method.{row_of_basic}
use Rattle.dual_theory.specs.Runs.{num_in, den_in}
use Rattle.lex_dual.proofs.Tables.{place_at, basic_here}
use Rattle.lex_dual.proofs.point.value_at.Goals as goal

pub right-requires : goal.right-requires
right-requires c =
    let basic = basic_here c.args.form.now c.args.places.now (c.args.variable + 1) c.in-Some.row c.requires.form c.requires.places c.requires.variable c.in-Some.is in
    basic.inside

pub entry-requires-clause-row : goal.entry-requires-clause-row
entry-requires-clause-row c =
    let basic = basic_here c.args.form.now c.args.places.now (c.args.variable + 1) c.in-Some.row c.requires.form c.requires.places c.requires.variable c.in-Some.is in
    basic.inside

pub entry-requires-clause-column : goal.entry-requires-clause-column
entry-requires-clause-column c =
    let basic = basic_here c.args.form.now c.args.places.now (c.args.variable + 1) c.in-Some.row c.requires.form c.requires.places c.requires.variable c.in-Some.is in
    basic.column

pub returns-in-Some-clause-num : goal.returns-in-Some-clause-num
returns-in-Some-clause-num c =
    let is : row_of_basic c.args.form.now (c.args.variable + 1) ≡ Some c.in-Some.row = sym (place_at c.args.form.now c.args.places.now (c.args.variable + 1) None c.requires.places c.requires.variable) ∙ c.in-Some.is in
    let fits : FitsSigned w64 c.right.result = search rules in
    let value = simp to_z-of_z at c.unsigned_abs.ensures.value in
    value ∙ ap unsigned_abs c.right.ensures ∙ sym (ap (λ (o : Option ℕ). unsigned_abs (num_in c.args.form.now o)) is)

pub returns-in-Some-clause-den : goal.returns-in-Some-clause-den
returns-in-Some-clause-den c =
    let is : row_of_basic c.args.form.now (c.args.variable + 1) ≡ Some c.in-Some.row = sym (place_at c.args.form.now c.args.places.now (c.args.variable + 1) None c.requires.places c.requires.variable) ∙ c.in-Some.is in
    let fits : FitsSigned w64 c.entry.result = search rules in
    let value = simp to_z-of_z at c.unsigned_abs-in-Some.ensures.value in
    value ∙ ap unsigned_abs c.entry.ensures ∙ sym (ap (λ (o : Option ℕ). unsigned_abs (den_in c.args.form.now (c.args.variable + 1) o)) is)

pub returns-in-Some-clause-small_num : goal.returns-in-Some-clause-small_num
returns-in-Some-clause-small_num c =
    let basic = basic_here c.args.form.now c.args.places.now (c.args.variable + 1) c.in-Some.row c.requires.form c.requires.places c.requires.variable c.in-Some.is in
    let fits : FitsSigned w64 c.right.result = search rules in
    let value = simp to_z-of_z at c.unsigned_abs.ensures.value in
    omega (arith, basic.small_right, value, ap unsigned_abs c.right.ensures)

pub returns-in-Some-clause-small_den : goal.returns-in-Some-clause-small_den
returns-in-Some-clause-small_den c =
    let basic = basic_here c.args.form.now c.args.places.now (c.args.variable + 1) c.in-Some.row c.requires.form c.requires.places c.requires.variable c.in-Some.is in
    let fits : FitsSigned w64 c.entry.result = search rules in
    let value = simp to_z-of_z at c.unsigned_abs-in-Some.ensures.value in
    omega (arith, basic.small_entry, value, ap unsigned_abs c.entry.ensures)

pub returns-in-Some-clause-positive : goal.returns-in-Some-clause-positive
returns-in-Some-clause-positive c =
    let basic = basic_here c.args.form.now c.args.places.now (c.args.variable + 1) c.in-Some.row c.requires.form c.requires.places c.requires.variable c.in-Some.is in
    let fits : FitsSigned w64 c.entry.result = search rules in
    let value = simp to_z-of_z at c.unsigned_abs-in-Some.ensures.value in
    omega (arith, ints, basic.positive, value, ap unsigned_abs c.entry.ensures)

pub returns-in-None-clause-num : goal.returns-in-None-clause-num
returns-in-None-clause-num c =
    let is : row_of_basic c.args.form.now (c.args.variable + 1) ≡ None = sym (place_at c.args.form.now c.args.places.now (c.args.variable + 1) None c.requires.places c.requires.variable) ∙ c.in-None.is in
    sym (ap (λ (o : Option ℕ). unsigned_abs (num_in c.args.form.now o)) is)

pub returns-in-None-clause-den : goal.returns-in-None-clause-den
returns-in-None-clause-den c =
    let is : row_of_basic c.args.form.now (c.args.variable + 1) ≡ None = sym (place_at c.args.form.now c.args.places.now (c.args.variable + 1) None c.requires.places c.requires.variable) ∙ c.in-None.is in
    sym (ap (λ (o : Option ℕ). unsigned_abs (den_in c.args.form.now (c.args.variable + 1) o)) is)
