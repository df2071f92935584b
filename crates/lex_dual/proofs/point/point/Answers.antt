use Rattle.std.proofs.Common.{arith, ◌≡◌, ◌-◌, ℕ, length, None, Some}
use Rattle.std.proofs.lemmas.Result.{err_from_is_err_and}
use Rattle.lex_dual.proofs.Points.{large_in_den, large_in_numbers, if_wide}
use Rattle.std.specs.Prelude.{find}
use Rattle.dual_theory.specs.Ends.{is_large, whole_numbers, large_in_point}
use Rattle.lex_dual.proofs.point.point.Goals as goal

pub returns-in_err-den-clause-numbers : goal.returns-in_err-den-clause-numbers
returns-in_err-den-clause-numbers c =
    let some = large_in_den c.args.program.now c.args.form.now (length c.args.places.now - 1) c.in_err-den.field-0.0.size (omega (arith, c.requires.variables)) c.in_err-den.ensures.value in
    let q = err_from_is_err_and c.from_residual.result c.from_residual.ensures.1 in
    rw (q.1, q.2) some

pub returns-in_err-whole-clause-numbers : goal.returns-in_err-whole-clause-numbers
returns-in_err-whole-clause-numbers c =
    let q = err_from_is_err_and c.from_residual-in_err-whole.result c.from_residual-in_err-whole.ensures.1 in
    rw (q.1, q.2) (if_wide (λ (size : ℕ). find is_large (whole_numbers c.args.form.now (length c.args.places.now - 1)) ≡ Some size) (λ (size : ℕ). large_in_point c.args.program.now c.args.form.now ≡ Some size) c.in_err-whole.field-0.0
    (λ size some. large_in_numbers c.args.program.now c.args.form.now (length c.args.places.now - 1) (Some size) (omega (arith, c.requires.variables)) c.in_ok-den.ensures.none some) c.in_err-whole.ensures.value)

pub returns-clause-none : goal.returns-clause-none
returns-clause-none c = large_in_numbers c.args.program.now c.args.form.now (length c.args.places.now - 1) None (omega (arith, c.requires.variables)) c.in_ok-den.ensures.none c.in_ok-whole.ensures.none
