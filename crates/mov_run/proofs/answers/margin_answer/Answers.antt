use Rattle.std.proofs.Common.{◌∙◌, ap, inr, arith}
use Rattle.std.specs.Prelude.{Err}
use Rattle.std.proofs.lemmas.Result.{err_from_is_err_and}
use Rattle.mov_run.proofs.answers.margin_answer.Goals as goal

pub returns-in_err-cert-clause-answers : goal.returns-in_err-cert-clause-answers
returns-in_err-cert-clause-answers g c =
    let p = err_from_is_err_and c.from_residual-in_err-cert.result c.from_residual-in_err-cert.ensures.1 in
    inr (p.1 ∙ ap Err p.2, record { count = 1; within = omega arith; begun = c.in_ok-contest.ensures.begun })

pub returns-in_err-print_cert-clause-answers : goal.returns-in_err-print_cert-clause-answers
returns-in_err-print_cert-clause-answers g c =
    let p = err_from_is_err_and c.from_residual-in_err-print_cert.result c.from_residual-in_err-print_cert.ensures.1 in
    inr (p.1 ∙ ap Err p.2, record { count = 1; within = omega arith; begun = c.in_ok-contest.ensures.begun })
