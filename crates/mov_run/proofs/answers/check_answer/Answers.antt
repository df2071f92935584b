use Rattle.std.proofs.Common.{◌∙◌, ap, inr, arith}
use Rattle.std.specs.Prelude.{Err}
use Rattle.mov_edge.specs.Outside.{next_count}
use Rattle.std.proofs.lemmas.Result.{err_from_is_err_and}
use Rattle.mov_run.proofs.Loading.{check_ends, check_stops}
use Rattle.mov_run.proofs.answers.check_answer.Goals as goal

pub returns-in_err-cert-clause-answers : goal.returns-in_err-cert-clause-answers
returns-in_err-cert-clause-answers g c =
    let p = err_from_is_err_and c.from_residual-in_err-cert.result c.from_residual-in_err-cert.ensures.1 in
    check_stops _ _ _ _ _ _ c.in_err-cert.field-0.0 _ c.in_ok-contest.ensures.loads c.in_err-cert.ensures.loads
    c.in_ok-contest.ensures.told c.in_ok-contest.ensures.kept c.in_ok-contest.ensures.begun c.in_err-cert.ensures.begun (p.1 ∙ ap Err p.2)

pub returns-clause-answers : goal.returns-clause-answers
returns-clause-answers g c =
    check_ends _ _ _ _ _ _ c.in_ok-cert.cert c.in_ok-verdict.verdict _ _ c.in_ok-contest.ensures.loads c.in_ok-cert.ensures.loads
    c.in_ok-contest.ensures.told c.in_ok-contest.ensures.kept c.in_ok-contest.ensures.begun c.in_ok-cert.ensures.begun
    (record { valid = c.in_ok-verdict.ensures.valid; refused = c.in_ok-verdict.ensures.refused; claim = c.in_ok-verdict.ensures.claim }) c.verdict_status.ensures c.in_ok-verdict_text.ensures

pub returns-in_err-verdict-clause-answers : goal.returns-in_err-verdict-clause-answers
returns-in_err-verdict-clause-answers g c =
    let p = err_from_is_err_and c.from_residual-in_err-verdict.result c.from_residual-in_err-verdict.ensures.1 in
    inr (p.1 ∙ ap Err p.2, record { count = 2; within = omega arith; begun = c.in_ok-cert.ensures.begun ∙ ap next_count c.in_ok-contest.ensures.begun })

pub returns-in_err-verdict_text-clause-answers : goal.returns-in_err-verdict_text-clause-answers
returns-in_err-verdict_text-clause-answers g c =
    let p = err_from_is_err_and c.from_residual-in_err-verdict_text.result c.from_residual-in_err-verdict_text.ensures.1 in
    inr (p.1 ∙ ap Err p.2, record { count = 2; within = omega arith; begun = c.in_ok-cert.ensures.begun ∙ ap next_count c.in_ok-contest.ensures.begun })
