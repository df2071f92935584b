use Rattle.margin_check.specs.declared.verdict.Verdict.TheVariants.{No, Valid}
use Rattle.margin_check.proofs.Meaning.{claim_is_true}
use Rattle.margin_check.proofs.Nodes.{if_ok}
use Rattle.margin_check.proofs.Verdicts.{judges_exactly}
use Rattle.margin_check.proofs.checker.check.Goals as goal

pub returns-clause-valid : goal.returns-clause-valid
returns-clause-valid c = if_ok c.judge.result (λ verdict. judges_exactly c.args.contest.now.roll c.args.cert.now verdict Valid) c.judge.ensures

pub returns-clause-refused : goal.returns-clause-refused
returns-clause-refused c = if_ok c.judge.result (λ verdict is reason line. judges_exactly c.args.contest.now.roll c.args.cert.now verdict (No reason line) is) c.judge.ensures

pub returns-clause-claim : goal.returns-clause-claim
returns-clause-claim c = if_ok c.judge.result
    (λ verdict is e.
    let valid = (judges_exactly c.args.contest.now.roll c.args.cert.now verdict Valid is).0 e in
    claim_is_true c.args.contest.now.roll c.args.cert.now c.candidates.ensures.poll c.requires.printable valid)
    c.judge.ensures
