use Rattle.margin_check.proofs.Verdicts.{one_verdict}
use Rattle.margin_check.proofs.laws.a_verdict_is_one.Goals as goal

pub returns : goal.returns
returns c = one_verdict
