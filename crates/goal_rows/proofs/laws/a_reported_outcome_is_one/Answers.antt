use Rattle.goal_rows.proofs.OutcomesReported.{one_reported}
use Rattle.goal_rows.proofs.laws.a_reported_outcome_is_one.Goals as goal

pub returns : goal.returns
returns c = one_reported
