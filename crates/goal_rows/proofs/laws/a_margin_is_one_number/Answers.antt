use Rattle.goal_rows.proofs.OutcomesReported.{one_margin}
use Rattle.goal_rows.proofs.laws.a_margin_is_one_number.Goals as goal

pub returns : goal.returns
returns c = one_margin
