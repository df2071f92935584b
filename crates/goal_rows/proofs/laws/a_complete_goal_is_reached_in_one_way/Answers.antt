use Rattle.goal_rows.proofs.Ways.{only_way}
use Rattle.goal_rows.proofs.laws.a_complete_goal_is_reached_in_one_way.Goals as goal

pub returns : goal.returns
returns c = only_way
