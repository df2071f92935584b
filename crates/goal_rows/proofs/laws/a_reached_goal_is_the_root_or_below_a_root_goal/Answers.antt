use Rattle.goal_rows.proofs.Ways.{reached_exactly}
use Rattle.goal_rows.proofs.laws.a_reached_goal_is_the_root_or_below_a_root_goal.Goals as goal

pub returns : goal.returns
returns c = reached_exactly
