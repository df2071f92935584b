use Rattle.goal_rows.proofs.ScoreTurning.{turns_exactly}
use Rattle.goal_rows.proofs.laws.plurality_turns_where_a_challenger_is_level.Goals as goal

pub returns : goal.returns
returns c = turns_exactly
