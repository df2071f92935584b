use Rattle.goal_rows.proofs.Turning.{election_turning}
use Rattle.goal_rows.proofs.laws.the_outcome_turns_where_a_goal_holds.Goals as goal

pub returns : goal.returns
returns c = election_turning
