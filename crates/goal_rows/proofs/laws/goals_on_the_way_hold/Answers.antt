use Rattle.goal_rows.proofs.Ways.{holds_on_the_way}
use Rattle.goal_rows.proofs.laws.goals_on_the_way_hold.Goals as goal

pub returns : goal.returns
returns c = holds_on_the_way
