use Rattle.goal_rows.proofs.Roots.{roots_are_lawful}
use Rattle.goal_rows.proofs.laws.the_root_goals_are_roots.Goals as goal

pub returns : goal.returns
returns c = roots_are_lawful
