use Rattle.goal_rows.proofs.PairGains.{length_reaches}
use Rattle.goal_rows.proofs.laws.replacements_bring_at_most_the_largest_gains.Goals as goal

pub returns : goal.returns
returns c = length_reaches
