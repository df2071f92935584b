use Rattle.node_bounds.proofs.CeilingCuts.{cut_within_ceiling}
use Rattle.node_bounds.proofs.laws.a_cut_is_at_most_the_ceiling.Goals as goal

pub returns : goal.returns
returns c = cut_within_ceiling
