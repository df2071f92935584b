use Rattle.node_bounds.proofs.CeilingSizes.{ceiling_bound}
use Rattle.node_bounds.proofs.laws.a_cut_at_the_ceiling_is_the_bound.Goals as goal

pub returns : goal.returns
returns c = ceiling_bound
