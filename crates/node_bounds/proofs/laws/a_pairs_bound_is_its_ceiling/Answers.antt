use Rattle.node_bounds.proofs.PairBounds.{pair_ceiling}
use Rattle.node_bounds.proofs.laws.a_pairs_bound_is_its_ceiling.Goals as goal

pub returns : goal.returns
returns c = pair_ceiling
