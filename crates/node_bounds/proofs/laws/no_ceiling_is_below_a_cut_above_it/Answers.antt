use Rattle.node_bounds.proofs.Inheritance.{half_ceiling, kid_ceiling}
use Rattle.node_bounds.proofs.laws.no_ceiling_is_below_a_cut_above_it.Goals as goal

pub returns-clause-kid : goal.returns-clause-kid
returns-clause-kid c = kid_ceiling

pub returns-clause-half : goal.returns-clause-half
returns-clause-half c = half_ceiling
