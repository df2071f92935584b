use Rattle.node_bounds.proofs.CeilingSizes.{ceiling_within}
use Rattle.node_bounds.proofs.OneCeiling.{one_ceiling}
use Rattle.node_bounds.proofs.laws.a_ceiling_is_one_number.Goals as goal

pub returns-clause-one : goal.returns-clause-one
returns-clause-one c = one_ceiling

pub returns-clause-within : goal.returns-clause-within
returns-clause-within c = ceiling_within
