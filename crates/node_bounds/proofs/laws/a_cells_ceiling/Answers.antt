use Rattle.node_bounds.proofs.CellPoints.{ceiling_broken, ceiling_met}
use Rattle.node_bounds.proofs.laws.a_cells_ceiling.Goals as goal

pub returns-clause-met : goal.returns-clause-met
returns-clause-met c = ceiling_met

pub returns-clause-broken : goal.returns-clause-broken
returns-clause-broken c = ceiling_broken
