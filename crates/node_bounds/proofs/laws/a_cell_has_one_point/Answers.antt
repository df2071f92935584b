use Rattle.node_bounds.proofs.CellPoints.{cell_scaled, cell_values_met}
use Rattle.node_bounds.proofs.laws.a_cell_has_one_point.Goals as goal

pub returns-clause-values : goal.returns-clause-values
returns-clause-values c e start limits whole den is cell = cell_scaled e start limits is cell whole den

pub returns-clause-met : goal.returns-clause-met
returns-clause-met c e start limits whole den is cell = cell_values_met e start limits is cell whole den
