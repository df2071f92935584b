use Rattle.sig_graph.proofs.RowArcs.{over_is_first, row_by_arcs}
use Rattle.sig_graph.proofs.laws.rows_by_arcs.Goals as goal

pub returns-clause-arcs : goal.returns-clause-arcs
returns-clause-arcs c = λ m i j path some le is. over_is_first m i j 0 path some le is

pub returns-clause-weights : goal.returns-clause-weights
returns-clause-weights c = row_by_arcs
