use Rattle.sig_graph.proofs.Uses.{uses_once}
use Rattle.sig_graph.proofs.laws.paths_use_arcs_once.Goals as goal

pub returns : goal.returns
returns c = λ m path u x is. uses_once m u x 0 path is
