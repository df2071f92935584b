use Rattle.sig_graph.proofs.BestPaths.{best_is_unique}
use Rattle.sig_graph.proofs.laws.best_is_one.Goals as goal

pub returns : goal.returns
returns c = best_is_unique
