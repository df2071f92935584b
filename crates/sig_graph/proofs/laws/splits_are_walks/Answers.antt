use Rattle.sig_graph.proofs.LeastEnds.{split_is_walks, walks_are_split}
use Rattle.sig_graph.proofs.laws.splits_are_walks.Goals as goal

pub returns-clause-walks : goal.returns-clause-walks
returns-clause-walks c = split_is_walks

pub returns-clause-alone : goal.returns-clause-alone
returns-clause-alone c = walks_are_split
