use Rattle.sig_graph.proofs.FlowSums.{flow_sum-le, flow_sum-split}
use Rattle.sig_graph.proofs.laws.flow_brings_what_its_paths_bring.Goals as goal

pub returns-clause-paths : goal.returns-clause-paths
returns-clause-paths c = flow_sum-split

pub returns-clause-best : goal.returns-clause-best
returns-clause-best c = flow_sum-le
