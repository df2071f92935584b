use Rattle.sig_graph.proofs.PathFlows.{flow_at-of, flow_sum-of, paths_are_flow}
use Rattle.sig_graph.proofs.laws.paths_make_a_flow.Goals as goal

pub returns-clause-flow : goal.returns-clause-flow
returns-clause-flow c = paths_are_flow

pub returns-clause-sum : goal.returns-clause-sum
returns-clause-sum c = flow_sum-of

pub returns-clause-uses : goal.returns-clause-uses
returns-clause-uses c = flow_at-of
