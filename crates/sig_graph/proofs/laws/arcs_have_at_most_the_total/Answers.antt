use Rattle.sig_graph.proofs.Splits.{flow_at-le}
use Rattle.sig_graph.proofs.laws.arcs_have_at_most_the_total.Goals as goal

pub returns : goal.returns
returns c = flow_at-le
