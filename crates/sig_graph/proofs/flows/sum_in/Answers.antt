use Rattle.std.proofs.Common.{◌∙◌, arith}
use Rattle.sig_graph.specs.Flows.{flow_at}
use Rattle.sig_graph.proofs.Ranges.{range_step}
use Rattle.sig_graph.proofs.flows.sum_in.Goals as goal

pub loop-from-preserved : goal.loop-from-preserved
loop-from-preserved c = (
  omega (arith, c.from-sum.ensures),
  range_step (λ u. flow_at c.args.m c.args.flow.now u c.args.to) _ _ _ _ _ _ c.loop-from.invariant.1 (omega arith)
      (c.from-sum.ensures ∙ c.flow_on.ensures),
)
