use Rattle.std.proofs.Common.{◌∙◌, arith}
use Rattle.sig_graph.specs.Flows.{flow_at}
use Rattle.sig_graph.proofs.Ranges.{range_step}
use Rattle.sig_graph.proofs.flows.sum_out.Goals as goal

pub loop-before-preserved : goal.loop-before-preserved
loop-before-preserved c = (
  omega (arith, c.from-sum.ensures),
  range_step (λ x. flow_at c.args.m c.args.flow.now c.args.from x) _ _ _ _ _ _ c.loop-before.invariant.1
      (omega arith) (c.from-sum.ensures ∙ c.flow_on.ensures),
)
