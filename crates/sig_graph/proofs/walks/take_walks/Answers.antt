use Rattle.std.proofs.Common.{◌∙◌, ap, arith}
use Rattle.sig_graph.specs.Walks.{flow_after}
use Rattle.sig_graph.proofs.LeastEnds.{walked_is_path}
use Rattle.sig_graph.proofs.Walking.{split_done, split_on}
use Rattle.sig_graph.proofs.walks.take_walks.Goals as goal

pub take_path-requires-clause-path : goal.take_path-requires-clause-path
take_path-requires-clause-path c = rw c.as_slice.ensures
    (walked_is_path c.args.m c.loop-taken.left 0 c.in_ok-path.path c.in_ok-path.ensures)

pub loop-taken-preserved : goal.loop-taken-preserved
loop-taken-preserved c =
    let after = c.take_path.ensures ∙ ap (flow_after c.args.m c.loop-taken.left 0) c.as_slice.ensures in
    rw c.in_ok-push.ensures.ok
    (split_on c.args.m c.loop-taken.left c.loop-taken.paths _ _ _ c.in_ok-path.path c.take_path.new.left
    c.loop-taken.invariant (omega arith) c.in_ok-path.ensures after)

pub returns : goal.returns
returns c = split_done c.args.m c.loop-taken.left c.loop-taken.paths _ _ c.loop-taken.invariant (omega arith)
