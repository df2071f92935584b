use Rattle.std.proofs.Common.{[], subst}
use Rattle.std.proofs.lemmas.List.{append-nil}
use Rattle.sig_graph.specs.Walks.{IsWalk}
use Rattle.sig_graph.proofs.walks.next_walk.Goals as goal

pub returns : goal.returns
returns c = subst (IsWalk c.args.m c.args.left.now 0) (append-nil c.loop-to.path)
    (c.loop-to.invariant.1 [] c.in_default.ensures.end)
