use Rattle.std.proofs.Common.{◌≡◌, drop}
use Rattle.sig_graph.specs.Paths.{IsPathFrom}
use Rattle.sig_graph.specs.Walks.{flow_after}
use Rattle.sig_graph.proofs.walks.take_path.Given as goal

abbrev pub invariant-loop-to : goal.invariant-loop-to
invariant-loop-to l =
    IsPathFrom l.m l.from (drop l.to-index l.path)
    × (flow_after l.m l.left l.from (drop l.to-index l.path) ≡ flow_after l.m l.fn.left 0 l.path)
