use Rattle.std.proofs.Common.{◌≡◌, ◌-◌, ◌++◌}
use Rattle.sig_graph.specs.Walks.{split_of}
use Rattle.sig_graph.proofs.walks.take_walks.Given as goal

abbrev pub invariant-loop-taken : goal.invariant-loop-taken
invariant-loop-taken l = l.paths ++ split_of l.m l.left (l.count - l._taken) ≡ split_of l.m l.fn.left l.count
