use Rattle.std.proofs.Common.{◌+◌}
use Rattle.sig_graph.proofs.Carried.{NoneTo}
use Rattle.sig_graph.proofs.walks.next_place.Given as goal

abbrev pub invariant-loop-before : goal.invariant-loop-before
invariant-loop-before l = NoneTo l.m l.left l.from (l.before + 1)
