use Rattle.std.proofs.Common.{◌*◌, ◌-◌}
use Rattle.std.proofs.Math.IntN.{pos}
use lib.Signed.{◌≤ℤ◌}
use Rattle.sig_graph.proofs.BestPaths.{IsBestVia}
use Rattle.sig_graph.specs.declared.weights.TheConstants.{WEIGHT_LIMIT}
use Rattle.sig_graph.proofs.weights.best_from.Given as goal

abbrev pub invariant-loop-x : goal.invariant-loop-x
invariant-loop-x l =
    IsBestVia l.m l.weights l.u l.x l.value
    × (pos 0 ≤ℤ l.value)
    × (l.value ≤ℤ pos ((l.m - l.u) * WEIGHT_LIMIT))
