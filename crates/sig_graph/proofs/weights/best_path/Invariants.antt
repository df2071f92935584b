use Rattle.std.proofs.Common.{◌≡◌, ℕ, ◌≤◌, get_or}
use Rattle.std.proofs.Math.IntN.{pos}
use Rattle.sig_graph.specs.Paths.{arcs_before}
use Rattle.sig_graph.specs.Bests.{IsDone}
use Rattle.sig_graph.proofs.weights.best_path.Given as goal

abbrev pub invariant-loop-u : goal.invariant-loop-u
invariant-loop-u l =
    (l.u ≤ l.last)
    × (l.first ≡ arcs_before l.m l.u)
    × ((k : ℕ) → l.u ≤ k → k ≤ l.m → IsDone l.m l.weights k (get_or l.best k (pos 0)))
