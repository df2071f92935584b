use Rattle.std.proofs.Common.{ℕ, ◌≤◌, ◌-◌, ◌++◌, List}
use Rattle.sig_graph.specs.Walks.{IsWalk}
use Rattle.sig_graph.proofs.walks.next_walk.Given as goal

abbrev pub decreases-loop-to : goal.decreases-loop-to
decreases-loop-to l = l.m - l.from

abbrev pub invariant-loop-to : goal.invariant-loop-to
invariant-loop-to l = (l.from ≤ l.m) × ((rest : List ℕ) → IsWalk l.m l.left l.from rest →
    IsWalk l.m l.left 0 (l.path ++ rest))
