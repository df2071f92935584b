use Rattle.std.proofs.Common.{ℕ, ◌<◌, ◌≤◌}
use Rattle.dual_bound.specs.CellParts.{IsFixedArc}
use Rattle.dual_bound.proofs.cells.are_arcs_out_fixed.Given as goal

abbrev pub invariant-loop-before : goal.invariant-loop-before
invariant-loop-before l = (x : ℕ) → l.u < x → x ≤ l.before → IsFixedArc l.limits l.ballots l.u x
