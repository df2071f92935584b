use Rattle.std.proofs.Common.{ℕ, ◌<◌, ◌≤◌}
use Rattle.dual_bound.specs.CellParts.{IsFixedArc}
use Rattle.dual_bound.proofs.cells.are_arcs_fixed.Given as goal

abbrev pub invariant-loop-u : goal.invariant-loop-u
invariant-loop-u l = (u x : ℕ) → u < l.u → u < x → x ≤ l.m → IsFixedArc l.limits l.ballots u x
