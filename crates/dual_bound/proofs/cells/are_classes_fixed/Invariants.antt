use Rattle.std.proofs.Common.{ℕ, ◌<◌, get_or}
use Rattle.dual_bound.specs.CellParts.{IsFixedClass}
use Rattle.dual_bound.proofs.cells.are_classes_fixed.Given as goal

abbrev pub invariant-loop-k : goal.invariant-loop-k
invariant-loop-k l = (k : ℕ) (d : ℕ × ℕ) → k < l.k → IsFixedClass l.limits (get_or l.classes k d)
