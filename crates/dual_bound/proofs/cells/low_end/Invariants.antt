use Rattle.std.proofs.Common.{◌≡◌, drop, max}
use Rattle.goal_rows.specs.Cells.{low_end}
use Rattle.dual_bound.proofs.cells.low_end.Given as goal

abbrev pub invariant-loop-limit : goal.invariant-loop-limit
invariant-loop-limit l = max l.low (low_end (drop l.limit-index l.limits) l.feature) ≡ low_end l.limits l.feature
