use Rattle.std.proofs.Common.{◌≡◌, ◌≤◌, drop, min}
use Rattle.goal_rows.specs.Cells.{high_end}
use Rattle.dual_bound.specs.CellParts.{variable}
use Rattle.dual_bound.proofs.cells.high_end.Given as goal

abbrev pub invariant-loop-limit : goal.invariant-loop-limit
invariant-loop-limit l = record {
  least : min l.high (high_end (drop l.limit-index l.limits) (variable l.feature l.end)) ≡ high_end l.limits (variable l.feature l.end);
  low : l.high ≤ l.end;
}
