use Rattle.std.proofs.Common.{◌≡◌, ◌≤◌, map, take}
use Rattle.std.specs.Prelude.{All}
use Rattle.goal_rows.specs.Cells.{low_end}
use Rattle.dual_bound.proofs.cell_variables.low_ends.Given as goal

abbrev pub invariant-loop-feature : goal.invariant-loop-feature
invariant-loop-feature l = record {
  each : l.values ≡ map (low_end l.limits) (take l.feature-index l.features);
  small : All (λ value. value ≤ 1000000) l.values;
}
