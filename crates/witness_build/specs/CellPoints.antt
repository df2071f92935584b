-- The one point of a cell.
use Rattle.std.specs.Prelude.{◌≡◌, List, Option, Some, None}
use Rattle.row_program.specs.declared.Limit.{Limit}
use Rattle.row_program.specs.declared.program.Point.{Point}
use Rattle.goal_rows.specs.Cells.{cell_values}
use Rattle.goal_rows.specs.Programs.{IsPointOf}
use Rattle.goal_rows.specs.declared.parts.Ground.{Ground}

-- the point has the cell's values, over 1, and they break no row; there is none where they break one
abbrev pub IsCellPoint : Ground → List Limit → Option Point → Type 0
IsCellPoint start limits None = IsPointOf start limits (cell_values start limits) 1 → ⊥
IsCellPoint start limits (Some point) =
    (point.whole ≡ cell_values start limits) × (point.den ≡ 1)
    × IsPointOf start limits (cell_values start limits) 1
