use Rattle.std.proofs.Common.{ℕ, ◌<◌, get_or}
use Rattle.std.specs.Prelude.{pos, ◌≤ℤ◌}
use Rattle.row_program.specs.Points.{row_value}
use Rattle.row_program.specs.declared.program.Row.{Row}
use Rattle.row_program.proofs.points.holds_at.Given as goal

abbrev pub invariant-loop-row : goal.invariant-loop-row
invariant-loop-row l = (k : ℕ) (d : Row) → k < l.row-index → pos 0 ≤ℤ row_value (get_or l.program.rows k d) l.point.whole l.point.den
