use Rattle.std.proofs.Common.{ℕ, ◌<◌, get_or}
use Rattle.row_program.specs.declared.program.Row.{Row}
use Rattle.row_program.specs.Bounds.{IsRow}
use Rattle.row_program.proofs.bounds.all_rows.Given as goal

abbrev pub invariant-loop-row : goal.invariant-loop-row
invariant-loop-row l = (k : ℕ) (d : Row) → k < l.row-index → IsRow l.variables (get_or l.rows k d)
