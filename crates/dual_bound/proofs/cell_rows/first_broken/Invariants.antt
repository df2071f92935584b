use Rattle.std.proofs.Common.{ℕ, ◌≡◌, ◌<◌, false, get_or}
use Rattle.row_program.specs.declared.program.Row.{Row}
use Rattle.dual_bound.specs.CellCuts.{is_broken}
use Rattle.dual_bound.proofs.cell_rows.first_broken.Given as goal

abbrev pub invariant-loop-r : goal.invariant-loop-r
invariant-loop-r l = (k : ℕ) (d : Row) → k < l.r → is_broken l.values (get_or l.rows k d) ≡ false
