use Rattle.std.proofs.Common.{ℕ, ◌<◌, get_or}
use Rattle.std.specs.Prelude.{Contains}
use Rattle.row_program.specs.declared.Limit.{Limit}
use Rattle.dual_bound.specs.CellCuts.{features_of}
use Rattle.dual_bound.proofs.cells.are_on_variables.Given as goal

abbrev pub invariant-loop-limit : goal.invariant-loop-limit
invariant-loop-limit l = (k : ℕ) (d : Limit) → k < l.limit-index → Contains (features_of l.start) (get_or l.limits k d).feature
