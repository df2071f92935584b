use Rattle.std.proofs.Common.{◌≡◌, ◌&&◌, drop}
use Rattle.std.specs.List.{list_any}
use Rattle.goal_rows.specs.Cells.{same_feature}
use Rattle.dual_bound.specs.CellCuts.{has_upper, is_tight}
use Rattle.dual_bound.proofs.cell_cuts.has_upper.Given as goal

abbrev pub invariant-loop-limit : goal.invariant-loop-limit
invariant-loop-limit l =
    list_any (λ limit. limit.at_most && (same_feature l.feature limit.feature && is_tight l.limits limit)) (drop l.limit-index l.limits) ≡ has_upper l.limits l.feature
