use Rattle.std.proofs.Common.{◌≡◌, drop}
use Rattle.std.specs.List.{list_any}
use Rattle.dual_bound.specs.CellCuts.{same_limit}
use Rattle.dual_bound.proofs.cell_cuts.has_same.Given as goal

abbrev pub invariant-loop-other : goal.invariant-loop-other
invariant-loop-other l = list_any (same_limit l.limit) (drop l.other-index l.before) ≡ list_any (same_limit l.limit) l.before
