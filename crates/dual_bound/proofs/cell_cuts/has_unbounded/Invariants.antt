use Rattle.std.proofs.Common.{◌≡◌, drop}
use Rattle.std.specs.List.{list_any}
use Rattle.dual_bound.specs.CellCuts.{is_unbounded}
use Rattle.dual_bound.proofs.cell_cuts.has_unbounded.Given as goal

abbrev pub invariant-loop-term : goal.invariant-loop-term
invariant-loop-term l = list_any (is_unbounded l.start l.limits) (drop l.term-index l.terms) ≡ list_any (is_unbounded l.start l.limits) l.terms
