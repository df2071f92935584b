use Rattle.std.proofs.Common.{◌≡◌, drop}
use Rattle.dual_bound.specs.CellCuts.{times_on}
use Rattle.dual_bound.proofs.cell_cuts.times_on.Given as goal

abbrev pub invariant-loop-term : goal.invariant-loop-term
invariant-loop-term l = times_on l.features l.feature (drop l.term-index l.terms) ≡ times_on l.features l.feature l.terms
