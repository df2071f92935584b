use Rattle.std.proofs.Common.{◌≡◌, ◌++◌, [], drop, take}
use Rattle.dual_bound.specs.CellCuts.{given_each, given_in}
use Rattle.dual_bound.proofs.cell_cuts.add_given.Given as goal

abbrev pub invariant-loop-i : goal.invariant-loop-i
invariant-loop-i l =
    l.multipliers ++ given_each l.limits (given_in l.case l.features l.terms) (take l.i l.limits) (drop l.i l.limits)
    ≡ l.fn.multipliers ++ given_each l.limits (given_in l.case l.features l.terms) [] l.limits
