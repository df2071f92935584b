use Rattle.std.proofs.Common.{◌≡◌, ◌∙◌, map, ap, subst, sym}
use Rattle.std.specs.Prelude.{IfOk}
use Rattle.goal_rows.specs.Cells.{low_end}
use Rattle.dual_bound.proofs.CellVariables.{values_are}
use Rattle.dual_bound.proofs.cell_variables.cell_values.Goals as goal

pub returns-clause-each : goal.returns-clause-each
returns-clause-each c =
    let limits = c.args.limits.now in
    let same = ap (map (low_end limits)) (c.deref.ensures.value ∙ c.in_ok-features.ensures) ∙ sym (values_are c.args.start.now limits) in
    subst (λ xs. IfOk c.low_ends.result (λ values. values ≡ xs)) same c.low_ends.ensures.each
