use Rattle.std.proofs.Common.{◌≡◌, ◌+◌, ◌-◌, arith}
use Rattle.row_program.specs.declared.Feature.TheVariants.{Arc}
use Rattle.goal_rows.proofs.ProgramRows.{item_more}
use Rattle.dual_bound.proofs.cell_variables.add_features_out.Goals as goal

pub loop-before-preserved : goal.loop-before-preserved
loop-before-preserved c =
    let u = c.args.u in
    let x = c.loop-before.before in
    let low = c.loop-before.auto.before in
    let e : x + 1 - u ≡ (x - u) + 1 = omega arith in
    rw (e, c.in_ok-push.ensures.items) (item_more (λ y. Arc u y) (u + 1) (x - u) (x + 1) c.args.features.now.items c.loop-before.features.items (omega arith) c.loop-before.invariant)
