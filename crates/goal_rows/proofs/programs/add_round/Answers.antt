use Rattle.std.proofs.Common.{◌≡◌, ◌+◌, ◌-◌, arith}
use Rattle.goal_rows.specs.declared.weighings.Weighing.TheVariants.{Held}
use Rattle.goal_rows.proofs.ProgramRows.{item_more}
use Rattle.goal_rows.proofs.programs.add_round.Goals as goal

pub loop-j-preserved : goal.loop-j-preserved
loop-j-preserved c =
    let i = c.args.i in
    let j = c.loop-j.j in
    let low = c.loop-j.auto.j in
    let e : j + 1 - (i + 1) ≡ (j - (i + 1)) + 1 = omega arith in
    rw (e, c.in_ok-push.ensures.items) (item_more (λ k. Held i k) (i + 1) (j - (i + 1)) j c.args.weighings.now.items c.loop-j.weighings.items (omega arith) c.loop-j.invariant)
