use Rattle.std.proofs.Common.{arith, ◌+◌}
use Rattle.row_program.proofs.Values.{cost_of_more}
use Rattle.row_program.proofs.points.cost_sum.Goals as goal

pub loop-i-preserved : goal.loop-i-preserved
loop-i-preserved c =
    let more = cost_of_more c.args.costs.now c.args.whole.now c.loop-i.i (c.loop-i.i + 1) (omega arith) (omega arith) (omega arith) in
    record { total = omega (arith, more, c.charged-sum.ensures.value, c.loop-i.invariant.total); bound = omega arith }
