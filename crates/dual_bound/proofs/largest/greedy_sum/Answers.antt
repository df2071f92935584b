use Rattle.std.proofs.Common.{◌≤◌, ◌^◌, arith, get_or}
use Rattle.dual_bound.proofs.Greedy.{greedy_more, taken_high}
use Rattle.dual_bound.proofs.largest.greedy_sum.Goals as goal

pub loop-p-preserved : goal.loop-p-preserved
loop-p-preserved c =
    let small : (get_or c.args.classes.now c.loop-p.p-index (0, 0)).0 ≤ 2 ^ 88 = c.requires.small c.loop-p.p-index (0, 0) c.loop-p-test.true in (
      greedy_more c.args.k c.loop-p.left c.loop-p.total c.min-taken.result c.from.result c.loop-p.p-index c.args.classes.now c.loop-p-test.true (omega (arith, c.min-taken.ensures)) c.from.ensures c.loop-p.invariant.0,
      omega (arith, c.loop-p.invariant.1),
      taken_high (2 ^ 88) c.args.k c.loop-p.left c.min-taken.result c.from.result c.loop-p.total _ small (omega (arith, c.min-taken.ensures)) c.from.ensures c.loop-p.invariant.1 c.loop-p.invariant.2,
    )
