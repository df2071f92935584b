use Rattle.std.proofs.Common.{arith}
use Rattle.irv_count.specs.Orders.{stands}
use Rattle.irv_count.proofs.Holders.{held_by_none}
use Rattle.irv_count.proofs.held.held_counts.Goals as goal

pub returns-clause-others : goal.returns-clause-others
returns-clause-others c x within out =
    omega (arith, c.loop-run.invariant.counted x within, held_by_none (stands c.args.standing) c.args.roll.now.ballots x out)
