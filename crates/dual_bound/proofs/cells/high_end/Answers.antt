use Rattle.std.proofs.Common.{arith}
use Rattle.dual_bound.specs.CellParts.{variable}
use Rattle.dual_bound.proofs.CellEnds.{high_below}
use Rattle.dual_bound.proofs.cells.high_end.Goals as goal

pub loop-limit-init : goal.loop-limit-init
loop-limit-init c =
    let low = high_below c.args.limits.now (variable c.args.feature c.args.end) in
    record { least = omega (arith, low); low = omega arith }
