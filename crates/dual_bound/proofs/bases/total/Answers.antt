use Rattle.std.proofs.Common.{◌+◌, arith}
use Rattle.dual_bound.proofs.Pairwise.{add_up_next}
use Rattle.dual_bound.proofs.bases.total.Goals as goal

pub loop-multiplier-preserved : goal.loop-multiplier-preserved
loop-multiplier-preserved c =
    let i = c.loop-multiplier.multiplier-index in
    let more = add_up_next (λ m. m) c.args.multipliers.now i (i + 1) 0 (omega arith) (omega arith) in
    let small = c.requires.multipliers i 0 (omega arith) in
    record { total = omega (arith, more, small, c.loop-multiplier.invariant.total); bound = omega (arith, small, c.loop-multiplier.invariant.bound) }
