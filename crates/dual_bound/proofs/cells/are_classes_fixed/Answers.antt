use Rattle.std.proofs.Common.{◌+◌, arith}
use Rattle.dual_bound.specs.CellParts.{IsFixedClass}
use Rattle.dual_bound.proofs.CellVariables.{one_more_at}
use Rattle.dual_bound.proofs.cells.are_classes_fixed.Goals as goal

pub loop-k-preserved : goal.loop-k-preserved
loop-k-preserved c =
    one_more_at (IsFixedClass c.args.limits.now) c.args.classes.now c.loop-k.k (c.loop-k.k + 1) (0, 0) (omega (arith, c.len-k-end.ensures.value, c.loop-k-test.true)) c.loop-k.invariant
    (rw (c.key.ensures, c.count.ensures) at (c.is_fixed.ensures.0 c.if-not-is_fixed.false)) (omega arith)
