use Rattle.std.proofs.Common.{◌∙◌, sym, arith}
use Rattle.irv_count.specs.Orders.{stands}
use Rattle.goal_rows.proofs.ClassCounts.{find_next}
use Rattle.goal_rows.proofs.sums.first_bit.Goals as goal

pub loop-k-preserved : goal.loop-k-preserved
loop-k-preserved c =
    find_next (λ n. stands c.args.key n) 40 c.loop-k.k (omega (arith, c.loop-k-test.true)) (sym c.stands_in.ensures ∙ c.if-stands_in.false) ∙ c.loop-k.invariant
