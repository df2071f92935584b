use Rattle.std.proofs.Common.{◌∙◌, ap, sym, arith}
use Rattle.std.specs.Prelude.{not}
use Rattle.irv_count.specs.Orders.{member}
use Rattle.goal_rows.proofs.Lengths.{one_less, one_more}
use Rattle.goal_rows.proofs.Lists.{those_few}
use Rattle.goal_rows.proofs.kids.longer_count.Goals as goal
use Rattle.goal_rows.proofs.kids.longer_count.Goals.{then-not-has, else-not-has}

pub overflow_add-count : goal.overflow_add-count
overflow_add-count c =
    let few = those_few c.loop-z.z (λ z. not (member z c.args.suffix.now)) in
    omega (arith, few, c.loop-z.invariant, c.loop-z-test.true)

pub loop-z-preserved : goal.loop-z-preserved
loop-z-preserved c =
    elim c.if-not-has.branch [
      | then-not-has w ↦ w.count-is ∙ one_more (λ z. not (member z c.args.suffix.now)) c.loop-z.z c.loop-z.count c.loop-z.invariant (ap not (sym c.has.ensures ∙ w.if-not-has.true))
      | else-not-has w ↦ w.count-is ∙ one_less (λ z. not (member z c.args.suffix.now)) c.loop-z.z c.loop-z.count c.loop-z.invariant (ap not (sym c.has.ensures ∙ w.if-not-has.false))
    ]
