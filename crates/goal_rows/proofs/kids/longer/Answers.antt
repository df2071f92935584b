use Rattle.std.proofs.Common.{[], ◌∷◌, ◌++◌, ◌∙◌, ap, sym}
use Rattle.std.specs.Prelude.{not}
use Rattle.irv_count.specs.Orders.{member}
use Rattle.goal_rows.specs.declared.goals.Goal.TheVariants.{Suffix}
use Rattle.goal_rows.proofs.Lists.{added_none, added_one}
use Rattle.goal_rows.proofs.kids.longer.Goals as goal
use Rattle.goal_rows.proofs.kids.longer.Goals.{then-not-has+in_ok-in_front+in_ok-push, else-not-has}

pub loop-z-preserved : goal.loop-z-preserved
loop-z-preserved c =
    let suffix = c.args.suffix.now in
    elim c.if-not-has.branch [
      | then-not-has+in_ok-in_front+in_ok-push w ↦ w.kids-is ∙ w.in_ok-push.ensures.ok ∙ ap (λ s. c.loop-z.kids ++ Suffix s ∷ []) w.in_ok-in_front.ensures
          ∙ added_one (λ z. Suffix (z ∷ suffix)) (λ z. not (member z suffix)) c.loop-z.z [] c.loop-z.kids c.loop-z.invariant (ap not (sym c.has.ensures ∙ w.if-not-has.true))
      | else-not-has w ↦ w.kids-is
          ∙ added_none (λ z. Suffix (z ∷ suffix)) (λ z. not (member z suffix)) c.loop-z.z [] c.loop-z.kids c.loop-z.invariant (ap not (sym c.has.ensures ∙ w.if-not-has.false))
    ]
