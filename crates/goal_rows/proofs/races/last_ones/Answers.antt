use Rattle.std.proofs.Common.{[], ◌∷◌, ◌++◌, ◌∙◌, ap}
use Rattle.std.specs.Prelude.{◌==◌, not}
use Rattle.goal_rows.specs.declared.goals.Goal.TheVariants.{Suffix}
use Rattle.goal_rows.proofs.Lists.{added_none, added_one, is_no_other, is_other}
use Rattle.goal_rows.proofs.races.last_ones.Goals as goal
use Rattle.goal_rows.proofs.races.last_ones.Goals.{then-y-x+in_ok-alone+in_ok-push, else-y-x}

pub loop-y-preserved : goal.loop-y-preserved
loop-y-preserved c =
    elim c.if-y-x.branch [
      | then-y-x+in_ok-alone+in_ok-push w ↦ w.roots-is ∙ w.in_ok-push.ensures.ok ∙ ap (λ s. c.loop-y.roots ++ Suffix s ∷ []) w.in_ok-alone.ensures
          ∙ added_one (λ y. Suffix (y ∷ [])) (λ y. not (y == c.args.x)) c.loop-y.y [] c.loop-y.roots c.loop-y.invariant (is_other c.loop-y.y c.args.x w.if-y-x.true)
      | else-y-x w ↦ w.roots-is
          ∙ added_none (λ y. Suffix (y ∷ [])) (λ y. not (y == c.args.x)) c.loop-y.y [] c.loop-y.roots c.loop-y.invariant (is_no_other c.loop-y.y c.args.x w.if-y-x.false)
    ]
