use Rattle.std.proofs.Common.{sym, ◌∙◌}
use Rattle.goal_rows.specs.Goals.{is_seated}
use Rattle.goal_rows.specs.declared.goals.Goal.TheVariants.{Pair}
use Rattle.goal_rows.proofs.Lists.{added_none, added_one}
use Rattle.goal_rows.proofs.races.add_seated.Goals as goal
use Rattle.goal_rows.proofs.races.add_seated.Goals.{then-is_seated+in_ok-push, else-is_seated}

pub loop-l-preserved : goal.loop-l-preserved
loop-l-preserved c =
    elim c.if-is_seated.branch [
      | then-is_seated+in_ok-push w ↦ w.roots-is ∙ w.in_ok-push.ensures.ok
          ∙ added_one (λ l. Pair c.args.g l) (is_seated c.args.shares.now c.args.g) c.loop-l.l c.args.roots.now c.loop-l.roots c.loop-l.invariant (sym c.is_seated.ensures ∙ w.if-is_seated.true)
      | else-is_seated w ↦ w.roots-is
          ∙ added_none (λ l. Pair c.args.g l) (is_seated c.args.shares.now c.args.g) c.loop-l.l c.args.roots.now c.loop-l.roots c.loop-l.invariant (sym c.is_seated.ensures ∙ w.if-is_seated.false)
    ]
