use Rattle.std.proofs.Common.{[], ◌∙◌}
use Rattle.std.specs.Prelude.{◌==◌, not}
use Rattle.goal_rows.specs.declared.goals.Goal.TheVariants.{Pair}
use Rattle.goal_rows.proofs.Lists.{added_none, added_one, is_no_other, is_other}
use Rattle.goal_rows.proofs.races.others.Goals as goal
use Rattle.goal_rows.proofs.races.others.Goals.{then-j-x+in_ok-push, else-j-x}

pub loop-j-preserved : goal.loop-j-preserved
loop-j-preserved c =
    elim c.if-j-x.branch [
      | then-j-x+in_ok-push w ↦ w.roots-is ∙ w.in_ok-push.ensures.ok
          ∙ added_one (λ j. Pair j c.args.x) (λ j. not (j == c.args.x)) c.loop-j.j [] c.loop-j.roots c.loop-j.invariant (is_other c.loop-j.j c.args.x w.if-j-x.true)
      | else-j-x w ↦ w.roots-is
          ∙ added_none (λ j. Pair j c.args.x) (λ j. not (j == c.args.x)) c.loop-j.j [] c.loop-j.roots c.loop-j.invariant (is_no_other c.loop-j.j c.args.x w.if-j-x.false)
    ]
