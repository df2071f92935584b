use Rattle.std.proofs.Common.{[]}
use Rattle.std.specs.Prelude.{◌==◌, not}
use Rattle.goal_rows.specs.declared.weighings.Weighing.TheVariants.{Over}
use Rattle.goal_rows.proofs.Lists.{added_none, added_one, is_no_other, is_other}
use Rattle.goal_rows.proofs.programs.cover_weighings.Goals as goal
use Rattle.goal_rows.proofs.programs.cover_weighings.Goals.{then-j-x+in_ok-push, else-j-x}

pub loop-j-preserved : goal.loop-j-preserved
loop-j-preserved c =
    let x = c.args.x in
    let j = c.loop-j.j in
    elim c.if-j-x.branch [
      | then-j-x+in_ok-push w ↦ rw (w.weighings-is, w.in_ok-push.ensures.items)
          (added_one (λ k. Over x k) (λ k. not (k == x)) j [] c.loop-j.weighings.items c.loop-j.invariant (is_other j x w.if-j-x.true))
      | else-j-x w ↦ rw w.weighings-is
          (added_none (λ k. Over x k) (λ k. not (k == x)) j [] c.loop-j.weighings.items c.loop-j.invariant (is_no_other j x w.if-j-x.false))
    ]
