use Rattle.std.proofs.Common.{[], ◌∷◌, ◌+◌, ◌∙◌, arith}
use Rattle.goal_rows.specs.declared.weighings.Weighing.TheVariants.{Leaving, Through}
use Rattle.goal_rows.proofs.ProgramRows.{item_more}
use Rattle.goal_rows.proofs.programs.through_weighings.Goals as goal

pub loop-before-preserved : goal.loop-before-preserved
loop-before-preserved c =
    let p = c.loop-before.before in
    c.in_ok-push-2.ensures.items ∙ item_more (λ q. Through q) 1 p (p + 1) (Leaving ∷ []) c.loop-before.weighings.items (omega arith) c.loop-before.invariant
