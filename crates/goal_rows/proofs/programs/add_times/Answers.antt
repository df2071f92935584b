use Rattle.std.proofs.Common.{[], ◌∷◌, ◌++◌, ◌∙◌, append_assoc, replicate, ap, sym}
use Rattle.goal_rows.proofs.ProgramRows.{once_more}
use Rattle.goal_rows.proofs.programs.add_times.Goals as goal

pub loop-preserved : goal.loop-preserved
loop-preserved c =
    c.in_ok-push.ensures.ok ∙ ap (λ xs. xs ++ c.args.cost ∷ []) c.loop.invariant
    ∙ append_assoc c.args.costs.now (replicate c.loop.counter c.args.cost) (c.args.cost ∷ [])
    ∙ ap (λ xs. c.args.costs.now ++ xs) (sym (once_more c.args.cost c.loop.counter))
