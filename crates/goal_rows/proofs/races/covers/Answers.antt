use Rattle.std.proofs.Common.{ap, sym, ◌∙◌, ◌++◌, ◌∷◌, [], arith}
use Rattle.std.proofs.lemmas.List.FromFn.{map-range_with_len_more}
use Rattle.goal_rows.specs.declared.goals.Goal.TheVariants.{Cover}
use Rattle.goal_rows.proofs.races.covers.Goals as goal

pub loop-x-preserved : goal.loop-x-preserved
loop-x-preserved c = c.in_ok-push.ensures.ok ∙ ap (λ xs. xs ++ Cover c.loop-x.x ∷ []) c.loop-x.invariant
    ∙ sym (map-range_with_len_more Cover 0 c.loop-x.x c.loop-x.x (omega arith))
