use Rattle.std.proofs.Common.{[], ◌∷◌, ◌++◌, ◌∙◌, ap, arith}
use Rattle.ballot_form.specs.Scores.{is_some_of}
use Rattle.sig_graph.specs.Rows.{one_where}
use Rattle.goal_rows.proofs.ProgramRows.{item_more}
use Rattle.dual_bound.proofs.cell_cuts.row_multipliers.Goals as goal

pub loop-r-preserved : goal.loop-r-preserved
loop-r-preserved c =
    c.in_ok-push.ensures.ok
    ∙ ap (λ n. c.loop-r.multipliers ++ n ∷ []) c.is_number.ensures.value
    ∙ item_more (λ r. one_where (is_some_of c.args.broken r)) 0 c.loop-r.r c.loop-r.r [] c.loop-r.multipliers (omega arith) c.loop-r.invariant
