use Rattle.std.proofs.Common.{length, ap, sym, ◌∙◌, rules}
use Rattle.std.proofs.lemmas.Int.{to_z-of_z}
use Rattle.sig_graph.specs.Paths.{arc_total, path_sum}
use Rattle.dual_bound.specs.Weighing.{places_by}
use Rattle.dual_bound.proofs.GoalCases.{cost_of_suffix, length-row_arcs}
use Rattle.dual_bound.proofs.ballot_costs.rows_cost.Goals as goal
use mir.Val.{SFits}
use mir.Syntax.{w128}

pub path_cost-requires-clause-arcs : goal.path_cost-requires-clause-arcs
path_cost-requires-clause-arcs c =
    let suffix = c.in-Suffix.suffix in
    ap length (c.requires.arcs suffix c.in-Suffix.is) ∙ length-row_arcs (length suffix) c.args.rows.now
    ∙ sym (ap (λ s. arc_total (length s)) c.as_slice.ensures.value)

pub returns-in-Suffix-clause-value : goal.returns-in-Suffix-clause-value
returns-in-Suffix-clause-value c =
    let suffix = c.in-Suffix.suffix in
    let key = c.args.key in
    let fits : SFits w128 c.path_cost.result = search rules in
    to_z-of_z w128 c.path_cost.result fits ∙ c.path_cost.ensures.value
    ∙ ap (λ s. path_sum (length s) c.args.arcs.now 0 (places_by (length s) key)) c.as_slice.ensures.value
    ∙ ap (λ arcs. path_sum (length suffix) arcs 0 (places_by (length suffix) key)) (c.requires.arcs suffix c.in-Suffix.is)
    ∙ cost_of_suffix c.args.start.now suffix c.args.rows.now key c.in-Suffix.is
