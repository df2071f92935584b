use Rattle.std.proofs.Common.{◌∙◌}
use Rattle.dual_bound.proofs.Greedy.{greedy-is_most}
use Rattle.dual_bound.proofs.largest.top_sum.Goals as goal

pub returns-clause-value : goal.returns-clause-value
returns-clause-value c xs same =
    c.greedy_sum.ensures.value ∙ greedy-is_most c.args.k xs c.args.classes.now same c.requires.order c.requires.enough
