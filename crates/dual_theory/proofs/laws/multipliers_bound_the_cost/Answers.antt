use Rattle.dual_theory.proofs.CallerLemmas.{BoundsCost_at_best}
use Rattle.dual_theory.proofs.laws.multipliers_bound_the_cost.Goals as goal

pub returns : goal.returns
returns c = BoundsCost_at_best
