use Rattle.dual_theory.proofs.CallerLemmas.{IsLeastCost_at_best}
use Rattle.dual_theory.proofs.laws.the_last_form_has_the_least_cost.Goals as goal

pub returns : goal.returns
returns c = IsLeastCost_at_best
