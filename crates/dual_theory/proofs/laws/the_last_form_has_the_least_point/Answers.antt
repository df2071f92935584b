use Rattle.dual_theory.proofs.CallerLemmas.{IsLeastPoint_at_best}
use Rattle.dual_theory.proofs.laws.the_last_form_has_the_least_point.Goals as goal

pub returns : goal.returns
returns c = IsLeastPoint_at_best
