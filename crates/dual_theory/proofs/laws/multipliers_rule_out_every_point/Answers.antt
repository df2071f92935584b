use Rattle.dual_theory.proofs.CallerLemmas.{RulesOut_at_never}
use Rattle.dual_theory.proofs.laws.multipliers_rule_out_every_point.Goals as goal

pub returns : goal.returns
returns c = RulesOut_at_never
