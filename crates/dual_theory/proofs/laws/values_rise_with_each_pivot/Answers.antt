use Rattle.dual_theory.proofs.Rising.{rises}
use Rattle.dual_theory.proofs.laws.values_rise_with_each_pivot.Goals as goal

pub returns : goal.returns
returns c = rises
