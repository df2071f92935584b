use Rattle.dual_theory.proofs.Ending.{measure_falls_on}
use Rattle.dual_theory.proofs.laws.the_measure_falls.Goals as goal

pub returns : goal.returns
returns c = measure_falls_on
