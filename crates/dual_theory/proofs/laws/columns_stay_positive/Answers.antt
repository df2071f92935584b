use Rattle.dual_theory.proofs.Rising.{columns_positive}
use Rattle.dual_theory.proofs.laws.columns_stay_positive.Goals as goal

pub returns : goal.returns
returns c = columns_positive
