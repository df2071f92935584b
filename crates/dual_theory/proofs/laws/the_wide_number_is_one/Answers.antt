use Rattle.dual_theory.proofs.Wide.{wide_size, one_size}
use Rattle.dual_theory.proofs.laws.the_wide_number_is_one.Goals as goal

pub returns-clause-wide : goal.returns-clause-wide
returns-clause-wide c = wide_size

pub returns-clause-one : goal.returns-clause-one
returns-clause-one c = one_size
