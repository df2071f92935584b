use Rattle.dual_theory.proofs.Shown.{lowest_is}
use Rattle.dual_theory.proofs.laws.divided_multipliers_have_no_common_divisor.Goals as goal

pub returns : goal.returns
returns c = lowest_is
