use Rattle.dual_theory.proofs.Unique.{least_unique}
use Rattle.dual_theory.proofs.laws.the_least_point_is_one.Goals as goal

pub returns : goal.returns
returns c = least_unique
