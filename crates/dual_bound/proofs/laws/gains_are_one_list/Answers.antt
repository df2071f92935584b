use Rattle.dual_bound.proofs.Sound.{gains-unique}
use Rattle.dual_bound.proofs.laws.gains_are_one_list.Goals as goal

pub returns : goal.returns
returns c = gains-unique
