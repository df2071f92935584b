use Rattle.dual_bound.proofs.Sound.{cut_below}
use Rattle.dual_bound.proofs.laws.a_cut_holds_below.Goals as goal

pub returns : goal.returns
returns c = cut_below
