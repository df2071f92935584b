use Rattle.dual_bound.proofs.Sound.{sound}
use Rattle.dual_bound.proofs.laws.a_cut_is_sound.Goals as goal

pub returns : goal.returns
returns c = sound
