use Rattle.alteration_model.proofs.Judged.{no_longer}
use Rattle.alteration_model.proofs.laws.an_alteration_is_no_longer_than_the_roll.Goals as goal

pub returns : goal.returns
returns c = no_longer
