use Rattle.signature_class.proofs.KeysTold.{kid_key}
use Rattle.signature_class.proofs.laws.a_kids_key_is_its_parents_moved_up.Goals as goal

pub returns : goal.returns
returns c = kid_key
