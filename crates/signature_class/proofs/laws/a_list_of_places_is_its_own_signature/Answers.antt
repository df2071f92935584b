use Rattle.signature_class.proofs.KeptPlaces.{own_signature}
use Rattle.signature_class.proofs.laws.a_list_of_places_is_its_own_signature.Goals as goal

pub returns : goal.returns
returns c = own_signature
