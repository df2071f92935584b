use Rattle.signature_class.proofs.KeptPlaces.{names_holders, signature_places}
use Rattle.signature_class.proofs.laws.a_signature_names_the_holders.Goals as goal

pub returns-clause-holders : goal.returns-clause-holders
returns-clause-holders c = names_holders

pub returns-clause-places : goal.returns-clause-places
returns-clause-places c = signature_places
