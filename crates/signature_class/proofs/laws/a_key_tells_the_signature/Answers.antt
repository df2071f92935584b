use Rattle.signature_class.proofs.KeysTold.{key_tells_places, key_tells_signature}
use Rattle.signature_class.proofs.laws.a_key_tells_the_signature.Goals as goal

pub returns-clause-ballots : goal.returns-clause-ballots
returns-clause-ballots c = key_tells_signature

pub returns-clause-places : goal.returns-clause-places
returns-clause-places c = key_tells_places
