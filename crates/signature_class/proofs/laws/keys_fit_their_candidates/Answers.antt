use Rattle.signature_class.proofs.Covers.{cover_key_below}
use Rattle.signature_class.proofs.KeysTold.{suffix_key_below}
use Rattle.signature_class.proofs.laws.keys_fit_their_candidates.Goals as goal

pub returns-clause-suffixes : goal.returns-clause-suffixes
returns-clause-suffixes c = suffix_key_below

pub returns-clause-covers : goal.returns-clause-covers
returns-clause-covers c = cover_key_below
