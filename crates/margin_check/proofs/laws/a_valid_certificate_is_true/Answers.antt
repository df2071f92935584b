use Rattle.margin_check.proofs.Meaning.{claim_is_true}
use Rattle.margin_check.proofs.laws.a_valid_certificate_is_true.Goals as goal

pub returns : goal.returns
returns c = claim_is_true
