use Rattle.margin_check.proofs.Trees.{same_proof}
use Rattle.margin_check.proofs.laws.shape_and_cuts_are_a_proof.Goals as goal

pub returns : goal.returns
returns c = same_proof
