use Rattle.node_bounds.proofs.Inheritance.{half_cuts, kid_cuts}
use Rattle.node_bounds.proofs.laws.zeros_change_no_cut.Goals as goal

pub returns-clause-kid : goal.returns-clause-kid
returns-clause-kid c = kid_cuts

pub returns-clause-half : goal.returns-clause-half
returns-clause-half c = half_cuts
