use Rattle.dual_bound.proofs.Sizes.{few_classes}
use Rattle.dual_bound.proofs.laws.a_ground_has_few_classes.Goals as goal

pub returns : goal.returns
returns c = few_classes
