use Rattle.std.proofs.Common.{Some, ap, ◌∙◌}
use Rattle.bound_tree.specs.Plain.{plain_of}
use Rattle.bound_tree.proofs.Shapes.{plain_Cut}
use Rattle.test_parts.proofs.trees.is_cut.Goals as goal

pub returns-in-Cut : goal.returns-in-Cut
returns-in-Cut c = λ yes. record {
  multipliers = _;
  node = c.at.ensures.node ∙ ap (λ tree. Some (plain_of tree)) c.in-Cut.is ∙ ap Some (plain_Cut _);
}
