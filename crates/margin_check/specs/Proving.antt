-- The shape and the cuts of a tree, node by node.
use Rattle.std.specs.Prelude.{◌≡◌, ℕ, [], Some, length, option_map, All}
use Rattle.bound_tree.specs.Lines.{kid_count}
use Rattle.bound_tree.specs.Plain.{Plain, Split, Branch, Cut}
use Rattle.goal_rows.specs.Elections.{Election, Node}
use Rattle.goal_rows.specs.Goals.{cover_of}
use Rattle.goal_rows.specs.Nodes.{IsFeatureOf, number_count}
use Rattle.dual_bound.specs.CutTest.{Cuts}
use Rattle.margin_check.specs.Visits.{visits}

-- a split stands at a goal with a cover, without limits, and has as many kids as the cover has goals; a branch names a
-- feature of its goal; a cut has a number for each row and each limit
abbrev pub IsShaped : Election → Node → Plain → Type 0
IsShaped e node (Split kids) = (node.limits ≡ []) × (option_map length (cover_of e node.goal) ≡ Some (kid_count kids))
IsShaped e node (Branch feature value low high) = IsFeatureOf e node.goal feature
IsShaped e node (Cut multipliers) = length multipliers ≡ number_count e node

-- a cut passes the test at t
abbrev pub Passes : Election → ℕ → Node → Plain → Type 0
Passes e t node (Split kids) = Unit {0}
Passes e t node (Branch feature value low high) = Unit {0}
Passes e t node (Cut multipliers) = Cuts e node multipliers t

-- each node has its shape, and each cut passes the test
pub record IsProof (e : Election) (t : ℕ) (node : Node) (tree : Plain) : Type 0 where
  pub shape : All (λ visit. IsShaped e visit.node visit.tree) (visits e node tree)
  pub cuts : All (λ visit. Passes e t visit.node visit.tree) (visits e node tree)
