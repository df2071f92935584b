-- The nodes of a tree in preorder, each with what it is to rule out.
use Rattle.std.specs.Prelude.{List, [], ◌∷◌, ◌++◌}
use Rattle.bound_tree.specs.Plain.{Plain, Kids, Split, Branch, Cut}
use Rattle.bound_tree.specs.Plain as trees
use Rattle.goal_rows.specs.Elections.{Election, Node}
use Rattle.goal_rows.specs.Goals.{cover_of, kid_goals}
use Rattle.goal_rows.specs.Nodes.{high_half, low_half, without_limits}
use Rattle.goal_rows.specs.declared.goals.Goal.{Goal}

-- a node, and the tree that is to rule it out
pub record Visit : Type 0 where
  pub node : Node
  pub tree : Plain

abbrev pub visit_of : Node → Plain → Visit
visit_of node tree = record { node = node; tree = tree }

-- the nodes in preorder: a split's kids have the goals of the cover in order, without limits, and a branch's halves
-- have its goal and its limits with one more at the end
abbrev mutual
  pub visits : Election → Node → Plain → List Visit
  visits e node (Split kids) =
      visit_of node (Split kids) ∷ visits_among e (kid_goals (cover_of e node.goal)) kids
  visits e node (Branch feature value low high) = visit_of node (Branch feature value low high)
      ∷ (visits e (low_half node feature value) low ++ visits e (high_half node feature value) high)
  visits e node (Cut multipliers) = visit_of node (Cut multipliers) ∷ []

  pub visits_among : Election → List Goal → Kids → List Visit
  visits_among e goals trees.None = []
  visits_among e [] (trees.More kid kids) = []
  visits_among e (goal ∷ goals) (trees.More kid kids) = visits e (without_limits goal) kid ++ visits_among e goals kids
