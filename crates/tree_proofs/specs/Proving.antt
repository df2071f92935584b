-- What a tree of bounds proves: that few replacements can't meet its topmost node.
use Rattle.std.specs.Prelude.{◌≡◌, ℕ, List, [], ◌∷◌, Some, length}
use Rattle.bound_tree.specs.Plain.{Plain, Kids, Split, Branch, Cut}
use Rattle.bound_tree.specs.Plain as trees
use Rattle.goal_rows.specs.Elections.{Election, Node}
use Rattle.goal_rows.specs.Goals.{cover_of}
use Rattle.goal_rows.specs.Nodes.{IsFeatureOf, high_half, low_half, number_count, without_limits}
use Rattle.goal_rows.specs.declared.goals.Goal.{Goal}
use Rattle.dual_bound.specs.CutTest.{Cuts}

abbrev mutual
  -- the tree proves that fewer than t replacements don't meet the node: its shape is right, and its cuts hold at t
  pub Proves : Election → ℕ → Node → Plain → Type 0
  Proves e t node (Split kids) =
      (node.limits ≡ []) × ((goals : List Goal) × (cover_of e node.goal ≡ Some goals) × ProveAll e t goals kids)
  Proves e t node (Branch feature value low high) = IsFeatureOf e node.goal feature
      × Proves e t (low_half node feature value) low
      × Proves e t (high_half node feature value) high
  Proves e t node (Cut multipliers) = (length multipliers ≡ number_count e node) × Cuts e node multipliers t

  -- each tree proves t for its goal, without limits
  pub ProveAll : Election → ℕ → List Goal → Kids → Type 0
  ProveAll e t [] trees.None = Unit {0}
  ProveAll e t [] (trees.More kid kids) = ⊥
  ProveAll e t (goal ∷ goals) trees.None = ⊥
  ProveAll e t (goal ∷ goals) (trees.More kid kids) = Proves e t (without_limits goal) kid × ProveAll e t goals kids
