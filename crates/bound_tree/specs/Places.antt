-- Where a node stands.
use Rattle.std.specs.Prelude.{ℕ, ◌≡◌, List, Some, slice_get}
use Rattle.bound_tree.specs.Plain.{Plain, Kids, Cut}
use Rattle.bound_tree.specs.Nodes.{nodes_of, nodes_of_all, depths, depths_all}

-- the node with this number is the top of `sub`
abbrev pub IsNode : Plain → ℕ → Plain → Type 0
IsNode tree number sub = slice_get (nodes_of tree) number ≡ Some sub

-- the node with this number is a cut
pub record IsCut (tree : Plain) (number : ℕ) : Type 0 where
  pub multipliers : List ℕ
  pub node : IsNode tree number (Cut multipliers)

-- the node with this number stands at this depth, where the topmost node has the depth 1
abbrev pub IsAtDepth : Plain → ℕ → ℕ → Type 0
IsAtDepth tree number depth = slice_get (depths 1 tree) number ≡ Some depth

-- in a tree whose topmost node has the depth d, the node with this number is the top of `sub` and has this depth
pub record IsPlace (tree : Plain) (d number : ℕ) (sub : Plain) (depth : ℕ) : Type 0 where
  pub node : slice_get (nodes_of tree) number ≡ Some sub
  pub deep : slice_get (depths d tree) number ≡ Some depth

-- the same in several trees, numbered from the first on
pub record IsPlaceIn (kids : Kids) (d number : ℕ) (sub : Plain) (depth : ℕ) : Type 0 where
  pub node : slice_get (nodes_of_all kids) number ≡ Some sub
  pub deep : slice_get (depths_all d kids) number ≡ Some depth
