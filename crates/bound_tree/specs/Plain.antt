-- Trees as plain data, and how a tree of the program is read as one.
use Rattle.std.specs.Prelude.{ℕ, List, [], ◌∷◌}
use Rattle.row_program.specs.declared.Feature.{Feature}
use Rattle.bound_tree.specs.declared.tree.Tree as program
use Rattle.bound_tree.specs.declared.tree.Tree.TheOpen as layer
use Rattle.bound_tree.specs.declared.tree.Tree.TheFolds.{fold-Tree}

-- a split with its kids, a branch by a feature and a value with its low and its high half, or a cut with its
-- multipliers
mutual
  pub data Plain : Type 0 where
    Split : Kids → Plain
    Branch : Feature → ℕ → Plain → Plain → Plain
    Cut : List ℕ → Plain

  -- the kids of a split, as a list
  pub data Kids : Type 0 where
    None : Kids
    More : Plain → Kids → Kids

abbrev pub kids_of : List Plain → Kids
kids_of [] = None
kids_of (kid ∷ kids) = More kid (kids_of kids)

-- a node whose kids were read already
abbrev pub read_node : layer.Tree-F Plain → Plain
read_node (layer.Split kids) = Split (kids_of kids)
read_node (layer.Branch feature value low high) = Branch feature value low high
read_node (layer.Cut multipliers) = Cut multipliers

-- a tree of the program, read as plain data
abbrev pub plain_of : program.Tree → Plain
plain_of = fold-Tree Plain read_node
