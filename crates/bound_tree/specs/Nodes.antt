-- The nodes of a tree: how many, how many of them cuts, how deep, and in which order.
use Rattle.std.specs.Prelude.{ℕ, ◌+◌, max, List, [], ◌∷◌, ◌++◌}
use Rattle.std.proofs.Common.{suc}
use Rattle.bound_tree.specs.Plain.{Plain, Kids, Split, Branch, Cut, None, More}

-- how many nodes a tree has
abbrev mutual
  pub size : Plain → ℕ
  size (Split kids) = suc (size_all kids)
  size (Branch feature value low high) = suc (size low + size high)
  size (Cut multipliers) = 1

  pub size_all : Kids → ℕ
  size_all None = 0
  size_all (More kid kids) = size kid + size_all kids

-- how many cuts a tree has
abbrev mutual
  pub cut_count : Plain → ℕ
  cut_count (Split kids) = cut_count_all kids
  cut_count (Branch feature value low high) = cut_count low + cut_count high
  cut_count (Cut multipliers) = 1

  pub cut_count_all : Kids → ℕ
  cut_count_all None = 0
  cut_count_all (More kid kids) = cut_count kid + cut_count_all kids

-- how deep a tree is: a cut alone has 1
abbrev mutual
  pub height : Plain → ℕ
  height (Split kids) = suc (highest kids)
  height (Branch feature value low high) = suc (max (height low) (height high))
  height (Cut multipliers) = 1

  pub highest : Kids → ℕ
  highest None = 0
  highest (More kid kids) = max (height kid) (highest kids)

-- the nodes in preorder, each as the tree below it; the number of a node is its place in this list
abbrev mutual
  pub nodes_of : Plain → List Plain
  nodes_of (Split kids) = Split kids ∷ nodes_of_all kids
  nodes_of (Branch feature value low high) = Branch feature value low high ∷ (nodes_of low ++ nodes_of high)
  nodes_of (Cut multipliers) = Cut multipliers ∷ []

  pub nodes_of_all : Kids → List Plain
  nodes_of_all None = []
  nodes_of_all (More kid kids) = nodes_of kid ++ nodes_of_all kids

-- the depths of the nodes in preorder, where the topmost has the depth d
abbrev mutual
  pub depths : ℕ → Plain → List ℕ
  depths d (Split kids) = d ∷ depths_all (suc d) kids
  depths d (Branch feature value low high) = d ∷ (depths (suc d) low ++ depths (suc d) high)
  depths d (Cut multipliers) = d ∷ []

  pub depths_all : ℕ → Kids → List ℕ
  depths_all d None = []
  depths_all d (More kid kids) = depths d kid ++ depths_all d kids
