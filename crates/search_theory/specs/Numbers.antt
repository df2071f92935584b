-- The number that a cut of a tree has among all nodes in preorder.
use Rattle.std.specs.Prelude.{ℕ, ◌+◌, ◌-◌, cond, ltb}
use Rattle.std.proofs.Common.{suc}
use Rattle.bound_tree.specs.Nodes.{cut_count, size}
use Rattle.bound_tree.specs.Plain.{Plain, Kids, Split, Branch, Cut, None, More}

-- the number of the node that is cut number i, both from 0
abbrev mutual
  pub cut_number : ℕ → Plain → ℕ
  cut_number i (Split kids) = suc (cut_number_in i kids)
  cut_number i (Branch feature value low high) =
      suc (cond (ltb i (cut_count low)) (cut_number i low) (size low + cut_number (i - cut_count low) high))
  cut_number i (Cut multipliers) = 0

  pub cut_number_in : ℕ → Kids → ℕ
  cut_number_in i None = 0
  cut_number_in i (More kid kids) =
      cond (ltb i (cut_count kid)) (cut_number i kid) (size kid + cut_number_in (i - cut_count kid) kids)
