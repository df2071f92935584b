-- Growth: a tree with another in the place of one of its nodes.
use Rattle.std.specs.Prelude.{ℕ, ◌-◌, List, [], ◌∷◌, cond, ltb}
use Rattle.std.proofs.Common.{zero, suc}
use Rattle.bound_tree.specs.Plain.{Plain, Kids, Split, Branch, Cut, None, More}
use Rattle.bound_tree.specs.Nodes.{size}

-- the tree with `new` in the place of the node with this number
abbrev mutual
  pub replaced : ℕ → Plain → Plain → Plain
  replaced zero new tree = new
  replaced (suc n) new (Split kids) = Split (replaced_in n new kids)
  replaced (suc n) new (Branch feature value low high) =
      cond (ltb n (size low)) (Branch feature value (replaced n new low) high)
      (Branch feature value low (replaced (n - size low) new high))
  replaced (suc n) new (Cut multipliers) = Cut multipliers

  pub replaced_in : ℕ → Plain → Kids → Kids
  replaced_in n new None = None
  replaced_in n new (More kid kids) =
      cond (ltb n (size kid)) (More (replaced n new kid) kids) (More kid (replaced_in (n - size kid) new kids))

-- kids that are cuts with these multipliers
abbrev pub cuts_of : List (List ℕ) → Kids
cuts_of [] = None
cuts_of (multipliers ∷ lists) = More (Cut multipliers) (cuts_of lists)
