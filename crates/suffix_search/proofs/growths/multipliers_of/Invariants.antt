use Rattle.std.proofs.Common.{◌≡◌, ◌++◌, drop, map}
use Rattle.search_leaves.specs.declared.leaves.Leaf.{Leaf}
use Rattle.suffix_search.proofs.growths.multipliers_of.Given as goal

abbrev pub invariant-loop-leaf : goal.invariant-loop-leaf
invariant-loop-leaf l = l.lists ++ map (λ (leaf : Leaf). leaf.multipliers) (drop l.leaf-index l.leaves) ≡ map (λ (leaf : Leaf). leaf.multipliers) l.leaves
