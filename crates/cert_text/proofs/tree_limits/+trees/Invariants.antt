use Rattle.std.proofs.Common.{◌+◌, ◌*◌, take}
use Rattle.std.specs.Prelude.{All, sum_by}
use Rattle.bound_tree.specs.Nodes.{size}
use Rattle.bound_tree.specs.Plain.{plain_of}
use Rattle.cert_text.proofs.Fitting.{TreeFits}
use Rattle.cert_text.proofs.tree_limits.+trees.Given as goal

abbrev pub decreases-tree_fits : goal.decreases-tree_fits
decreases-tree_fits l = 2 * size (plain_of l.tree.now)

abbrev pub decreases-trees_fit : goal.decreases-trees_fit
decreases-trees_fit l = 2 * sum_by (λ tree. size (plain_of tree)) l.trees.now + 1

abbrev pub decreases-halves_fit : goal.decreases-halves_fit
decreases-halves_fit l = 2 * (size (plain_of l.low.now) + size (plain_of l.high.now)) + 1

abbrev pub invariant-trees_fit-loop-tree : goal.invariant-trees_fit-loop-tree
invariant-trees_fit-loop-tree l = All TreeFits (take l.tree-index l.trees)
