use Rattle.std.proofs.Common.{◌≡◌, ◌+◌, ◌*◌, ◌++◌, take}
use Rattle.std.specs.Prelude.{sum_by}
use Rattle.std.specs.List.{flat_map}
use Rattle.bound_tree.specs.Nodes.{size}
use Rattle.bound_tree.specs.Plain.{plain_of}
use Rattle.cert_text.specs.CertText.{tree_text}
use Rattle.cert_text.proofs.tree_write.+trees.Given as goal

abbrev pub decreases-push_tree : goal.decreases-push_tree
decreases-push_tree l = 2 * size (plain_of l.tree.now)

abbrev pub decreases-push_trees : goal.decreases-push_trees
decreases-push_trees l = 2 * sum_by (λ tree. size (plain_of tree)) l.trees.now + 1

abbrev pub invariant-push_trees-loop-tree : goal.invariant-push_trees-loop-tree
invariant-push_trees-loop-tree l = l.out.items ≡ l.initial.out.items ++ flat_map (λ tree. tree_text (plain_of tree)) (take l.tree-index l.trees)
