use Rattle.std.proofs.Common.{◌≡◌, ◌+◌, ◌*◌, take}
use Rattle.std.specs.Prelude.{sum_by}
use Rattle.bound_tree.specs.Plain.{plain_of}
use Rattle.bound_tree.specs.Nodes.{size}
use Rattle.bound_tree.proofs.tree.+count.Given as goal

abbrev pub decreases-count : goal.decreases-count
decreases-count l = 2 * size (plain_of l.tree.now)

abbrev pub decreases-count_all : goal.decreases-count_all
decreases-count_all l = 2 * sum_by (λ kid. size (plain_of kid)) l.kids.now + 1

abbrev pub invariant-count_all-loop-kid : goal.invariant-count_all-loop-kid
invariant-count_all-loop-kid l = l.total ≡ sum_by (λ kid. size (plain_of kid)) (take l.kid-index l.kids)
