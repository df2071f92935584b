use Rattle.std.proofs.Common.{◌≡◌, ◌+◌, ◌*◌, take}
use Rattle.std.specs.Prelude.{sum_by}
use Rattle.bound_tree.specs.Plain.{plain_of}
use Rattle.bound_tree.specs.Nodes.{size}
use Rattle.bound_tree.proofs.find.+find.Given as goal

abbrev pub decreases-find : goal.decreases-find
decreases-find l = 2 * size (plain_of l.tree.now)

abbrev pub decreases-find_among : goal.decreases-find_among
decreases-find_among l = 2 * sum_by (λ kid. size (plain_of kid)) l.kids.now + 1

abbrev pub invariant-find_among-loop-kid : goal.invariant-find_among-loop-kid
invariant-find_among-loop-kid l = l.number ≡ sum_by (λ kid. size (plain_of kid)) (take l.kid-index l.kids) + l.left
