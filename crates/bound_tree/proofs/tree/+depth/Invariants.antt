use Rattle.std.proofs.Common.{◌≡◌, ◌+◌, ◌*◌, take, map}
use Rattle.bound_tree.specs.Plain.{plain_of, kids_of}
use Rattle.bound_tree.specs.Nodes.{height, highest}
use Rattle.bound_tree.proofs.tree.+depth.Given as goal

abbrev pub decreases-deepest : goal.decreases-deepest
decreases-deepest l = 2 * height (plain_of l.tree.now)

abbrev pub decreases-deepest_of : goal.decreases-deepest_of
decreases-deepest_of l = 2 * highest (kids_of (map plain_of l.kids.now)) + 1

abbrev pub invariant-deepest_of-loop-kid : goal.invariant-deepest_of-loop-kid
invariant-deepest_of-loop-kid l = l.greatest ≡ highest (kids_of (map plain_of (take l.kid-index l.kids)))
