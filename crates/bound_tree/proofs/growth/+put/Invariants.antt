use Rattle.std.proofs.Common.{◌≡◌, ◌+◌, ◌*◌, take}
use Rattle.std.specs.Prelude.{sum_by}
use Rattle.bound_tree.specs.Plain.{plain_of}
use Rattle.bound_tree.specs.Nodes.{size}
use Rattle.bound_tree.proofs.growth.+put.Given as goal

abbrev pub decreases-put : goal.decreases-put
decreases-put l = 2 * size (plain_of l.tree.now)

abbrev pub decreases-put_among : goal.decreases-put_among
decreases-put_among l = 2 * sum_by (λ kid. size (plain_of kid)) l.kids.now + 1

abbrev pub invariant-put_among-loop-i : goal.invariant-put_among-loop-i
invariant-put_among-loop-i l = record {
  at : l.number ≡ sum_by (λ kid. size (plain_of kid)) (take l.i l.kids) + l.left;
  same : l.kids ≡ l.initial.kids;
  kept : l.new ≡ l.initial.new;
}
