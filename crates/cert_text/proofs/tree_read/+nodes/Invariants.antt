use Rattle.std.proofs.Common.{◌≡◌, ◌+◌, ◌-◌, ◌*◌, ◌≤◌, map}
use Rattle.bound_tree.specs.Plain.{plain_of}
use Rattle.cert_text.specs.TreeReading.{node_at}
use Rattle.cert_text.specs.Reading.{many_at}
use Rattle.cert_text.proofs.Growing.{with_front}
use Rattle.cert_text.proofs.tree_read.+nodes.Given as goal
use Rattle.bound_tree.specs.declared.bound.TheConstants.{MOST_NODES}

abbrev pub decreases-read_node : goal.decreases-read_node
decreases-read_node l = 2 * l.left

abbrev pub decreases-read_kids : goal.decreases-read_kids
decreases-read_kids l = 2 * l.left + 1

abbrev pub invariant-read_kids-loop : goal.invariant-read_kids-loop
invariant-read_kids-loop l = record {
  read : with_front (map plain_of l.kids) (many_at (node_at l.left l.first) (l.count - l.counter) (l.reader.number, l.reader.rest.now)) ≡ many_at (node_at l.left l.first) l.count (l.initial.reader.number, l.initial.reader.rest.now);
  number : l.reader.number ≤ l.first + MOST_NODES;
}
