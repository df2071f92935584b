use Rattle.bound_tree.specs.Plain.{plain_of}
use Rattle.cert_text.proofs.Trees.{few_nodes, shallow}
use Rattle.cert_text.proofs.cert_read.read_last.Goals as goal

pub from_tree-requires-clause-few : goal.from_tree-requires-clause-few
from_tree-requires-clause-few c = few_nodes (c.args.reader.now.number, c.args.reader.now.rest.now) (c.read_node.new.reader.number, c.read_node.new.reader.rest.now) (plain_of c.in_ok-tree.tree) c.in_ok-tree.ensures.node

pub from_tree-requires-clause-shallow : goal.from_tree-requires-clause-shallow
from_tree-requires-clause-shallow c = shallow c.args.reader.now.number (c.args.reader.now.number, c.args.reader.now.rest.now) (c.read_node.new.reader.number, c.read_node.new.reader.rest.now) (plain_of c.in_ok-tree.tree) c.in_ok-tree.ensures.node
