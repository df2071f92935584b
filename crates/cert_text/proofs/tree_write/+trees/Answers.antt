use Rattle.std.proofs.lemmas.Result.{on_ok_weaker}
use Rattle.cert_text.proofs.Writing.{split_done, branch_done}
use Rattle.cert_text.proofs.tree_write.+trees.Goals as goal

pub push_tree-returns-in_ok-push_one-in-Split : goal.push_tree-returns-in_ok-push_one-in-Split
push_tree-returns-in_ok-push_one-in-Split t c = on_ok_weaker c.push_trees.result
    (split_done c.args.out.now.items c.push_one.new.out.items c.push_trees.new.out.items c.args.tree.now c.in-Split.kids c.as_slice.result.now c.len.result c.in-Split.is c.as_slice.ensures c.len.ensures c.in_ok-push_one-in-Split.ensures.line)
    c.push_trees.ensures

pub push_tree-returns-in_ok-push_tree-in-Branch : goal.push_tree-returns-in_ok-push_tree-in-Branch
push_tree-returns-in_ok-push_tree-in-Branch t c = on_ok_weaker c.push_tree-in-Branch.result
    (branch_done c.args.out.now.items c.push_branch.new.out.items c.push_tree.new.out.items c.push_tree-in-Branch.new.out.items c.args.tree.now c.in-Branch.feature c.in-Branch.value c.in-Branch.low c.in-Branch.high c.get.result.now c.get-in-Branch.result.now
    c.in-Branch.is c.get.ensures c.get-in-Branch.ensures c.in_ok-push_branch-in-Branch.ensures c.in_ok-push_tree-in-Branch.ensures)
    c.push_tree-in-Branch.ensures
