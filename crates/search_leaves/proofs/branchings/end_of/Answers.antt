use Rattle.std.proofs.Common.{arith}
use Rattle.search_leaves.proofs.VariableEnds.{end_behind}
use Rattle.search_leaves.proofs.branchings.end_of.Goals as goal

pub returns-else-k-len : goal.returns-else-k-len
returns-else-k-len c = λ v is. end_behind c.args.start.now c.args.k v (omega (arith, c.if-k-len.false, c.len.ensures.value)) is
