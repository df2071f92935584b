use Rattle.std.proofs.Common.{arith}
use Rattle.bound_tree.proofs.Laws.{cut_within}
use Rattle.bound_tree.proofs.bound.stands_lowest.Goals as goal

pub unreachable-requires : goal.unreachable-requires
unreachable-requires c = omega (arith, cut_within _ _ c.requires.cut, c.in-Err.ensures.missed)
