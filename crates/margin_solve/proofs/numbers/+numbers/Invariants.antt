use Rattle.std.proofs.Common.{◌≤◌, length}
use Rattle.margin_solve.proofs.NarrowTrees.{AreNarrowUpTo}
use Rattle.margin_solve.proofs.numbers.+numbers.Given as goal

abbrev pub invariant-all_read-loop-kid : goal.invariant-all_read-loop-kid
invariant-all_read-loop-kid l = (l.kid-index ≤ length l.kids) × AreNarrowUpTo l.kid-index l.kids
