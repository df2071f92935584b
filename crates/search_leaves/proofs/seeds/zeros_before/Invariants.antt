use Rattle.std.proofs.Common.{◌≡◌, ◌++◌, drop, replicate, ℕ, List}
use Rattle.search_leaves.proofs.seeds.zeros_before.Given as goal

abbrev pub invariant-loop-i : goal.invariant-loop-i
invariant-loop-i l = l.made ≡ replicate l._i 0

abbrev pub invariant-loop-number : goal.invariant-loop-number
invariant-loop-number l = l.made ++ drop l.number-index l.number-items ≡ replicate l.zeros 0 ++ l.more
