use Rattle.std.proofs.Common.{◌≡◌, take}
use Rattle.search_leaves.proofs.copies.classes_copy.Given as goal

abbrev pub invariant-loop-i : goal.invariant-loop-i
invariant-loop-i l = l.copy ≡ take l.i l.fn.classes
