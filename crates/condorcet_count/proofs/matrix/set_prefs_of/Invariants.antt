use Rattle.condorcet_count.proofs.Cells.{AreSetUpTo}
use Rattle.condorcet_count.proofs.matrix.set_prefs_of.Given as goal

abbrev pub invariant-loop-y : goal.invariant-loop-y
invariant-loop-y l = AreSetUpTo l.c l.x l.ranked l.y l.initial.counts l.counts
