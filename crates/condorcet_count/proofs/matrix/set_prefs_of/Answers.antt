use Rattle.std.proofs.Common.{arith}
use Rattle.condorcet_count.proofs.Cells.{set_more}
use Rattle.condorcet_count.proofs.matrix.set_prefs_of.Goals as goal

pub loop-y-preserved : goal.loop-y-preserved
loop-y-preserved c = set_more _ _ _ _ _ _ c.requires.candidate (omega arith) (omega (arith, c.requires.square, c.loop-y.auto.counts)) c.loop-y.invariant
