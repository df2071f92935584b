use Rattle.std.proofs.Common.{arith}
use Rattle.condorcet_count.specs.Preferences.{count_in}
use Rattle.mov_run.specs.Tally.{pairs_of}
use Rattle.mov_run.proofs.Ranges.{each_more}
use Rattle.mov_run.proofs.tally_pairs.push_pairs.Goals as goal

pub loop-x-preserved : goal.loop-x-preserved
loop-x-preserved c = each_more (pairs_of c.args.matrix.now.c (count_in c.args.matrix.now)) _ _ _ 0 c.loop-x.x c.loop-x.x (omega arith) c.loop-x.invariant c.in_ok-push_pairs_of.ensures
