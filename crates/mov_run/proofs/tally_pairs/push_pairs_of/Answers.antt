use Rattle.std.proofs.Common.{◌+◌}
use Rattle.condorcet_count.specs.Preferences.{count_in}
use Rattle.mov_run.specs.Tally.{pair_text}
use Rattle.mov_run.proofs.Ranges.{each_next}
use Rattle.mov_run.proofs.tally_pairs.push_pairs_of.Goals as goal

pub loop-y-preserved : goal.loop-y-preserved
loop-y-preserved c =
    each_next (pair_text (count_in c.args.matrix.now) c.args.x) _ _ _ (c.args.x + 1) c.loop-y.y c.loop-y.auto.y c.loop-y.invariant c.in_ok-push_pair.ensures
