use Rattle.std.proofs.Common.{arith, get_or}
use Rattle.mov_run.specs.Tally.{score_text}
use Rattle.mov_run.proofs.Ranges.{each_more}
use Rattle.mov_run.proofs.tally_scores.push_scores.Goals as goal

pub loop-x-preserved : goal.loop-x-preserved
loop-x-preserved c = each_more (score_text (λ y. get_or c.args.scores.now y 0)) _ _ _ 0 c.loop-x.x c.loop-x.x (omega arith) c.loop-x.invariant c.in_ok-push_two.ensures.line
