use Rattle.mov_run.proofs.TallyScores.{borda_added}
use Rattle.mov_run.proofs.tally_scores.push_borda.Goals as goal

pub returns : goal.returns
returns c = borda_added _ _ _ c.score_winner.result _ _ _ c.push_winner.result c.in_ok-counted.ensures c.as_slice-scores.ensures c.score_winner.ensures c.in_ok-push_scores.ensures c.push_winner.ensures
