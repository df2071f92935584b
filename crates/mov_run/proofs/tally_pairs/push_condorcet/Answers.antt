use Rattle.mov_run.proofs.TallyPairs.{pairs_added}
use Rattle.mov_run.proofs.tally_pairs.push_condorcet.Goals as goal

pub returns : goal.returns
returns c =
    pairs_added _ _ c.condorcet_outcome.result _ _ _ c.push_outcome.result c.in_ok-matrix.ensures (c.condorcet_outcome.ensures.reported_of_roll _ c.in_ok-matrix.ensures)
    c.in_ok-push_pairs.ensures c.push_outcome.ensures
