use Rattle.condorcet_count.proofs.Counted.{least_of_behind, prefs_of_behind}
use Rattle.condorcet_count.proofs.matrix.count_pairs.Goals as goal

pub set_prefs-requires-clause-least : goal.set_prefs-requires-clause-least
set_prefs-requires-clause-least c = least_of_behind _ _ c.args.roll.now.ballots _ c.candidates.ensures.value c.count_ballots.ensures

pub returns : goal.returns
returns c = prefs_of_behind _ _ _ _ c.candidates.ensures.value c.count_ballots.ensures c.set_prefs.ensures
