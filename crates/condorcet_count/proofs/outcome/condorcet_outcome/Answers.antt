use Rattle.condorcet_count.proofs.Choices.{none_exactly}
use Rattle.condorcet_count.proofs.outcome.condorcet_outcome.Goals as goal

pub returns-clause-none : goal.returns-clause-none
returns-clause-none c = none_exactly _ _ _ c.chosen_in_all.ensures
