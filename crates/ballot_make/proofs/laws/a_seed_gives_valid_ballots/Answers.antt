use Rattle.ballot_make.proofs.ValidBallots.{all_valid, first_drawn, length_drawn}
use Rattle.ballot_make.proofs.laws.a_seed_gives_valid_ballots.Goals as goal

pub returns-clause-number : goal.returns-clause-number
returns-clause-number c = length_drawn

pub returns-clause-valid : goal.returns-clause-valid
returns-clause-valid c = all_valid

pub returns-clause-first : goal.returns-clause-first
returns-clause-first c = first_drawn
