use Rattle.condorcet_count.proofs.Cells.{more_at}
use Rattle.condorcet_count.proofs.ballots.count_pair.Goals as goal

pub returns : goal.returns
returns c = λ x y xc yc. more_at _ _ _ _ x y _ c.requires.first c.requires.second xc yc c.requires.square
