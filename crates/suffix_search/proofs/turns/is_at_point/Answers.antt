use Rattle.suffix_search.proofs.WholePoints.{whole_is}
use Rattle.suffix_search.proofs.turns.is_at_point.Goals as goal

pub returns-in-Some : goal.returns-in-Some
returns-in-Some c = whole_is c.args.leaf.now.point c.in-Some.point c.in-Some.is
