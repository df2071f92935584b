use Rattle.margin_check.proofs.Preorder.{place_is, visits_are}
use Rattle.margin_check.proofs.laws.visits_are_the_nodes_in_preorder.Goals as goal

pub returns-clause-all : goal.returns-clause-all
returns-clause-all c = visits_are

pub returns-clause-first : goal.returns-clause-first
returns-clause-first c = place_is
