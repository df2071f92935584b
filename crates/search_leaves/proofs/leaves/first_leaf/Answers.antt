use Rattle.goal_rows.specs.Races.{election_of}
use Rattle.search_leaves.proofs.RootLeaf.{first_is, root_ceiling, root_is}
use Rattle.search_leaves.proofs.leaves.first_leaf.Goals as goal

pub returns-clause-ceiling : goal.returns-clause-ceiling
returns-clause-ceiling c = root_ceiling (election_of c.args.race.now)

pub returns-clause-node : goal.returns-clause-node
returns-clause-node c = root_is c.in_ok-start.start c.new.result.items c.in_ok-start.ensures.goal c.new.ensures.items

pub returns-clause-leaf : goal.returns-clause-leaf
returns-clause-leaf c p same = first_is p c.in_ok-start.start c.new.result.items c.new-2.result c.in_ok-start.ensures.goal c.new.ensures.items c.new-2.ensures
