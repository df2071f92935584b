use Rattle.std.proofs.Common.{◌≤◌, refl, subst, sym}
use Rattle.bound_tree.specs.Nodes.{size}
use Rattle.bound_tree.specs.Plain.{plain_of}
use Rattle.bound_tree.specs.declared.bound.TheConstants.{MOST_NODES}
use Rattle.goal_rows.specs.Nodes.{node_of}
use Rattle.goal_rows.specs.Races.{election_of}
use Rattle.margin_check.specs.Walks.{Gives}
use Rattle.margin_check.proofs.Judging.{stopped_few}
use Rattle.margin_check.proofs.Nodes.{if_ok}
use Rattle.margin_check.proofs.judge.walk_tree.Goals as goal

pub returns-clause-few : goal.returns-clause-few
returns-clause-few c =
    let few : size (plain_of c.at.result.now) ≤ MOST_NODES = subst (λ tree. size tree ≤ MOST_NODES) (sym (c.at.ensures.top refl)) c.nodes.ensures.few in
    if_ok c.walk.result
    (λ end ends. stopped_few (Gives (election_of c.args.race.now) c.args.asked) (election_of c.args.race.now) (node_of c.in_ok-start.start c.new-limits.result.items) (plain_of c.at.result.now) end few ends)
    c.walk.ensures.end
