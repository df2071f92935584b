use Rattle.goal_rows.specs.Races.{election_of}
use Rattle.margin_check.proofs.Claims.{met_cover, met_order, met_pair}
use Rattle.margin_check.proofs.claim.text_is_met.Goals as goal

pub returns-in-Order : goal.returns-in-Order
returns-in-Order c = met_order (election_of c.args.race.now) c.in-Order.order c.as_slice.result.now c.args.text.now c.args.altered.now.ballots c.order_is_met.result
    c.in-Order.is c.as_slice.ensures c.order_is_met.ensures

pub returns-in-Pair : goal.returns-in-Pair
returns-in-Pair c = met_pair (election_of c.args.race.now) c.in-Pair.gainer c.in-Pair.loser c.args.text.now c.args.altered.now.ballots c.goal_is_met.result
    c.in-Pair.is c.goal_is_met.ensures

pub returns-in-Cover : goal.returns-in-Cover
returns-in-Cover c = met_cover (election_of c.args.race.now) c.in-Cover.x c.args.text.now c.args.altered.now.ballots c.goal_is_met-in-Cover.result
    c.in-Cover.is c.goal_is_met-in-Cover.ensures
