use Rattle.std.proofs.Common.{Some, ◌-◌, get_or, length, refl, subst, sym}
use Rattle.ballot_form.specs.Alterations.{IsAlteration}
use Rattle.irv_count.specs.Orders.{IsOrderBy}
use Rattle.goal_rows.specs.Races.{election_of}
use Rattle.goal_rows.specs.declared.goals.Goal.TheVariants.{Suffix}
use Rattle.witness_build.specs.LastRounds.{IsLastRoundWitness}
use Rattle.witness_build.proofs.TurnedRounds.{last_are_two, last_cuts_alter, last_met, last_round_at}
use Rattle.witness_build.proofs.rounds.last_round.Goals as goal

pub last_cuts-requires-clause-loser : goal.last_cuts-requires-clause-loser
last_cuts-requires-clause-loser c =
    let p = c.args.race.now.roll.now in
    let last = last_round_at p c.in_ok-order.order c.as_slice-places.result.now c.in_ok-order.ensures c.as_slice-places.ensures.value c.requires.others in
    (last_are_two p _ _ last).loser

pub apply-requires : goal.apply-requires
apply-requires c =
    let p = c.args.race.now.roll.now in
    let last = last_round_at p c.in_ok-order.order c.as_slice-places.result.now c.in_ok-order.ensures c.as_slice-places.ensures.value c.requires.others in
    subst (IsAlteration p) (sym c.in_ok-changes.ensures) (last_cuts_alter p _ _ c.requires.race.election.poll (last_are_two p _ _ last).loser)

witness_is : (c : goal.After-drop-order-inside-2) → IsLastRoundWitness (election_of c.args.race.now) (Suffix c.in_ok-against.against) c.in_ok-changes.changes
witness_is c =
    let places = c.as_slice-places.result.now in
    let x = get_or places (length places - 1) 0 in
    record {
      r = get_or places (length places - 2) 0;
      x = x;
      last = last_round_at c.args.race.now.roll.now c.in_ok-order.order places c.in_ok-order.ensures c.as_slice-places.ensures.value c.requires.others;
      cuts = c.in_ok-changes.ensures;
      against = c.in_ok-against.against;
      order = subst (λ p. IsOrderBy (Some x) p c.in_ok-against.against) c.in_ok-altered.ensures c.in_ok-against.ensures;
      suffix = refl;
    }

pub returns-clause-last : goal.returns-clause-last
returns-clause-last c = witness_is c

pub returns-clause-met : goal.returns-clause-met
returns-clause-met c =
    last_met (election_of c.args.race.now) (Suffix c.in_ok-against.against) c.in_ok-changes.changes c.requires.race.election c.requires.own c.requires.rule (witness_is c)
