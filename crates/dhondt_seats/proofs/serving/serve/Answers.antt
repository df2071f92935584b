use Rattle.std.proofs.Common.{arith}
use Rattle.dhondt_seats.proofs.Counting.{place_le_sum, sum_set}
use Rattle.dhondt_seats.proofs.Order.{served_more}
use Rattle.dhondt_seats.proofs.serving.serve.Goals as goal

pub overflow_add-shares : goal.overflow_add-shares
overflow_add-shares c = omega (arith, place_le_sum c.args.shares.now c.next_party-party.result)

pub returns-clause-served : goal.returns-clause-served
returns-clause-served c = served_more _ _ _ c.next_party-party.ensures c.requires.served

pub returns-clause-one : goal.returns-clause-one
returns-clause-one c = sum_set _ _ (omega (arith, c.next_party-party.ensures.party, c.requires.served.parties))
