use Rattle.goal_rows.proofs.SeatMoves.{another_where_gained}
use Rattle.goal_rows.proofs.laws.other_seats_are_admitted_where_a_party_gains.Goals as goal

pub returns : goal.returns
returns c = another_where_gained
