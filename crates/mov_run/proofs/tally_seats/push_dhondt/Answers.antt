use Rattle.mov_run.proofs.TallySeats.{seats_added}
use Rattle.mov_run.proofs.tally_seats.push_dhondt.Goals as goal

pub returns : goal.returns
returns c =
    seats_added _ _ _ _ _ _ _ _ _ c.push_seats.result c.in_ok-counted.ensures.parties c.in_ok-counted.ensures.votes c.as_slice-votes.ensures c.in_ok-served.ensures.reported c.as_slice-shares.ensures
    c.in_ok-push_shares.ensures c.push_seats.ensures
