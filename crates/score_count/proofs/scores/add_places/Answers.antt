use Rattle.score_count.proofs.Points.{room_of_run}
use Rattle.score_count.proofs.scores.add_places.Goals as goal

pub give_by_place-requires-clause-room : goal.give_by_place-requires-clause-room
give_by_place-requires-clause-room c x within =
    room_of_run c.args.roll.now _ _ _ _ x _ c.candidates-c.ensures.poll c.candidates-c.ensures.value c.in-Some.ensures.steps
    (c.loop-run.invariant.counted x within)
