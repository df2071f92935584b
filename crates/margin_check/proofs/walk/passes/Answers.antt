use Rattle.goal_rows.specs.Races.{election_of}
use Rattle.margin_check.proofs.Passing.{limits_alike, room_for}
use Rattle.margin_check.proofs.walk.passes.Goals as goal

pub cuts-requires-clause-limits : goal.cuts-requires-clause-limits
cuts-requires-clause-limits c e is = limits_alike (election_of c.args.race.now) e c.args.start.now c.args.limits.now c.requires.start is c.requires.limits

pub cuts-requires-clause-room : goal.cuts-requires-clause-room
cuts-requires-clause-room c = room_for c.args.race.now c.args.start.now c.args.scratch.now c.requires.race c.requires.start c.requires.room
