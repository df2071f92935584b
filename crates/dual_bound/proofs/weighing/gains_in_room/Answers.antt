use Rattle.std.proofs.lemmas.Int.{to_z-of_z}
use Rattle.dual_bound.proofs.weighing.gains_in_room.Goals as goal
use mir.Val.{SFits}
use mir.Syntax.{w128}

pub returns-clause-same : goal.returns-clause-same
returns-clause-same c keys same =
    let fits : SFits w128 c.args.best = c.ranges.best in
    simp to_z-of_z at (c.sorted_gains.ensures.same keys same)
