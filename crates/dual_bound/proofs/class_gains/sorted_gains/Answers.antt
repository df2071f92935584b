use Rattle.std.proofs.lemmas.Int.{to_z-of_z}
use Rattle.dual_bound.specs.Weighing.{cost_by}
use Rattle.dual_bound.proofs.SortedGains.{counted_sorted, grouped_sorted}
use Rattle.dual_bound.proofs.class_gains.sorted_gains.Goals as goal
use mir.Val.{SFits}
use mir.Syntax.{w128}

pub returns-clause-counted : goal.returns-clause-counted
returns-clause-counted c =
    let cost = cost_by c.args.start.now c.args.limits.now c.args.multipliers.now in
    counted_sorted _ cost c.args.start.now.ballots c.args.start.now.classes _ _ c.write_gains.ensures.value c.sort_classes.ensures.same c.requires.start.counted

pub returns-clause-same : goal.returns-clause-same
returns-clause-same c keys same =
    let fits : SFits w128 c.args.best = c.ranges.best in
    let cost = cost_by c.args.start.now c.args.limits.now c.args.multipliers.now in
    let value = simp to_z-of_z at c.write_gains.ensures.value in
    grouped_sorted c.args.best cost c.args.start.now.classes _ _ keys value c.sort_classes.ensures.same same
