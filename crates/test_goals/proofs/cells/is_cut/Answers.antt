use Rattle.std.proofs.Common.{◌∙◌, sym, arith}
use Rattle.goal_rows.specs.declared.goals.Goal.TheVariants.{Cover}
use Rattle.test_goals.proofs.CellLimits.{three_limits}
use Rattle.test_goals.proofs.Grounds.{complete_ground, complete_reached}
use Rattle.test_goals.proofs.cells.is_cut.Goals as goal

pub ground-requires-clause-reached : goal.ground-requires-clause-reached
ground-requires-clause-reached g c = complete_reached _ (Cover 0) c.in_ok-race.ensures.race (c.is_complete.ensures.0 c.if-not-is_complete.false)

pub is_cut_by-requires-clause-start : goal.is_cut_by-requires-clause-start
is_cut_by-requires-clause-start g c = complete_ground _ _ (Cover 0) c.in_ok-race.ensures.race c.in_ok-start.ensures.goal (c.is_complete.ensures.0 c.if-not-is_complete.false) c.in_ok-start.ensures.values

pub is_cut_by-requires-clause-limits : goal.is_cut_by-requires-clause-limits
is_cut_by-requires-clause-limits g c e is =
    three_limits e c.in_ok-start.start c.limit_on.result c.args.middle c.limit_on-2.result is c.in_ok-start.ensures.goal (sym c.len.ensures ∙ c.if-len-ne2.false) c.limit_on.ensures.key
    (omega (arith, c.limit_on.ensures.value)) c.requires.key c.requires.small c.limit_on-2.ensures.key (omega (arith, c.limit_on-2.ensures.value))
