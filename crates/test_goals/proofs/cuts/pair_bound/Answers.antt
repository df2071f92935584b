use Rattle.goal_rows.specs.declared.goals.Goal.TheVariants.{Pair}
use Rattle.test_goals.proofs.Grounds.{complete_ground, complete_reached}
use Rattle.test_goals.proofs.cuts.pair_bound.Goals as goal

pub ground-requires-clause-reached : goal.ground-requires-clause-reached
ground-requires-clause-reached g c = complete_reached _ (Pair 1 0) c.in_ok-race.ensures.race (c.is_complete.ensures.0 c.if-not-is_complete.false)

pub bound_in-requires-clause-start : goal.bound_in-requires-clause-start
bound_in-requires-clause-start g c = complete_ground _ _ (Pair 1 0) c.in_ok-race.ensures.race c.in_ok-start.ensures.goal (c.is_complete.ensures.0 c.if-not-is_complete.false) c.in_ok-start.ensures.values
