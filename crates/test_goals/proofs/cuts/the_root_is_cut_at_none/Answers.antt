use Rattle.test_goals.proofs.Grounds.{root_ground}
use Rattle.test_goals.proofs.cuts.the_root_is_cut_at_none.Goals as goal

pub bound_of-requires-clause-start : goal.bound_of-requires-clause-start
bound_of-requires-clause-start g c = root_ground _ _ c.in_ok-race.ensures.race c.in_ok-start.ensures.goal c.in_ok-start.ensures.values

pub cuts-requires-clause-start : goal.cuts-requires-clause-start
cuts-requires-clause-start g c = root_ground _ _ c.in_ok-race.ensures.race c.in_ok-start.ensures.goal c.in_ok-start.ensures.values
