use Rattle.test_goals.proofs.Grounds.{complete_reached}
use Rattle.test_goals.proofs.goals.complete_text.Goals as goal

pub ground-requires-clause-reached : goal.ground-requires-clause-reached
ground-requires-clause-reached c = complete_reached _ _ c.requires (c.is_complete.ensures.0 c.if-not-is_complete.false)
