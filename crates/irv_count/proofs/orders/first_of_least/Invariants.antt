use Rattle.std.proofs.Common.{get_or}
use Rattle.irv_count.specs.Rounds.{IsBest}
use Rattle.irv_count.proofs.orders.first_of_least.Given as goal

abbrev pub invariant-loop-x : goal.invariant-loop-x
invariant-loop-x l = IsBest l.against (λ x. get_or l.counts x 0) l.standing l.x l.best
