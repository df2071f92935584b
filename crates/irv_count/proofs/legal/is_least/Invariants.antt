use Rattle.std.proofs.Common.{get_or}
use Rattle.irv_count.specs.Rounds.{IsLeast}
use Rattle.irv_count.proofs.legal.is_least.Given as goal

abbrev pub invariant-loop-y : goal.invariant-loop-y
invariant-loop-y l = IsLeast (λ x. get_or l.counts x 0) l.standing l.y l.out
