use Rattle.std.proofs.Common.{◌≡◌, drop}
use Rattle.irv_count.specs.Orders.{member}
use Rattle.goal_rows.proofs.kids.has.Given as goal

abbrev pub invariant-loop-x : goal.invariant-loop-x
invariant-loop-x l = member l.z (drop l.x-index l.candidates) ≡ member l.z l.candidates
