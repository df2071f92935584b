use Rattle.std.proofs.Common.{◌≡◌, ◌∷◌, take}
use Rattle.goal_rows.proofs.kids.in_front.Given as goal

abbrev pub invariant-loop-x : goal.invariant-loop-x
invariant-loop-x l = l.ranking ≡ l.z ∷ take l.x-index l.suffix
