use Rattle.std.proofs.Common.{◌≡◌, ◌++◌, ◌∷◌, get_or}
use Rattle.irv_count.specs.Orders.{stands}
use Rattle.mov_run.specs.Tally.{for_each, held_field}
use Rattle.mov_run.proofs.tally_rounds.push_held.Given as goal

abbrev pub invariant-loop-x : goal.invariant-loop-x
invariant-loop-x l = l.out.items ≡ l.initial.out.items ++ for_each 0 l.x (λ x. 32 ∷ held_field (stands l.standing) (λ y. get_or l.counts y 0) x)
