use Rattle.std.proofs.Common.{arith, refl}
use Rattle.dhondt_seats.proofs.Shares.{fair_by_next}
use Rattle.dhondt_seats.proofs.allocation.is_fair.Goals as goal

pub returns : goal.returns
returns c = (λ _. fair_by_next _ _ _ c.next_party-next.ensures (λ a lt. c.loop-a.invariant a (omega arith)), λ _. refl)
