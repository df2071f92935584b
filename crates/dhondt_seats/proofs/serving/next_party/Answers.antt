use Rattle.std.proofs.Common.{arith, rules}
use Rattle.dhondt_seats.proofs.Order.{kept, taken}
use Rattle.dhondt_seats.proofs.serving.next_party.Goals as goal
use Rattle.dhondt_seats.proofs.serving.next_party.Goals.{then-is_higher, else-is_higher}

pub loop-a-preserved : goal.loop-a-preserved
loop-a-preserved c = elim c.if-is_higher.branch [
  | then-is_higher w ↦ record {
    party = omega arith;
    within = omega arith;
    first = rw w.best-is (taken _ _ _ _ c.loop-a.invariant.first (c.is_higher.ensures.0 (search rules)));
  }
  | else-is_higher w ↦ record {
    party = omega arith;
    within = omega arith;
    first = rw w.best-is (kept _ _ _ _ c.loop-a.invariant.first c.loop-a.invariant.party (λ more. absurd (let yes = c.is_higher.ensures.1 more in let no = w.if-is_higher.false in grind arith)));
  }
]
