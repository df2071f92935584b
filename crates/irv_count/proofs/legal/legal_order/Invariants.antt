use Rattle.std.proofs.Common.{◌≡◌, length}
use Rattle.irv_count.specs.Rounds.{IsLegalTo}
use Rattle.irv_count.proofs.legal.legal_order.Given as goal

abbrev pub invariant-loop-i : goal.invariant-loop-i
invariant-loop-i l = record {
  to : IsLegalTo l.roll l.order l.standing l.i;
  counts : length l.counts ≡ l.roll.c;
}
