use Rattle.std.proofs.Common.{◌≡◌, length}
use Rattle.irv_count.specs.Orders.{AreHeld}
use Rattle.irv_count.specs.Rounds.{IsPart}
use Rattle.irv_count.proofs.orders.order_by.Given as goal

abbrev pub invariant-loop-i : goal.invariant-loop-i
invariant-loop-i l = record {
  part : IsPart l.against l.roll l.order l.standing;
  long : length l.order ≡ l.i;
  held : AreHeld l.roll l.order l.held;
}
