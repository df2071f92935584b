use Rattle.std.proofs.Common.{◌<◌, length}
use Rattle.dhondt_seats.proofs.Order.{IsFirst}
use Rattle.dhondt_seats.proofs.serving.next_party.Given as goal

abbrev pub invariant-loop-a : goal.invariant-loop-a
invariant-loop-a l = record {
  party : l.best < l.a;
  within : l.best < length l.votes;
  first : IsFirst l.votes l.shares l.best l.a;
}
