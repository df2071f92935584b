use Rattle.std.proofs.Common.{◌≡◌, ◌≤◌, ◌*◌, take}
use Rattle.dhondt_seats.specs.Seats.{seats_in_all}
use Rattle.dhondt_seats.proofs.allocation.given.Given as goal

abbrev pub invariant-loop-share : goal.invariant-loop-share
invariant-loop-share l = record {
  sum : l.sum ≡ seats_in_all (take l.share-index l.shares);
  small : l.sum ≤ 65535 * l.share-index;
}
