use Rattle.std.proofs.Common.{◌≡◌}
use Rattle.dhondt_seats.specs.Seats.{seats_in_all}
use Rattle.dhondt_seats.specs.Serving.{IsServed}
use Rattle.dhondt_seats.proofs.serving.serve_all.Given as goal

abbrev pub invariant-loop : goal.invariant-loop
invariant-loop l = record {
  served : IsServed l.votes l.shares;
  all : seats_in_all l.shares ≡ l.counter;
}
