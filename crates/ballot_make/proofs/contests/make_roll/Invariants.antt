use Rattle.std.proofs.Common.{◌≡◌, ◌-◌, ◌++◌, length}
use Rattle.ballot_make.specs.Made.{ballots_drawn}
use Rattle.ballot_make.proofs.contests.make_roll.Given as goal

abbrev pub invariant-loop-made : goal.invariant-loop-made
invariant-loop-made l = record {
  candidates : l.roll.c ≡ l.c;
  made : length l.roll.ballots ≡ l._made;
  ballots : l.roll.ballots ++ ballots_drawn l.c (l.n - l._made) l.draws.state ≡ ballots_drawn l.c l.n l.fn.seed;
}
