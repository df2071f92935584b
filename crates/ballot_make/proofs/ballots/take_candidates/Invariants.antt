use Rattle.std.proofs.Common.{◌≡◌, ◌≤◌, ◌+◌, ◌-◌, ◌*◌, ◌++◌, length}
use Rattle.ballot_make.specs.Made.{candidates_drawn, state_after}
use Rattle.ballot_make.proofs.ballots.take_candidates.Given as goal

abbrev pub invariant-loop-taken : goal.invariant-loop-taken
invariant-loop-taken l = record {
  enough : l.count ≤ l._taken + length l.left.items;
  taken : length l.ballot.items ≡ l._taken;
  ballot : l.ballot.items ++ candidates_drawn l.draws.state l.left.items (l.count - l._taken)
      ≡ candidates_drawn l.fn.draws.state l.fn.left.items l.count;
  state : state_after (2 * (l.count - l._taken)) l.draws.state ≡ state_after (2 * l.count) l.fn.draws.state;
}
