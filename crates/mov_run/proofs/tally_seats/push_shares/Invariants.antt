use Rattle.std.proofs.Common.{◌≡◌, ◌++◌, get_or}
use Rattle.mov_run.specs.Tally.{seats_text}
use Rattle.mov_run.proofs.tally_seats.push_shares.Given as goal

abbrev pub invariant-loop-a : goal.invariant-loop-a
invariant-loop-a l = l.out.items ≡ l.initial.out.items ++ seats_text l.a (λ b. get_or l.votes b 0) (λ b. get_or l.shares b 0)
