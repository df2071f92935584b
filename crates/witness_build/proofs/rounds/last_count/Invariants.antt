use Rattle.std.proofs.Common.{◌≡◌, ◌+◌}
use Rattle.irv_count.specs.Orders.{held_count}
use Rattle.witness_build.specs.LastRounds.{last_two}
use Rattle.witness_build.proofs.rounds.last_count.Given as goal

abbrev pub invariant-loop-run : goal.invariant-loop-run
invariant-loop-run l =
    l.count + held_count (last_two l.winner l.loser) l.run-iterator.ballots l.one
    ≡ held_count (last_two l.winner l.loser) l.roll.ballots l.one
