use Rattle.std.proofs.Common.{◌≡◌, ◌++◌, take}
use Rattle.alteration_model.specs.Faults.{pairs_of}
use Rattle.witness_build.specs.LastRounds.{cuts_from}
use Rattle.witness_build.proofs.rounds.first_cuts.Given as goal

abbrev pub invariant-loop-run : goal.invariant-loop-run
invariant-loop-run l =
    pairs_of l.puts.items ++ take l.left (cuts_from l.winner l.loser l.run-iterator.first l.run-iterator.ballots)
    ≡ take l.most (cuts_from l.winner l.loser 1 l.roll.ballots)
