use Rattle.std.proofs.Common.{◌≡◌, ◌++◌, drop}
use Rattle.witness_build.specs.LastRounds.{cut_at}
use Rattle.witness_build.proofs.rounds.cut.Given as goal

abbrev pub invariant-loop-y : goal.invariant-loop-y
invariant-loop-y l = l.ballot ++ cut_at l.winner l.loser (drop l.y-index l.row) ≡ cut_at l.winner l.loser l.row
