use Rattle.std.proofs.Common.{◌≡◌, take}
use Rattle.sig_graph.specs.Paths.{ballot_of}
use Rattle.sig_graph.proofs.ballots.path_ballot.Given as goal

abbrev pub invariant-loop-place : goal.invariant-loop-place
invariant-loop-place l = l.ballot ≡ ballot_of l.suffix (take l.place-index l.path)
