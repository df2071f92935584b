use Rattle.std.proofs.Common.{◌≡◌, map, take}
use Rattle.sig_graph.specs.Paths.{ballot_of}
use Rattle.witness_build.proofs.from_points.ballots_of.Given as goal

abbrev pub invariant-loop-path : goal.invariant-loop-path
invariant-loop-path l = l.ballots ≡ map (ballot_of l.suffix) (take l.path-index l.paths)
