use Rattle.std.proofs.Common.{◌≡◌}
use Rattle.ballot_make.specs.Made.{names_made}
use Rattle.ballot_make.proofs.names.make_names.Given as goal

abbrev pub invariant-loop-x : goal.invariant-loop-x
invariant-loop-x l = l.names ≡ names_made l.x
