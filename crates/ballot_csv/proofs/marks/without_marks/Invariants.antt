use Rattle.std.proofs.Common.{◌≡◌, length}
use Rattle.ballot_csv.specs.Marks as spec
use Rattle.ballot_csv.proofs.marks.without_marks.Given as goal

abbrev pub invariant-loop-rest : goal.invariant-loop-rest
invariant-loop-rest l = spec.without_marks l.rest ≡ spec.without_marks l.bytes

abbrev pub decreases-loop-rest : goal.decreases-loop-rest
decreases-loop-rest l = length l.rest
