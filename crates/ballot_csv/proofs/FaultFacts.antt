-- Facts of each kind but want of memory.
use Rattle.ballot_csv.specs.declared.fault.BallotKind.{BallotKind}
use Rattle.ballot_csv.specs.declared.fault.BallotKind.TheVariants.{Empty, BadHead, NoCandidates, TooManyCandidates, BadName, NameTwice, BadCount, UnknownName, TooManyBallots, Memory}
use Rattle.ballot_csv.specs.Faults.{OrMemory}

pub or_memory : (kind : BallotKind) {P Q : Type 0} → (P → Q) → OrMemory kind P → OrMemory kind Q
or_memory Empty f h = f h
or_memory BadHead f h = f h
or_memory NoCandidates f h = f h
or_memory TooManyCandidates f h = f h
or_memory BadName f h = f h
or_memory NameTwice f h = f h
or_memory BadCount f h = f h
or_memory UnknownName f h = f h
or_memory TooManyBallots f h = f h
or_memory Memory f h = h
