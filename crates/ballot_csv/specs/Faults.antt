-- Faults of a ballot file, and what is told of each.
use Rattle.std.specs.Prelude.{⊤, ℕ, List, codes}
use Rattle.ballot_csv.specs.declared.fault.BallotKind.{BallotKind}
use Rattle.ballot_csv.specs.declared.fault.BallotKind.TheVariants.{Empty, BadHead, NoCandidates, TooManyCandidates, BadName, NameTwice, BadCount, UnknownName, TooManyBallots, Memory}

-- what is said of a kind of fault
abbrev pub ballot_kind_text : BallotKind → List ℕ
ballot_kind_text Empty = codes "empty"
ballot_kind_text BadHead = codes "bad head"
ballot_kind_text NoCandidates = codes "no candidates"
ballot_kind_text TooManyCandidates = codes "too many candidates"
ballot_kind_text BadName = codes "bad name"
ballot_kind_text NameTwice = codes "name twice"
ballot_kind_text BadCount = codes "bad count"
ballot_kind_text UnknownName = codes "unknown name"
ballot_kind_text TooManyBallots = codes "too many ballots"
ballot_kind_text Memory = codes "out of memory"

-- a fact of each kind but want of memory
abbrev pub OrMemory : BallotKind → Type 0 → Type 0
OrMemory Memory P = ⊤
OrMemory _ P = P
