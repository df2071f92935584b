-- What a ballot file says: the names and the ballots of a contest, or its first fault.
use Rattle.std.specs.Prelude.{ℕ, List, [], ◌∷◌, ◌+◌, ◌≡◌, ◌≤◌, length, Result, Ok, Err, Option, Some, None, MatchResult}
use Rattle.std.specs.List.{flat_map}
use Rattle.csv.specs.Reading.{default_config, records}
use Rattle.ballot_form.specs.Ballots.{Poll}
use Rattle.ballot_form.specs.declared.contest.Contest.{Contest}
use Rattle.ballot_csv.specs.declared.fault.BallotFault.{BallotFault}
use Rattle.ballot_csv.specs.declared.fault.BallotKind.{BallotKind}
use Rattle.ballot_csv.specs.declared.fault.BallotKind.TheVariants.{Empty}
use Rattle.ballot_csv.specs.declared.limits.TheConstants.{LONGEST_FILE}
use Rattle.ballot_csv.specs.Faults.{OrMemory}
use Rattle.ballot_csv.specs.HeadRecord.{head_fault, names_of}
use Rattle.ballot_csv.specs.Marks.{without_marks}
use Rattle.ballot_csv.specs.OneRecord.{ballots_of, record_fault}

-- the candidates' names, in the order of their numbers, and the ballots
pub record NamedPoll : Type 0 where
  pub names : List (List ℕ)
  pub poll : Poll

-- the names and the ballots of a contest
abbrev pub named_poll_of : Contest → NamedPoll
named_poll_of contest = record { names = contest.names; poll = contest.roll }

-- the fault of the record with this number, or else a later one
abbrev pub or_after : Option BallotKind → ℕ → Option BallotFault → Option BallotFault
or_after None at later = later
or_after (Some kind) at later = Some (record { kind = kind; at = at })

-- the first fault of the records from number `at` on, before which so many ballots stand
abbrev pub records_fault : List (List ℕ) → ℕ → ℕ → List (List (List ℕ)) → Option BallotFault
records_fault names at before [] = None
records_fault names at before (cells ∷ rest) =
    or_after (record_fault names before cells) at
    (records_fault names (at + 1) (before + length (ballots_of names cells)) rest)

-- the first fault of a head and of the records below it
abbrev pub file_fault : List (List ℕ) → List (List (List ℕ)) → Option BallotFault
file_fault head rest = or_after (head_fault head) 1 (records_fault (names_of head) 2 0 rest)

-- the names of a head, and the ballots that the records below it add
abbrev pub contest_of : List (List ℕ) → List (List (List ℕ)) → NamedPoll
contest_of head rest = record {
  names = names_of head;
  poll = record { c = length (names_of head); ballots = flat_map (ballots_of (names_of head)) rest };
}

-- a contest, if nothing is wrong
abbrev pub unless_fault : Option BallotFault → NamedPoll → Result NamedPoll BallotFault
unless_fault None contest = Ok contest
unless_fault (Some fault) contest = Err fault

-- what the records of a ballot file say, of which the first is the head
abbrev pub read_records : List (List (List ℕ)) → Result NamedPoll BallotFault
read_records [] = Err (record { kind = Empty; at = 1 })
read_records (head ∷ rest) = unless_fault (file_fault head rest) (contest_of head rest)

-- what the bytes of a ballot file say
unfoldable pub read_of : List ℕ → Result NamedPoll BallotFault
read_of bytes = read_records (records default_config (without_marks bytes))

-- the bytes are a ballot file of this contest
abbrev pub IsRead : List ℕ → Contest → Type 0
IsRead bytes contest = read_of bytes ≡ Ok (named_poll_of contest)

-- a ballot file that a command takes: not too long, and of this contest
abbrev pub IsAccepted : List ℕ → NamedPoll → Type 0
IsAccepted bytes k = (length bytes ≤ LONGEST_FILE) × (read_of bytes ≡ Ok k)

-- a ballot file that is refused for what it says: not too long, and with this fault first
abbrev pub IsFaulty : List ℕ → BallotFault → Type 0
IsFaulty bytes fault = (length bytes ≤ LONGEST_FILE) × (read_of bytes ≡ Err fault)

-- the contest or the fault is what is said, unless memory ran out
abbrev pub ReadsContest : Result Contest BallotFault → Result NamedPoll BallotFault → Type 0
ReadsContest result said =
    MatchResult result (λ contest. said ≡ Ok (named_poll_of contest)) (λ fault. OrMemory fault.kind (said ≡ Err fault))
