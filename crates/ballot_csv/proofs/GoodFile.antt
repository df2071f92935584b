-- A file without a fault.
use Rattle.std.proofs.Common.{ℕ, List, [], ◌++◌, ◌≡◌, Ok, None, ap, length, refl}
use Rattle.std.specs.List.{flat_map}
use Rattle.ballot_form.specs.Ballots.{Poll}
use Rattle.ballot_csv.specs.BallotFile.{NamedPoll, contest_of, file_fault, records_fault, unless_fault}
use Rattle.ballot_csv.specs.HeadRecord.{head_fault, names_of}
use Rattle.ballot_csv.specs.OneRecord.{ballots_of}

-- a good head, and good records below it that were read onto an empty roll
pub all_good : (head : List (List ℕ)) (rest : List (List (List ℕ))) (names index : List (List ℕ)) (old new : Poll) (size : ℕ) → head_fault head ≡ None
    → names ≡ names_of head → index ≡ names_of head → size ≡ length names → old ≡ record { c = size; ballots = [] } → records_fault index 2 (length old.ballots) rest ≡ None
    → new.ballots ≡ old.ballots ++ flat_map (ballots_of index) rest → new.c ≡ old.c → unless_fault (file_fault head rest) (contest_of head rest) ≡ Ok (record { names = names; poll = new })
all_good head rest names index old new size good names_are index_is count empty fine added same =
    let none = rw (index_is, empty) at fine in
    let rows = rw (index_is, empty) at added in
    let c = rw (empty, count, names_are) at same in
    rw (good, none, names_are) (ap Ok (made (names_of head) new (flat_map (ballots_of (names_of head)) rest) rows c))
  where
    made : (ns : List (List ℕ)) (p : Poll) (all : List (List ℕ)) → p.ballots ≡ all → p.c ≡ length ns
        → ◌≡◌ {A = NamedPoll} (record { names = ns; poll = record { c = length ns; ballots = all } }) (record { names = ns; poll = p })
    made ns p all rows c = rw (← rows, ← c) refl
