-- What the head of a ballot file says.
use Rattle.std.specs.Prelude.{ℕ, List, [], ◌∷◌, ◌++◌, ◌==◌, not, length, drop, Option, Some, None, if◌then◌else◌, nat_lt, codes}
use Rattle.std.specs.List.{list_any}
use Rattle.std.specs.Str.{bytes_eq}
use Rattle.ballot_form.specs.declared.limits.TheConstants.{MOST_CANDIDATES}
use Rattle.ballot_form.specs.Names.{is_name}
use Rattle.ballot_csv.specs.OneRecord.{is_empty}
use Rattle.ballot_csv.specs.declared.fault.BallotKind.{BallotKind}
use Rattle.ballot_csv.specs.declared.fault.BallotKind.TheVariants.{BadHead, BadName, NameTwice, NoCandidates, TooManyCandidates}

-- a cell before others, if it or one of them isn't empty
abbrev pub before_filled : List ℕ → List (List ℕ) → List (List ℕ)
before_filled cell [] = if is_empty cell then [] else cell ∷ []
before_filled cell (next ∷ rest) = cell ∷ next ∷ rest

-- cells without the empty ones at the end
unfoldable pub without_empty_end : List (List ℕ) → List (List ℕ)
without_empty_end [] = []
without_empty_end (cell ∷ cells) = before_filled cell (without_empty_end cells)

-- what is wrong with a name after others
abbrev pub name_fault : List (List ℕ) → List ℕ → Option BallotKind
name_fault before cell =
    if is_name cell then (if list_any (bytes_eq cell) before then Some NameTwice else None) else Some BadName

abbrev pub or_later : Option BallotKind → Option BallotKind → Option BallotKind
or_later (Some kind) later = Some kind
or_later None later = later

-- the first fault of the names, after others
abbrev pub names_fault : List (List ℕ) → List (List ℕ) → Option BallotKind
names_fault before [] = None
names_fault before (cell ∷ cells) = or_later (name_fault before cell) (names_fault (before ++ cell ∷ []) cells)

abbrev pub filled_fault : List (List ℕ) → Option BallotKind
filled_fault [] = Some BadHead
filled_fault (first ∷ names) =
    if not (bytes_eq first (codes "ballots")) then Some BadHead
    else if length names == 0 then Some NoCandidates
    else if nat_lt MOST_CANDIDATES (length names) then Some TooManyCandidates
    else names_fault [] names

-- what is wrong with a head
abbrev pub head_fault : List (List ℕ) → Option BallotKind
head_fault cells = filled_fault (without_empty_end cells)

-- the names of the candidates
abbrev pub names_of : List (List ℕ) → List (List ℕ)
names_of cells = drop 1 (without_empty_end cells)
