-- What a record below the head says, where the head has these names.
use Rattle.std.specs.Prelude.{ℕ, List, [], ◌∷◌, ◌++◌, ◌+◌, ◌==◌, ◌&&◌, Bool, not, length, Option, Some, None, is_none, unwrap_or, if◌then◌else◌, filter, position, replicate, nat_lt}
use Rattle.std.specs.List.{filter_map, list_all, list_any}
use Rattle.std.specs.Str.{bytes_eq}
use Rattle.text_lines.specs.Numbers.{number_of}
use Rattle.ballot_form.specs.declared.limits.TheConstants.{MOST_BALLOTS}
use Rattle.ballot_csv.specs.declared.fault.BallotKind.{BallotKind}
use Rattle.ballot_csv.specs.declared.fault.BallotKind.TheVariants.{BadCount, TooManyBallots, UnknownName}

abbrev pub is_empty : List ℕ → Bool
is_empty cell = length cell == 0

-- the number of the candidate whose name a cell is
abbrev pub candidate_named : List (List ℕ) → List ℕ → Option ℕ
candidate_named names cell = position (bytes_eq cell) names

-- a cell that isn't empty and no candidate's name
abbrev pub is_unknown : List (List ℕ) → List ℕ → Bool
is_unknown names cell = not (is_empty cell) && is_none (candidate_named names cell)

-- the candidate that a cell stands for, if it isn't empty
abbrev pub candidate_of : List (List ℕ) → List ℕ → Option ℕ
candidate_of names cell = if is_empty cell then None else candidate_named names cell

-- each number of a list where it stands first
abbrev pub without_repeats : List ℕ → List ℕ
without_repeats [] = []
without_repeats (x ∷ xs) = x ∷ filter (λ y. not (y == x)) (without_repeats xs)

-- the candidates that cells stand for, each where it stands first
abbrev pub ballot_of : List (List ℕ) → List (List ℕ) → List ℕ
ballot_of names cells = without_repeats (filter_map (candidate_of names) cells)

-- a ballot with one candidate more, if there is one that isn't on it yet
abbrev pub with_candidate : List ℕ → Option ℕ → List ℕ
with_candidate ballot None = ballot
with_candidate ballot (Some x) = if list_any (λ y. y == x) ballot then ballot else ballot ++ x ∷ []

abbrev pub count_fault : List (List ℕ) → ℕ → Option ℕ → List (List ℕ) → Option BallotKind
count_fault names before None cells = Some BadCount
count_fault names before (Some n) cells =
    if list_any (is_unknown names) cells then Some UnknownName
    else if nat_lt MOST_BALLOTS (before + n) then Some TooManyBallots
    else None

-- what is wrong with a record that so many ballots stand before
abbrev pub record_fault : List (List ℕ) → ℕ → List (List ℕ) → Option BallotKind
record_fault names before [] = None
record_fault names before (count ∷ cells) =
    if list_all is_empty (count ∷ cells) then None else count_fault names before (number_of count) cells

-- the ballots that a record adds
abbrev pub ballots_of : List (List ℕ) → List (List ℕ) → List (List ℕ)
ballots_of names [] = []
ballots_of names (count ∷ cells) =
    if list_all is_empty (count ∷ cells) then [] else replicate (unwrap_or (number_of count) 0) (ballot_of names cells)
