-- The plain form of a contest is read as that contest.
use Rattle.std.proofs.Common.{ℕ, List, [], ◌∷◌, ◌++◌, ◌≡◌, ◌∙◌, ◌+◌, ◌<◌, ◌≤◌, refl, sym, ap, subst, false, true, All, None, length, arith, inl, inr, map, replicate, append_assoc, length-append, get_or}
use Rattle.std.specs.Prelude.{◌==◌, ◌≢◌, ⊤, AllPairs, Ok, codes, nat_lt}
use Rattle.std.specs.List.{list_any}
use Rattle.std.specs.Str.{bytes_eq}
use Rattle.std.proofs.Math.Seq.{get_or-append_seam}
use Rattle.std.proofs.lemmas.Bool.{cases_Bool}
use Rattle.std.proofs.lemmas.Bool.Decides.{nat_tests}
use Rattle.std.proofs.lemmas.List.{get_or_append_left, length-replicate}
use Rattle.std.proofs.lemmas.List.Elements.{All-cons, All-nil}
use Rattle.std.proofs.lemmas.List.Folds.{list_any_none}
use Rattle.std.proofs.lemmas.Option.{unwrap_or-slice_get}
use Rattle.csv.specs.Reading.{default_config, records}
use Rattle.csv.specs.Writing.{fields_text}
use Rattle.ballot_form.specs.Ballots.{IsPoll, IsValidBallot}
use Rattle.ballot_form.specs.Names.{is_name}
use Rattle.ballot_form.specs.declared.limits.TheConstants.{MOST_BALLOTS, MOST_CANDIDATES}
use Rattle.ballot_csv.specs.BallotFile.{NamedPoll, read_of, read_records}
use Rattle.ballot_csv.specs.HeadRecord.{head_fault, names_fault, names_of, without_empty_end}
use Rattle.ballot_csv.specs.Marks.{without_marks}
use Rattle.ballot_csv.specs.OneRecord.{is_empty}
use Rattle.ballot_csv.specs.PlainForm.{name_at, plain_form, plain_records, record_of, run_records, runs_of, text_of_records, with_ballot}
use Rattle.ballot_csv.proofs.Back.{HasCells, records_back}
use Rattle.ballot_csv.proofs.NameFacts.{bytes_differ, place_of_name}
use Rattle.ballot_csv.proofs.Reread.{IsNamed, IsReadable, Writable, first_all, rest_all, rows_back, rows_good, runs_back, spread}

-- what stands after others is none of them
fresh : {X : Type 0} (before : List X) (x : X) (rest : List X) → AllPairs (λ a b. a ≢ b) (before ++ x ∷ rest) → (k : ℕ) (d : X) → k < length before → get_or before k d ≢ x
fresh before x rest apart k d within same =
    let size = length-append before (x ∷ rest) in
    apart k (length before) d within (omega (arith, size)) (get_or_append_left before (x ∷ rest) d k within ∙ same ∙ sym (get_or-append_seam before x rest d))

-- the same list, one item on
one_on : {X : Type 0} (before : List X) (x : X) (rest : List X) → AllPairs (λ a b. a ≢ b) (before ++ x ∷ rest) → AllPairs (λ a b. a ≢ b) ((before ++ x ∷ []) ++ rest)
one_on {X} before x rest apart = subst (λ (xs : List X). AllPairs (λ a b. a ≢ b) xs) (sym (append_assoc before (x ∷ []) rest)) apart

-- admitted and distinct names have no fault
no_fault : (before cells : List (List ℕ)) → All (λ name. is_name name ≡ true) cells → AllPairs (λ a b. a ≢ b) (before ++ cells) → names_fault before cells ≡ None
no_fault before [] good apart = refl
no_fault before (cell ∷ cells) good apart =
    let new : list_any (bytes_eq cell) before ≡ false = list_any_none (bytes_eq cell) before (λ k d within. bytes_differ cell (get_or before k d) (fresh before cell cells apart k d within)) in
    rw (first_all (λ name. is_name name ≡ true) cell cells good, new)
    (no_fault (before ++ cell ∷ []) cells (rest_all (λ name. is_name name ≡ true) cell cells good) (one_on before cell cells apart))

name_filled : (name : List ℕ) → is_name name ≡ true → is_empty name ≡ false
name_filled [] good = cc good
name_filled (b ∷ bs) good = grind (arith, nat_tests)

filled_all : (cells : List (List ℕ)) → All (λ cell. is_empty cell ≡ false) cells → without_empty_end cells ≡ cells
unfolding without_empty_end
filled_all [] filled = refl
filled_all (cell ∷ []) filled = rw (first_all (λ c. is_empty c ≡ false) cell [] filled) refl
filled_all (cell ∷ next ∷ cells) filled = rw (filled_all (next ∷ cells) (rest_all (λ c. is_empty c ≡ false) cell (next ∷ cells) filled)) refl

-- the name of a candidate is found at its place
named : (names : List (List ℕ)) (x : ℕ) → All (λ name. is_name name ≡ true) names → AllPairs (λ a b. a ≢ b) names → x < length names → IsNamed names x
named names x good apart within =
    let is : name_at names x ≡ get_or names x [] = unwrap_or-slice_get names x [] in
    record {
      filled = rw is (name_filled (get_or names x []) (good x [] within));
      found = rw is (place_of_name names (get_or names x []) x [] apart within refl);
    }

-- a valid ballot is read as it
readable : (names : List (List ℕ)) (c : ℕ) (ballot : List ℕ) → length names ≡ c → All (λ name. is_name name ≡ true) names → AllPairs (λ a b. a ≢ b) names
    → IsValidBallot c ballot → IsReadable names ballot
readable names c ballot one good apart valid = record {
  named = λ k d within. named names (get_or ballot k d) good apart (rw one (valid.below k d within));
  distinct = valid.distinct;
}

-- each run has a ballot that is read as it
abbrev RunsReadable : List (List ℕ) → List (ℕ × List ℕ) → Type 0
RunsReadable names [] = ⊤
RunsReadable names (run ∷ runs) = IsReadable names run.1 × RunsReadable names runs

with_readable : (names : List (List ℕ)) (ballot : List ℕ) (runs : List (ℕ × List ℕ)) → IsReadable names ballot → RunsReadable names runs
    → RunsReadable names (with_ballot ballot runs)
with_readable names ballot [] here all = (here, tt)
with_readable names ballot (run ∷ runs) here all = elim (cases_Bool (bytes_eq ballot run.1)) [
  | inl same ↦ rw same all
  | inr other ↦ rw other (here, all)
]

runs_readable : (names ballots : List (List ℕ)) → All (IsReadable names) ballots → RunsReadable names (runs_of ballots)
runs_readable names [] all = tt
runs_readable names (ballot ∷ ballots) all =
    with_readable names ballot (runs_of ballots) (first_all (IsReadable names) ballot ballots all) (runs_readable names ballots (rest_all (IsReadable names) ballot ballots all))

writable : (names : List (List ℕ)) (before : ℕ) (runs : List (ℕ × List ℕ)) → RunsReadable names runs → before + length (spread runs) ≤ MOST_BALLOTS → Writable names before runs
writable names before [] all few = tt
writable names before (run ∷ runs) all few =
    let size = length-append (replicate run.0 run.1) (spread runs) in
    let count = length-replicate run.0 run.1 in
    (omega arith, all.0, writable names (before + run.0) runs all.1 (omega arith))

runs_have_cells : (names : List (List ℕ)) (runs : List (ℕ × List ℕ)) → All HasCells (map (record_of names) runs)
runs_have_cells names [] = All-nil HasCells
runs_have_cells names (run ∷ runs) = All-cons HasCells (record_of names run) (map (record_of names) runs) refl (runs_have_cells names runs)

have_cells : (k : NamedPoll) → All HasCells (plain_records k)
have_cells k = All-cons HasCells (codes "ballots" ∷ k.names) (run_records k.names k.poll.ballots) refl (runs_have_cells k.names (runs_of k.poll.ballots))

-- the plain form begins with no mark
no_mark : (names : List (List ℕ)) (rows : List (List (List ℕ)))
    → without_marks (text_of_records ((codes "ballots" ∷ names) ∷ rows)) ≡ text_of_records ((codes "ballots" ∷ names) ∷ rows)
unfolding without_marks text_of_records fields_text
no_mark names rows = refl

head_good : (names : List (List ℕ)) → 1 ≤ length names → length names ≤ MOST_CANDIDATES → without_empty_end (codes "ballots" ∷ names) ≡ codes "ballots" ∷ names
    → names_fault [] names ≡ None → head_fault (codes "ballots" ∷ names) ≡ None
head_good names some few filled good =
    let one : (length names == 0) ≡ false = grind (arith, nat_tests) in
    let fits : nat_lt MOST_CANDIDATES (length names) ≡ false = grind (arith, nat_tests) in
    rw (filled, one, fits) good

records_read : (k : NamedPoll) → head_fault (codes "ballots" ∷ k.names) ≡ None → names_of (codes "ballots" ∷ k.names) ≡ k.names → length k.names ≡ k.poll.c
    → Writable k.names 0 (runs_of k.poll.ballots) → read_records (plain_records k) ≡ Ok k
records_read k good same one runs =
    rw (good, same, rows_good k.names 2 0 (runs_of k.poll.ballots) runs, rows_back k.names 0 (runs_of k.poll.ballots) runs, runs_back k.poll.ballots, one) refl

-- the plain form of distinct and admitted names and a poll of theirs is read as them
pub read_plain : (k : NamedPoll) → length k.names ≡ k.poll.c → AllPairs (λ a b. a ≢ b) k.names → All (λ name. is_name name ≡ true) k.names → IsPoll k.poll
    → read_of (plain_form k) ≡ Ok k
unfolding read_of
read_plain k one apart good poll =
    let names_filled = λ (i : ℕ) (d : List ℕ) (within : i < length k.names). name_filled (get_or k.names i d) (good i d within) in
    let filled = filled_all (codes "ballots" ∷ k.names) (All-cons (λ c. is_empty c ≡ false) (codes "ballots") k.names refl names_filled) in
    let none = no_fault [] k.names good apart in
    let head = head_good k.names (omega (arith, one, poll.some)) (omega (arith, one, poll.most)) filled none in
    let same : names_of (codes "ballots" ∷ k.names) ≡ k.names = rw filled refl in
    let size = ap length (runs_back k.poll.ballots) in
    let each = λ (i : ℕ) (d : List ℕ) (within : i < length k.poll.ballots). readable k.names k.poll.c (get_or k.poll.ballots i d) one good apart (poll.valid i d within) in
    let runs = writable k.names 0 (runs_of k.poll.ballots) (runs_readable k.names k.poll.ballots each) (omega (arith, size, poll.few)) in
    ap (λ t. read_records (records default_config t)) (no_mark k.names (run_records k.names k.poll.ballots))
    ∙ ap read_records (records_back (plain_records k) (have_cells k)) ∙ records_read k head same one runs
