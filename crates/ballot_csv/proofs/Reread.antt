-- The runs of a contest are read back as its ballots.
use Rattle.std.proofs.Common.{ℕ, List, [], ◌∷◌, ◌++◌, ◌≡◌, ◌∙◌, ◌+◌, ◌<◌, ◌≤◌, ◌^◌, refl, sym, ap, ap₂, All, Bool, false, true, Some, None, length, suc, arith, inl, inr, map, replicate, add-one, get_or}
use Rattle.std.specs.Prelude.{◌==◌, ⊤, decimal, filter, nat_lt, not}
use Rattle.std.specs.List.{filter_map, flat_map, list_any}
use Rattle.std.specs.Str.{bytes_eq}
use Rattle.std.proofs.lemmas.Bool.{cases_Bool, ne_eqb, not_from_false}
use Rattle.std.proofs.lemmas.Fmt.{decimal_is_IsNumeral}
use Rattle.std.proofs.lemmas.List.{length-replicate}
use Rattle.std.proofs.lemmas.Slice.Eq.{bytes_eq-Decides}
use Rattle.ballot_form.specs.Ballots.{AreDistinct}
use Rattle.ballot_form.specs.declared.limits.TheConstants.{MOST_BALLOTS}
use Rattle.ballot_csv.specs.BallotFile.{records_fault}
use Rattle.text_lines.proofs.Inverse.{number_of-decimal}
use Rattle.ballot_csv.specs.OneRecord.{ballot_of, ballots_of, candidate_of, is_empty, is_unknown, candidate_named, record_fault, without_repeats}
use Rattle.ballot_csv.specs.PlainForm.{name_at, record_of, runs_of, with_ballot}

-- the ballots of runs
abbrev pub spread : List (ℕ × List ℕ) → List (List ℕ)
spread [] = []
spread (run ∷ runs) = replicate run.0 run.1 ++ spread runs

one_before : (ballot : List ℕ) (runs : List (ℕ × List ℕ)) → spread (with_ballot ballot runs) ≡ ballot ∷ spread runs
one_before ballot [] = refl
one_before ballot (run ∷ runs) = elim (cases_Bool (bytes_eq ballot run.1)) [
  | inl same ↦ let is = (bytes_eq-Decides ballot run.1).0 same in rw (same, add-one run.0) (ap (λ b. b ∷ (replicate run.0 run.1 ++ spread runs)) (sym is))
  | inr other ↦ rw other refl
]

pub runs_back : (ballots : List (List ℕ)) → spread (runs_of ballots) ≡ ballots
runs_back [] = refl
runs_back (ballot ∷ ballots) = one_before ballot (runs_of ballots) ∙ ap (λ t. ballot ∷ t) (runs_back ballots)

pub rest_all : {X : Type 0} (P : X → Type 0) (x : X) (xs : List X) → All P (x ∷ xs) → All P xs
rest_all P x xs all k d within = all (suc k) d (omega arith)

pub first_all : {X : Type 0} (P : X → Type 0) (x : X) (xs : List X) → All P (x ∷ xs) → P x
first_all P x xs all = all 0 x (omega arith)

-- the name of a candidate is found at its place
pub record IsNamed (names : List (List ℕ)) (x : ℕ) : Type 0 where
  pub filled : is_empty (name_at names x) ≡ false
  pub found : candidate_named names (name_at names x) ≡ Some x

-- a ballot whose names are read as it
pub record IsReadable (names : List (List ℕ)) (ballot : List ℕ) : Type 0 where
  pub named : All (IsNamed names) ballot
  pub distinct : AreDistinct ballot

cells_back : (names : List (List ℕ)) (ballot : List ℕ) → All (IsNamed names) ballot → filter_map (candidate_of names) (map (name_at names) ballot) ≡ ballot
cells_back names [] named = refl
cells_back names (x ∷ xs) named =
    let here = first_all (IsNamed names) x xs named in
    rw (here.filled, here.found, cells_back names xs (rest_all (IsNamed names) x xs named)) refl

kept_all : (p : ℕ → Bool) (xs : List ℕ) → All (λ x. p x ≡ true) xs → filter p xs ≡ xs
kept_all p [] all = refl
kept_all p (x ∷ xs) all = rw (first_all (λ y. p y ≡ true) x xs all, kept_all p xs (rest_all (λ y. p y ≡ true) x xs all)) refl

no_repeats : (xs : List ℕ) → AreDistinct xs → without_repeats xs ≡ xs
no_repeats [] distinct = refl
no_repeats (x ∷ xs) distinct =
    let others = λ (k d : ℕ) (within : k < length xs). not_from_false (get_or xs k d == x) (ne_eqb (get_or xs k d) x (λ same. distinct 0 (suc k) d (omega arith) (omega arith) (sym same))) in
    rw (no_repeats xs (λ i j d below within. distinct (suc i) (suc j) d (omega arith) (omega arith))) (ap (λ t. x ∷ t) (kept_all (λ y. not (y == x)) xs others))

-- the names of a ballot are read as the ballot
ballot_back : (names : List (List ℕ)) (ballot : List ℕ) → IsReadable names ballot → ballot_of names (map (name_at names) ballot) ≡ ballot
ballot_back names ballot h = rw (cells_back names ballot h.named) (no_repeats ballot h.distinct)

known_back : (names : List (List ℕ)) (ballot : List ℕ) → All (IsNamed names) ballot → list_any (is_unknown names) (map (name_at names) ballot) ≡ false
known_back names [] named = refl
known_back names (x ∷ xs) named =
    let here = first_all (IsNamed names) x xs named in
    rw (here.filled, here.found) (known_back names xs (rest_all (IsNamed names) x xs named))

-- the runs can be written and read: not too many ballots, and each with candidates that are named
abbrev pub Writable : List (List ℕ) → ℕ → List (ℕ × List ℕ) → Type 0
Writable names before [] = ⊤
Writable names before (run ∷ runs) = (before + run.0 ≤ MOST_BALLOTS) × IsReadable names run.1 × Writable names (before + run.0) runs

run_is_good : (names : List (List ℕ)) (before : ℕ) (run : ℕ × List ℕ) → before + run.0 ≤ MOST_BALLOTS → IsReadable names run.1
    → record_fault names before (record_of names run) ≡ None
run_is_good names before run few readable =
    let small : run.0 < 2 ^ 64 = omega (arith, few) in
    let some : is_empty (decimal run.0) ≡ false = grind (arith, (decimal_is_IsNumeral run.0 small).0.0) in
    let fits : nat_lt MOST_BALLOTS (before + run.0) ≡ false = grind (arith, few) in
    rw (number_of-decimal run.0 small, some, known_back names run.1 readable.named, fits) refl

run_is_back : (names : List (List ℕ)) (run : ℕ × List ℕ) → run.0 < 2 ^ 64 → IsReadable names run.1 → ballots_of names (record_of names run) ≡ replicate run.0 run.1
run_is_back names run small readable =
    let some : is_empty (decimal run.0) ≡ false = grind (arith, (decimal_is_IsNumeral run.0 small).0.0) in
    rw (number_of-decimal run.0 small, some) (ap (replicate run.0) (ballot_back names run.1 readable))

-- the records of the runs have no fault
pub rows_good : (names : List (List ℕ)) (at before : ℕ) (runs : List (ℕ × List ℕ)) → Writable names before runs
    → records_fault names at before (map (record_of names) runs) ≡ None
rows_good names at before [] h = refl
rows_good names at before (run ∷ runs) h =
    let small : run.0 < 2 ^ 64 = omega (arith, h.0) in
    let size : length (ballots_of names (record_of names run)) ≡ run.0 = ap length (run_is_back names run small h.1) ∙ length-replicate run.0 run.1 in
    rw (run_is_good names before run h.0 h.1, size) (rows_good names (at + 1) (before + run.0) runs h.2)

-- and add the ballots of the runs
pub rows_back : (names : List (List ℕ)) (before : ℕ) (runs : List (ℕ × List ℕ)) → Writable names before runs
    → flat_map (ballots_of names) (map (record_of names) runs) ≡ spread runs
rows_back names before [] h = refl
rows_back names before (run ∷ runs) h =
    let small : run.0 < 2 ^ 64 = omega (arith, h.0) in
    ap₂ (λ a b. a ++ b) (run_is_back names run small h.1) (rows_back names (before + run.0) runs h.2)
