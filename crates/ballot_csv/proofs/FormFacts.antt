-- The plain form, as far as it is written.
use Rattle.std.proofs.Common.{ℕ, List, [], ◌∷◌, ◌++◌, ◌≡◌, ◌∙◌, ◌+◌, ◌<◌, refl, sym, ap, codes, length, append_assoc, get_or, map, take}
use Rattle.std.specs.Prelude.{Err, IfOk, Ok, Result}
use Rattle.std.proofs.lemmas.List.{append-nil, map-append, take_more}
use Rattle.std.proofs.lemmas.Option.{slice_get-get_or}
use Rattle.csv.specs.Writing.{row_text}
use Rattle.ballot_form.specs.declared.runs.Run.{Run}
use Rattle.ballot_form.specs.Runs.{IsFirstRun, Left}
use Rattle.ballot_csv.specs.PlainForm.{name_at, plain_writer, record_of, run_records, text_of_records}
use Rattle.ballot_csv.proofs.RunFacts.{runs_next}

-- one name more
pub names_more : (names : List (List ℕ)) (ballot : List ℕ) (i x : ℕ) (count part item name : List ℕ) (old new : List (List ℕ)) → i < length ballot → x ≡ get_or ballot i 0
    → x < length names → item ≡ get_or names x item → name ≡ item → old ≡ count ∷ map (name_at names) (take i ballot) → part ≡ [] → new ≡ old ++ (part ++ name) ∷ []
    → new ≡ count ∷ map (name_at names) (take (i + 1) ballot)
names_more names ballot i x count part item name old new within here below there is before none added =
    let found : name_at names x ≡ name = rw (slice_get-get_or names x item below) (sym there ∙ sym is) in
    let last : take (i + 1) ballot ≡ take i ballot ++ x ∷ [] = take_more ballot i 0 within ∙ ap (λ y. take i ballot ++ y ∷ []) (sym here) in
    let joined : map (name_at names) (take (i + 1) ballot) ≡ map (name_at names) (take i ballot) ++ name ∷ [] =
    ap (map (name_at names)) last ∙ map-append (name_at names) (take i ballot) (x ∷ []) ∙ ap (λ y. map (name_at names) (take i ballot) ++ y ∷ []) found in
    rw (added, before, none, joined) refl

-- one run more
pub runs_more : (names row : List (List ℕ)) (old : Left) (run : Run) (new : Left) (before text all : List ℕ) → IsFirstRun old run new → row ≡ record_of names (run.count, run.row.now)
    → before ++ text_of_records (run_records names old.ballots) ≡ all → text ≡ before ++ row_text plain_writer row
    → text ++ text_of_records (run_records names new.ballots) ≡ all
unfolding text_of_records
runs_more names row old run new before text all is here so_far more =
    let rest = text_of_records (run_records names new.ballots) in
    let spread : text_of_records (run_records names old.ballots) ≡ row_text plain_writer row ++ rest = rw (runs_next old run new is, here) refl in
    ap (λ t. t ++ rest) more ∙ append_assoc before (row_text plain_writer row) rest ∙ ap (λ t. before ++ t) (sym spread) ∙ so_far

-- no run more
pub runs_end : (names rows : List (List ℕ)) (text all : List ℕ) → rows ≡ [] → text ++ text_of_records (run_records names rows) ≡ all → text ≡ all
unfolding text_of_records
runs_end names rows text all none so_far = sym (append-nil text) ∙ rw none at so_far

-- the head and the runs are all
pub form_made : (names rows head : List (List ℕ)) (start one all : List ℕ) → head ≡ codes "ballots" ∷ names → start ≡ []
    → one ≡ start ++ row_text plain_writer head → all ≡ one ++ text_of_records (run_records names rows)
    → all ≡ text_of_records ((codes "ballots" ∷ names) ∷ run_records names rows)
unfolding text_of_records
form_made names rows head start one all is none first rest = rw (rest, first, none, is) refl

pub if_ok : {X E : Type 0} {P Q : X → Type 0} (r : Result X E) → ((x : X) → P x → Q x) → IfOk r P → IfOk r Q
if_ok (Ok x) f h = f x h
if_ok (Err e) f h = h
