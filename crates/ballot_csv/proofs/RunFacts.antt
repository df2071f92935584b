-- The longest runs of equal ballots, one after another.
use Rattle.std.proofs.Common.{ℕ, List, [], ◌∷◌, ◌++◌, ◌≡◌, ◌∙◌, ◌+◌, ◌≤◌, refl, sym, ap, subst, true, false, suc, zero, arith, inl, inr, replicate}
use Rattle.std.specs.Prelude.{◌≢◌, IfSome, slice_get, ⊤}
use Rattle.std.specs.Str.{bytes_eq}
use Rattle.std.proofs.lemmas.Bool.{cases_Bool}
use Rattle.std.proofs.lemmas.Slice.Eq.{bytes_eq-Decides}
use Rattle.ballot_form.specs.declared.runs.Run.{Run}
use Rattle.ballot_form.specs.Runs.{IsFirstRun, Left}
use Rattle.ballot_csv.specs.PlainForm.{runs_of, with_ballot}

-- the list doesn't begin with this ballot
abbrev EndsRun : List ℕ → List (List ℕ) → Type 0
EndsRun ballot [] = ⊤
EndsRun ballot (next ∷ rest) = bytes_eq ballot next ≡ false

two_runs : (ballot next : List ℕ) (runs : List (ℕ × List ℕ)) → bytes_eq ballot next ≡ false
    → with_ballot ballot (with_ballot next runs) ≡ (1, ballot) ∷ with_ballot next runs
two_runs ballot next [] other = rw other refl
two_runs ballot next (run ∷ runs) other = elim (cases_Bool (bytes_eq next run.1)) [
  | inl same ↦
      let is = (bytes_eq-Decides next run.1).0 same in
      let differs : bytes_eq ballot run.1 ≡ false = subst (λ (b : List ℕ). bytes_eq ballot b ≡ false) is other in
      rw (same, differs) refl
  | inr new ↦ rw (new, other) refl
]

one_run : (ballot : List ℕ) (rest : List (List ℕ)) → EndsRun ballot rest → runs_of (ballot ∷ rest) ≡ (1, ballot) ∷ runs_of rest
one_run ballot [] ends = refl
one_run ballot (next ∷ rest) ends = two_runs ballot next (runs_of rest) ends

same_ballot : (ballot : List ℕ) → bytes_eq ballot ballot ≡ true
same_ballot ballot = (bytes_eq-Decides ballot ballot).1 refl

-- equal ballots that end at another one are a run
run_first : (n : ℕ) (ballot : List ℕ) (rest : List (List ℕ)) → EndsRun ballot rest
    → runs_of (replicate (suc n) ballot ++ rest) ≡ (suc n, ballot) ∷ runs_of rest
run_first zero ballot rest ends = one_run ballot rest ends
run_first (suc n) ballot rest ends =
    let count : suc n + 1 ≡ suc (suc n) = omega arith in
    ap (with_ballot ballot) (run_first n ballot rest ends) ∙ rw (same_ballot ballot, count) refl

ends_other : (ballot : List ℕ) (rest : List (List ℕ)) → IfSome (slice_get rest 0) (λ next. next ≢ ballot) → EndsRun ballot rest
ends_other ballot [] other = tt
ends_other ballot (next ∷ rest) other = elim (cases_Bool (bytes_eq ballot next)) [
  | inl same ↦ absurd (other (sym ((bytes_eq-Decides ballot next).0 same)))
  | inr differs ↦ differs
]

first_of : (n : ℕ) (ballot : List ℕ) (rest : List (List ℕ)) → 1 ≤ n → EndsRun ballot rest → runs_of (replicate n ballot ++ rest) ≡ (n, ballot) ∷ runs_of rest
first_of zero ballot rest some ends = absurd (omega (arith, some))
first_of (suc n) ballot rest some ends = run_first n ballot rest ends

-- the first run of the ballots that are left, and then the runs of those after it
pub runs_next : (old : Left) (run : Run) (new : Left) → IsFirstRun old run new → runs_of old.ballots ≡ (run.count, run.row.now) ∷ runs_of new.ballots
runs_next old run new is = ap runs_of is.joined ∙ first_of run.count run.row.now new.ballots is.some (ends_other run.row.now new.ballots is.longest)
