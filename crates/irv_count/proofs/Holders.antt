-- Who holds how many ballots.
use Rattle.std.proofs.Common.{ℕ, suc, List, [], ◌∷◌, Option, Bool, true, false, ◌≡◌, ◌<◌, ◌≤◌, ◌+◌, ◌∙◌, length, cond, refl, sym, ap, inl, inr, arith, All}
use Rattle.std.specs.Prelude.{find, count_by}
use Rattle.std.proofs.lemmas.List.Sums.{count_by-le-length, sum_by-cons}
use Rattle.ballot_form.specs.declared.runs.Run.{Run}
use Rattle.ballot_form.specs.Ballots.{IsValidBallot}
use Rattle.ballot_form.specs.Runs.{IsFirstRun, Left}
use Rattle.ballot_form.specs.Scores.{is_some_of}
use Rattle.ballot_form.proofs.RunSums.{count_of_run}
use Rattle.irv_count.specs.Orders.{held_count, holder, stands}
use Rattle.irv_count.specs.Rounds.{AreBitsOf}
use Rattle.irv_count.proofs.Members.{bool_cases, differ_test}

-- a run more, whose holder is known
pub held_of_run : (standing : ℕ) (old : Left) (run : Run) (new : Left) (who : Option ℕ) (x : ℕ) → IsFirstRun old run new → who ≡ holder (stands standing) run.row.now
    → held_count (stands standing) old.ballots x ≡ cond (is_some_of who x) run.count 0 + held_count (stands standing) new.ballots x
held_of_run standing old run new who x is known = rw known (count_of_run (λ row. is_some_of (holder (stands standing) row) x) old run new is)

pub held_le : (set : ℕ → Bool) (rows : List (List ℕ)) (x : ℕ) → held_count set rows x ≤ length rows
held_le set rows x = count_by-le-length (λ row. is_some_of (holder set row) x) rows

find_same : (s t : ℕ → Bool) (c : ℕ) (row : List ℕ) → All (λ x. x < c) row → ((x : ℕ) → x < c → s x ≡ t x) → find s row ≡ find t row
find_same s t c [] valid same = refl
find_same s t c (x ∷ row) valid same = rw (same x (valid 0 0 (omega arith)), find_same s t c row (λ k d lt. valid (suc k) d (omega arith)) same) refl

counted_same : (p q : List ℕ → Bool) (P : List ℕ → Type 0) (rows : List (List ℕ)) → All P rows → ((row : List ℕ) → P row → p row ≡ q row) → count_by p rows ≡ count_by q rows
counted_same p q P [] valid same = refl
counted_same p q P (row ∷ rows) valid same =
    sum_by-cons (λ x. cond (p x) 1 0) row rows
    ∙ rw (same row (valid 0 [] (omega arith))) (ap (λ k. cond (q row) 1 0 + k) (counted_same p q P rows (λ k d lt. valid (suc k) d (omega arith)) same))
    ∙ sym (sum_by-cons (λ x. cond (q x) 1 0) row rows)

-- sets of the same candidates hold the same ballots
pub held_same : (s t : ℕ → Bool) (c : ℕ) (rows : List (List ℕ)) (x : ℕ) → All (IsValidBallot c) rows → ((y : ℕ) → y < c → s y ≡ t y) → held_count s rows x ≡ held_count t rows x
held_same s t c rows x valid same =
    counted_same (λ row. is_some_of (holder s row) x) (λ row. is_some_of (holder t row) x) (IsValidBallot c) rows valid
    (λ row v. ap (λ o. is_some_of o x) (find_same s t c row v.below same))

-- as its bits
pub held_by_bits : (set : ℕ → Bool) (c standing : ℕ) (rows : List (List ℕ)) (x : ℕ) → All (IsValidBallot c) rows → AreBitsOf c set standing
    → held_count (stands standing) rows x ≡ held_count set rows x
held_by_bits set c standing rows x valid bits = held_same (stands standing) set c rows x valid bits.bits

found_in : (set : ℕ → Bool) (row : List ℕ) (x : ℕ) → set x ≡ false → is_some_of (find set row) x ≡ false
found_in set [] x out = refl
found_in set (y ∷ row) x out = elim (bool_cases (set y)) [
  | inl on ↦ rw on (differ_test y x (λ same. let on1 = rw same at on in let z : true ≡ false = sym on1 ∙ out in cc))
  | inr off ↦ rw off (found_in set row x out)
]

none_counted : (p : List ℕ → Bool) (rows : List (List ℕ)) → ((row : List ℕ) → p row ≡ false) → count_by p rows ≡ 0
none_counted p [] no_one = refl
none_counted p (row ∷ rows) no_one =
    let ih = none_counted p rows no_one in
    sum_by-cons (λ x. cond (p x) 1 0) row rows ∙ rw (no_one row) (omega arith)

-- one that isn't in the set holds none
pub held_by_none : (set : ℕ → Bool) (rows : List (List ℕ)) (x : ℕ) → set x ≡ false → held_count set rows x ≡ 0
held_by_none set rows x out = none_counted (λ row. is_some_of (holder set row) x) rows (λ row. found_in set row x out)
