-- Counting first preferences.
use Rattle.std.proofs.Common.{ℕ, List, [], ◌∷◌, Bool, true, false, ◌≡◌, ◌≤◌, ◌<◌, ◌+◌, cond, length, arith, refl}
use Rattle.std.specs.Prelude.{IfSome}
use Rattle.std.proofs.lemmas.List.Recursion.{is_count_by}
use Rattle.std.proofs.lemmas.List.Sums.{count_by-le-length}
use Rattle.ballot_form.specs.declared.runs.Run.{Run}
use Rattle.ballot_form.specs.Ballots.{IsValidBallot}
use Rattle.ballot_form.specs.Runs.{IsFirstRun, Left}
use Rattle.ballot_form.specs.Scores.{first_count, first_of, is_first, is_some_of, plurality_points, score_of}
use Rattle.ballot_form.proofs.RunSums.{count_of_run}

-- a run more
pub firsts_of_run : (old : Left) (run : Run) (new : Left) (x : ℕ) → IsFirstRun old run new
    → first_count old.ballots x ≡ cond (is_some_of (first_of run.row.now) x) run.count 0 + first_count new.ballots x
firsts_of_run old run new x is = count_of_run (λ ballot. is_first ballot x) old run new is

pub first_count_le : (ballots : List (List ℕ)) (x : ℕ) → first_count ballots x ≤ length ballots
first_count_le ballots x = count_by-le-length (λ ballot. is_first ballot x) ballots

pub first_below : (c : ℕ) (row : List ℕ) → IsValidBallot c row → IfSome (first_of row) (λ x. x < c)
first_below c [] valid = tt
first_below c (x ∷ xs) valid = valid.below 0 x (omega arith)

one_or_none : (b : Bool) (n : ℕ) → cond b 1 0 + n ≡ cond b (1 + n) n
one_or_none true n = refl
one_or_none false n = omega arith

-- the score under plurality is the number of first preferences
pub plurality_score : (ballots : List (List ℕ)) (x : ℕ) → score_of plurality_points ballots x ≡ first_count ballots x
plurality_score ballots x =
    is_count_by (λ all. score_of plurality_points all x) (λ ballot. is_first ballot x) refl
    (λ ballot rest. one_or_none (is_first ballot x) (score_of plurality_points rest x)) ballots
