-- Runs of equal ballots.
use Rattle.std.specs.Prelude.{ℕ, List, ◌≡◌, ◌≢◌, ◌+◌, ◌++◌, ◌≤◌, [], Option, IfSome, MatchOption, replicate, slice_get}
use Rattle.ballot_form.specs.declared.limits.TheConstants.{MOST_BALLOTS}
use Rattle.ballot_form.specs.declared.runs.Run.{Run}
use Rattle.ballot_form.specs.Ballots.{IsValidBallot}

-- the ballots of a contest of c candidates that are left of a roll; the first of them has the number first
pub record Left : Type 0 where
  pub c : ℕ
  pub first : ℕ
  pub ballots : List (List ℕ)

-- the run is the longest one of equal ballots that the old ballots begin with, and the new ones are those after it
pub record IsFirstRun (old : Left) (run : Run) (new : Left) : Type 0 where
  pub joined : old.ballots ≡ replicate run.count run.row.now ++ new.ballots
  pub some : 1 ≤ run.count
  pub longest : IfSome (slice_get new.ballots 0) (λ ballot. ballot ≢ run.row.now)
  pub numbered : run.first ≡ old.first
  pub after : new.first ≡ old.first + run.count
  pub same : new.c ≡ old.c
  pub valid : IsValidBallot old.c run.row.now
  pub few : run.first + run.count ≤ MOST_BALLOTS + 1

-- what is given of the ballots that are left: their first run, or nothing where there are none
abbrev pub GivesRun : Left → Option Run → Left → Type 0
GivesRun old given new = MatchOption given ((old.ballots ≡ []) × (new.ballots ≡ [])) (λ run. IsFirstRun old run new)
