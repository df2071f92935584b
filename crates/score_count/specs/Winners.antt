-- A score for each candidate, and who has the greatest.
use Rattle.std.specs.Prelude.{◌≡◌, ℕ, ◌<◌, ◌≤◌, List, length, slice_index}
use Rattle.ballot_form.specs.Ballots.{Poll}
use Rattle.ballot_form.specs.Scores.{score_of}

-- the list has the score of each candidate
pub record AreScores (points : List ℕ → ℕ → ℕ) (p : Poll) (scores : List ℕ) : Type 0 where
  pub one_each : length scores ≡ p.c
  pub each : (x : ℕ) → x < p.c → slice_index scores x ≡ score_of points p.ballots x

-- x is the lower-numbered of those with the greatest score
pub record IsScoreWinner (scores : List ℕ) (x : ℕ) : Type 0 where
  pub within : x < length scores
  pub greatest : (y : ℕ) → y < length scores → slice_index scores y ≤ slice_index scores x
  pub lowest : (y : ℕ) → y < x → slice_index scores y < slice_index scores x
