-- Ballots and lists of them.
use Rattle.std.specs.Prelude.{ℕ, List, ◌<◌, ◌≤◌, ◌≢◌, All, AllPairs, length}
use Rattle.ballot_form.specs.declared.limits.TheConstants.{MOST_BALLOTS, MOST_CANDIDATES}

-- no candidate stands on the list twice
abbrev pub AreDistinct : List ℕ → Type 0
AreDistinct row = AllPairs (λ x y. x ≢ y) row

-- a valid ballot of c candidates: distinct candidates, most preferred first
pub record IsValidBallot (c : ℕ) (row : List ℕ) : Type 0 where
  pub below : All (λ x. x < c) row
  pub distinct : AreDistinct row

-- a number of candidates, and a list of ballots
pub record Poll : Type 0 where
  pub c : ℕ
  pub ballots : List (List ℕ)

-- the sizes of a contest, and valid ballots alone
pub record IsPoll (p : Poll) : Type 0 where
  pub some : 1 ≤ p.c
  pub most : p.c ≤ MOST_CANDIDATES
  pub few : length p.ballots ≤ MOST_BALLOTS
  pub valid : All (IsValidBallot p.c) p.ballots
