-- Pairs of candidates: the gainer, whose count is to reach that of the loser. A ballot counts `plus` for the gainer and
-- `minus` for the loser, and no valid ballot counts for the gainer more than `top` beyond what it counts for the loser.
use Rattle.std.specs.Prelude.{◌≡◌, ◌≢◌, ◌⊎◌, ℕ, ◌+◌, ◌-◌, ◌<◌, ◌≤◌, List, [], ◌∷◌, Contains, length, map, slice_index}
use Rattle.mov_base.specs.Sums.{add_up, most}
use Rattle.ballot_form.specs.Ballots.{Poll}
use Rattle.ballot_form.specs.Scores.{score_of}

-- how much the gainer gets closer where this ballot is replaced by one that counts top
abbrev pub gain_of : ℕ → (List ℕ → ℕ) → (List ℕ → ℕ) → List ℕ → ℕ
gain_of top plus minus ballot = (top + minus ballot) - plus ballot

-- by how much the gainer is behind
abbrev pub deficit_of : (List ℕ → ℕ) → (List ℕ → ℕ) → List (List ℕ) → ℕ
deficit_of plus minus ballots = add_up minus ballots - add_up plus ballots

-- the k largest gains make up what the gainer is behind
abbrev pub Reaches : ℕ → List ℕ → ℕ → Type 0
Reaches deficit gains k = deficit ≤ most k gains

-- the ballots with these numbers, from 1, come before all others, by gain, the greatest first, and then by number
abbrev pub ComeFirst : List ℕ → List ℕ → Type 0
ComeFirst gains numbers = (i j : ℕ) → Contains numbers i → 1 ≤ j → j ≤ length gains → (Contains numbers j → ⊥) →
    (slice_index gains (j - 1) < slice_index gains (i - 1))
    ⊎ ((slice_index gains (i - 1) ≡ slice_index gains (j - 1)) × (i < j))

-- each of the ballots with these numbers is replaced by the one that ranks g alone
abbrev pub puts_of : ℕ → List ℕ → List (ℕ × List ℕ)
puts_of g numbers = map (λ number. (number, g ∷ [])) numbers

-- j is a challenger of x whose score reaches that of x
pub record IsLevel (points : List ℕ → ℕ → ℕ) (p : Poll) (x j : ℕ) : Type 0 where
  pub stands : j < p.c
  pub other : j ≢ x
  pub level : score_of points p.ballots x ≤ score_of points p.ballots j
