-- How many of the largest gains make up what the gainer of a pair is behind.
use Rattle.std.specs.Prelude.{◌≡◌, ◌⊎◌, ℕ, ◌+◌, ◌-◌, ◌*◌, ◌<◌, ◌≤◌, ◌==◌, ◌&&◌, nat_lt, nat_le, List, [], ◌∷◌, if◌then◌else◌, length, slice_index, ℤ, pos, negsuc}
use Rattle.std.proofs.Common.{suc}
use Rattle.mov_base.specs.Sums.{add_up}
use Rattle.ballot_form.specs.declared.limits.TheConstants.{MOST_BALLOTS}
use Rattle.goal_rows.specs.Elections.{Election}
use Rattle.goal_rows.specs.Goals.{gainer_points}
use Rattle.goal_rows.specs.Races.{IsGroundIn}
use Rattle.goal_rows.specs.declared.goals.Goal.{Goal}
use Rattle.goal_rows.specs.declared.goals.Goal.TheVariants.{Root, Suffix, Pair, Cover}
use Rattle.goal_rows.specs.declared.parts.Ground.{Ground}
use Rattle.witness_build.specs.Witnesses.{pair_deficit, pair_gains}
use Rattle.witness_build.specs.declared.levels.Level.{Level}

-- ---- gains and a threshold

-- one where the gain is above the threshold, is the threshold, or is at least the threshold
abbrev pub above : ℕ → ℕ → ℕ
above threshold gain = if nat_lt threshold gain then 1 else 0

abbrev pub equals : ℕ → ℕ → ℕ
equals threshold gain = if gain == threshold then 1 else 0

abbrev pub reaching : ℕ → ℕ → ℕ
reaching threshold gain = if nat_le threshold gain then 1 else 0

-- what the gains have beyond the threshold, and the threshold for each of so many
abbrev pub largest : ℕ → ℕ → List ℕ → ℕ
largest threshold count gains = count * threshold + add_up (λ gain. gain - threshold) gains

-- all gains above the level's are counted, and as many as are left of those that equal it; together they make up the
-- deficit, and with one fewer they don't
pub record IsLevelFor (deficit : ℕ) (gains : List ℕ) (level : Level) : Type 0 where
  pub counted : level.count ≡ add_up (above level.gain) gains + level.equal
  pub within : level.count ≤ add_up (reaching level.gain) gains
  pub enough : deficit ≤ largest level.gain level.count gains
  pub none_spare : (level.count ≡ 0) ⊎ (largest level.gain (level.count - 1) gains < deficit)

-- the numbers, from i, of the gains above the threshold and of the first so many that equal it
abbrev pub first_from : ℕ → ℕ → ℕ → List ℕ → List ℕ
first_from threshold equal i [] = []
first_from threshold equal i (gain ∷ gains) =
    if nat_lt threshold gain then i ∷ first_from threshold equal (i + 1) gains
    else if gain == threshold && nat_lt 0 equal then i ∷ first_from threshold (equal - 1) (i + 1) gains
    else first_from threshold equal (i + 1) gains

-- how many of a class have the key
abbrev pub of_key : ℕ → ℕ × ℕ → ℕ
of_key key class = class.1 * equals key class.0

-- the counts of the gains, the greatest gain first, and each gain down to 1
pub record AreCounts (gains counts : List ℕ) : Type 0 where
  pub few : length gains ≤ MOST_BALLOTS
  pub greatest : add_up (above (length counts)) gains ≡ 0
  pub each : (k : ℕ) → k < length counts → slice_index counts k ≡ add_up (equals (length counts - k)) gains

-- the gains that are counted make up the deficit
pub record AreEnough (deficit : ℕ) (gains counts : List ℕ) : Type 0 where
  pub counted : AreCounts gains counts
  pub enough : deficit ≤ add_up (λ gain. gain) gains

-- how far a sum is below zero
abbrev pub below_zero : ℤ → ℕ
below_zero (pos n) = 0
below_zero (negsuc n) = suc n

-- ---- gains under a goal: they are those of a pair, and no other goal has any

-- by how much the gainer is behind
abbrev pub deficit_under : Election → Goal → ℕ
deficit_under e Root = 0
deficit_under e (Suffix suffix) = 0
deficit_under e (Pair g l) = pair_deficit e g l
deficit_under e (Cover x) = 0

abbrev pub gains_under : Election → Goal → List ℕ
gains_under e Root = []
gains_under e (Suffix suffix) = []
gains_under e (Pair g l) = pair_gains e g l
gains_under e (Cover x) = []

-- no gain is greater
abbrev pub greatest_under : Election → Goal → ℕ
greatest_under e Root = 1024
greatest_under e (Suffix suffix) = 1024
greatest_under e (Pair g l) = gainer_points e g l (g ∷ []) + 1024
greatest_under e (Cover x) = 1024

-- the level of a goal in every election in which this is its ground
abbrev pub IsLevelUnder : Ground → Level → Type 0
IsLevelUnder start level =
    (e : Election) → IsGroundIn e start → IsLevelFor (deficit_under e start.goal) (gains_under e start.goal) level
