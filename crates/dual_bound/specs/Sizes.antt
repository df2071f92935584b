-- The sizes of what the test works on: a ground of any election has them.
use Rattle.std.specs.Prelude.{◌≡◌, ℕ, ◌-◌, ◌^◌, ◌<◌, ◌≤◌, List, All, length, unsigned_abs, ℤ, pos, ◌≤ℤ◌}
use Rattle.mov_base.specs.Sums.{add_up}
use Rattle.ballot_form.specs.declared.limits.TheConstants.{MOST_BALLOTS}
use Rattle.exact_num.specs.declared.limits.TheConstants.{WIDE}
use Rattle.row_program.specs.declared.Limit.{Limit}
use Rattle.row_program.specs.declared.limits.TheConstants.{MOST_LIMITS}
use Rattle.signature_class.specs.declared.limits.TheConstants.{MOST_PLACES}
use Rattle.sig_graph.specs.Paths.{arc_total}
use Rattle.goal_rows.specs.declared.goals.Goal.{Goal}
use Rattle.goal_rows.specs.declared.goals.Goal.TheVariants.{Root, Suffix, Pair, Cover}
use Rattle.goal_rows.specs.declared.parts.Ground.{Ground}
use Rattle.goal_rows.specs.declared.rows.TheConstants.{MOST_ROWS}

-- multipliers that aren't wide
abbrev pub AreNotWide : List ℕ → Type 0
AreNotWide ls = All (λ l. l < WIDE) ls

-- a number of at most 41 bits
abbrev pub IsSmallSum : ℤ → Type 0
IsSmallSum sum = unsigned_abs sum ≤ 2 ^ 40

-- what an arc brings, of at most 75 bits
abbrev pub IsSmallArc : ℤ → Type 0
IsSmallArc w = unsigned_abs w ≤ 2 ^ 74

-- what a new ballot brings at most, of at most 87 bits
pub record IsSmallBest (best : ℤ) : Type 0 where
  pub low : pos 0 ≤ℤ best
  pub high : best ≤ℤ pos (2 ^ 86)

-- few limits, of small values
pub record AreSmallLimits (limits : List Limit) : Type 0 where
  pub few : length limits ≤ MOST_LIMITS
  pub small : All (λ limit. limit.value ≤ MOST_BALLOTS) limits

-- how many places the graph of a goal has
abbrev pub places_of : Goal → ℕ
places_of (Suffix suffix) = length suffix
places_of Root = 0
places_of (Pair g l) = 0
places_of (Cover x) = 0

-- a pair has one row; the gainer alone counts little more than others
pub record IsSmallPair (start : Ground) : Type 0 where
  pub one_sum : length start.sums ≡ 1
  pub lone_low : pos 0 ≤ℤ start.lone
  pub lone_high : start.lone ≤ℤ pos 1024
  pub keys : All (λ c. c.0 ≤ 2048) start.classes

-- the sizes of what is known of a goal that has rows
pub record IsSmallGround (start : Ground) : Type 0 where
  pub rows : length start.sums ≤ MOST_ROWS
  pub sums : All IsSmallSum start.sums
  pub counted : add_up (λ c. c.1) start.classes ≡ start.ballots
  pub few : start.ballots ≤ MOST_BALLOTS
  pub suffix : (s : List ℕ) → start.goal ≡ Suffix s →
      (length s ≤ MOST_PLACES) × (length start.sums ≡ arc_total (length s - 1))
  pub pair : (g l : ℕ) → start.goal ≡ Pair g l → IsSmallPair start
  pub cover : (x : ℕ) → start.goal ≡ Cover x → (x ≤ length start.sums) × (length start.sums < MOST_PLACES)
