-- The root pair that the fewest replacements bring level.
use Rattle.std.specs.Prelude.{◌≡◌, ℕ, ◌<◌, ◌≤◌, Bool, true, Option, Some, None, nat_lt, slice_index_or}
use Rattle.goal_rows.specs.Elections.{Election}
use Rattle.goal_rows.specs.Races.{IsGroundIn}
use Rattle.goal_rows.specs.declared.goals.Goal.TheVariants.{Root}
use Rattle.witness_build.specs.Levels.{IsLevelUnder}
use Rattle.witness_build.specs.Witnesses.{IsRootPair, PairReaches}
use Rattle.witness_build.specs.declared.starts.Near.{Near}

-- of the root's pairs before a place none is brought level by fewer than this one, and those before this one need more
pub record IsNearestUpTo (e : Election) (to : ℕ) (near : Near) : Type 0 where
  pub place : ℕ
  pub within : place < to
  pub stands : slice_index_or e.roots place Root ≡ near.start.goal
  pub start : IsGroundIn e near.start
  pub level : IsLevelUnder near.start near.level
  pub fewest : (at g l i : ℕ) → at < to → IsRootPair e at g l → PairReaches e g l i → near.level.count ≤ i
  pub first : (at g l i : ℕ) → at < place → IsRootPair e at g l → PairReaches e g l i → near.level.count < i

-- the same where there is one, and else there is no pair before the place
abbrev pub IsNearestSoFar : Election → ℕ → Option Near → Type 0
IsNearestSoFar e to None = to ≡ 0
IsNearestSoFar e to (Some near) = IsNearestUpTo e to near

-- so few replacements are fewer than the nearest takes, or there is none yet
abbrev pub is_closer : ℕ → Option Near → Bool
is_closer count None = true
is_closer count (Some near) = nat_lt count near.level.count
