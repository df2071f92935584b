-- The cut test: numbers, one for each row of a goal and each limit, that show that few replacements can't meet the
-- node. This is weak duality, replacement by replacement: the sum of the numbers times the values of rows and limits
-- would have to be at least 0.
use Rattle.std.specs.Prelude.{◌≡◌, ◌⊎◌, ℕ, ◌+◌, ◌-◌, ◌≤◌, ◌<◌, List, [], ◌∷◌, All, length, min, ℤ, pos, ◌+ℤ◌, ◌*ℤ◌, ◌<ℤ◌, ◌≤ℤ◌}
use Rattle.std.specs.List.{zip}
use Rattle.mov_base.specs.Sums.{most, sum_z}
use Rattle.ballot_form.specs.Ballots.{IsValidBallot, Poll}
use Rattle.exact_num.specs.declared.limits.TheConstants.{WIDE}
use Rattle.row_program.specs.declared.Limit.{Limit}
use Rattle.goal_rows.specs.Elections.{Election, Node}
use Rattle.goal_rows.specs.Nodes.{Kept, kept_of}
use Rattle.goal_rows.specs.declared.parts.Ground.{Ground}

-- the value before any replacement of the rows and limits times their multipliers
abbrev pub base_of : List (ℕ × Kept) → ℤ
base_of weighed = sum_z (λ w. pos w.0 *ℤ w.1.start) weighed

-- what a replacement changes in it
abbrev pub change_by : List (ℕ × Kept) → List ℕ × List ℕ → ℤ
change_by weighed swap = sum_z (λ w. pos w.0 *ℤ w.1.change swap) weighed

-- the gain of a ballot: the greatest change over all valid new ballots, or 0 where that is negative
pub record IsGain (p : Poll) (weighed : List (ℕ × Kept)) (old : List ℕ) (gain : ℕ) : Type 0 where
  pub above : (new : List ℕ) → IsValidBallot p.c new → change_by weighed (old, new) ≤ℤ pos gain
  pub reached : (gain ≡ 0) ⊎ ((new : List ℕ) × IsValidBallot p.c new × (change_by weighed (old, new) ≡ pos gain))

-- the gains of the ballots, one by one
abbrev pub AreGains : Poll → List (ℕ × Kept) → List (List ℕ) → List ℕ → Type 0
AreGains p weighed [] [] = Unit {0}
AreGains p weighed [] (gain ∷ gains) = ⊥
AreGains p weighed (ballot ∷ ballots) [] = ⊥
AreGains p weighed (ballot ∷ ballots) (gain ∷ gains) = IsGain p weighed ballot gain × AreGains p weighed ballots gains

-- the test at t over rows and limits with their multipliers: it passes at 0, and where the value before any replacement
-- and the t - 1 largest gains together are below 0
abbrev pub CutsKept : Poll → List (ℕ × Kept) → ℕ → Type 0
CutsKept p weighed t =
    (t ≡ 0)
    ⊎ ((gains : List ℕ) × AreGains p weighed p.ballots gains × ((base_of weighed +ℤ pos (most (t - 1) gains)) <ℤ pos 0))

-- the rows and limits of a node with their multipliers
abbrev pub weighed_of : Election → Node → List ℕ → List (ℕ × Kept)
weighed_of e node ls = zip ls (kept_of e node)

-- the multipliers cut the node at t; beyond one more than there are ballots the test is the one there
abbrev pub Cuts : Election → Node → List ℕ → ℕ → Type 0
Cuts e node ls t = CutsKept e.poll (weighed_of e node ls) (min t (length e.poll.ballots + 1))

-- the greatest number up to one more than there are ballots at which the multipliers cut the node
pub record IsBound (e : Election) (node : Node) (ls : List ℕ) (t : ℕ) : Type 0 where
  pub within : t ≤ length e.poll.ballots + 1
  pub cut : Cuts e node ls t
  pub greatest : (u : ℕ) → u ≤ length e.poll.ballots + 1 → Cuts e node ls u → u ≤ t

-- multipliers that aren't wide, one for each row of the goal and each limit
pub record AreMultipliers (start : Ground) (limits : List Limit) (ls : List ℕ) : Type 0 where
  pub one_each : length ls ≡ length start.sums + length limits
  pub small : All (λ l. l < WIDE) ls
