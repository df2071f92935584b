-- A node is a goal with a list of limits on the replacements. Each row of the goal and each limit has a value before
-- any replacement, and each replacement changes it by so much.
use Rattle.std.specs.Prelude.{ℕ, ◌+◌, ◌^◌, ◌<◌, ◌≤◌, ◌==◌, List, [], ◌∷◌, ◌++◌, All, if◌then◌else◌, true, false, length, map, ℤ, pos, ◌-ℤ◌, ◌≤ℤ◌}
use Rattle.mov_base.specs.Sums.{add_up, sum_z}
use Rattle.ballot_form.specs.Alterations.{after}
use Rattle.ballot_form.specs.declared.limits.TheConstants.{MOST_BALLOTS}
use Rattle.row_program.specs.declared.Feature.{Feature}
use Rattle.row_program.specs.declared.Feature.TheVariants.{From, Arc}
use Rattle.row_program.specs.declared.Limit.{Limit}
use Rattle.row_program.specs.declared.limits.TheConstants.{MOST_LIMITS}
use Rattle.goal_rows.specs.Elections.{Election, Node}
use Rattle.goal_rows.specs.Goals.{Holds, rows_of}
use Rattle.goal_rows.specs.Suffixes.{counted_under_cover, counted_under_suffix}
use Rattle.goal_rows.specs.declared.goals.Goal.{Goal}
use Rattle.goal_rows.specs.declared.goals.Goal.TheVariants.{Root, Suffix, Pair, Cover}
use Rattle.goal_rows.specs.declared.parts.Ground.{Ground}

-- a ground's goal with these limits
abbrev pub node_of : Ground → List Limit → Node
node_of start limits = record { goal = start.goal; limits = limits }

-- a goal without limits
abbrev pub without_limits : Goal → Node
without_limits goal = record { goal = goal; limits = [] }

-- a node with one limit more, at the end
abbrev pub with_limit : Node → Limit → Node
with_limit node limit = record { goal = node.goal; limits = node.limits ++ limit ∷ [] }

-- the halves of a node by a feature: it is at most the value, or at least one more
abbrev pub low_limit : Feature → ℕ → Limit
low_limit feature value = record { feature = feature; at_most = true; value = value }

abbrev pub high_limit : Feature → ℕ → Limit
high_limit feature value = record { feature = feature; at_most = false; value = value + 1 }

abbrev pub low_half : Node → Feature → ℕ → Node
low_half node feature value = with_limit node (low_limit feature value)

abbrev pub high_half : Node → Feature → ℕ → Node
high_half node feature value = with_limit node (high_limit feature value)

-- the feature belongs to the goal. A suffix has the keys of ballots under it, and the arcs between its places and from
-- the start, 0; a cover has the keys; the root and the pairs have none
abbrev pub IsFeatureOf : Election → Goal → Feature → Type 0
IsFeatureOf e Root feature = ⊥
IsFeatureOf e (Suffix suffix) (From key) = key < 2 ^ length suffix
IsFeatureOf e (Suffix suffix) (Arc u p) = (u < p) × (p ≤ length suffix)
IsFeatureOf e (Pair g l) feature = ⊥
IsFeatureOf e (Cover x) (From key) = key < 2 ^ e.poll.c
IsFeatureOf e (Cover x) (Arc u p) = ⊥

-- limits on features of the goal: few, and of small values
pub record AreLimits (e : Election) (node : Node) : Type 0 where
  pub few : length node.limits ≤ MOST_LIMITS
  pub small : All (λ limit. limit.value ≤ MOST_BALLOTS) node.limits
  pub features : All (λ limit. IsFeatureOf e node.goal limit.feature) node.limits

-- how much the replacement of an old by a new ballot counts for a feature: nothing where the goal has no feature
abbrev pub counted_for : Election → Goal → Feature → List ℕ × List ℕ → ℕ
counted_for e Root feature swap = 0
counted_for e (Suffix suffix) feature swap = counted_under_suffix suffix feature swap
counted_for e (Pair g l) feature swap = 0
counted_for e (Cover x) feature swap = counted_under_cover x feature swap

-- the old and the new ballot of each replacement, in order, where the first ballot has the number i
abbrev pub swaps_from : ℕ → List (List ℕ) → List (ℕ × List ℕ) → List (List ℕ × List ℕ)
swaps_from i [] changes = []
swaps_from i (ballot ∷ ballots) [] = []
swaps_from i (ballot ∷ ballots) (change ∷ changes) =
    if change.0 == i then (ballot, change.1) ∷ swaps_from (i + 1) ballots changes
    else swaps_from (i + 1) ballots (change ∷ changes)

-- the old and the new ballot of each replacement
abbrev pub swaps_of : Election → List (ℕ × List ℕ) → List (List ℕ × List ℕ)
swaps_of e changes = swaps_from 1 e.poll.ballots changes

-- what a limit leaves: how far the count of its feature is below the value, or above it
abbrev pub limit_value : Election → Goal → List (List ℕ × List ℕ) → Limit → ℤ
limit_value e goal swaps limit =
    if limit.at_most then pos limit.value -ℤ pos (add_up (counted_for e goal limit.feature) swaps)
    else pos (add_up (counted_for e goal limit.feature) swaps) -ℤ pos limit.value

-- the replacements meet the node: all rows of the goal hold after them, and each limit is kept
pub record Meets (e : Election) (node : Node) (changes : List (ℕ × List ℕ)) : Type 0 where
  pub holds : Holds e node.goal (after e.poll changes).ballots
  pub kept : All (λ limit. pos 0 ≤ℤ limit_value e node.goal (swaps_of e changes) limit) node.limits

-- a row or a limit: its value before any replacement, and what a replacement changes
pub record Kept : Type 0 where
  pub start : ℤ
  pub change : List ℕ × List ℕ → ℤ

-- a row of a goal, by the weight that it gives a ballot
abbrev pub kept_row : List (List ℕ) → (List ℕ → ℤ) → Kept
kept_row ballots weight = record { start = sum_z weight ballots; change = λ swap. weight swap.1 -ℤ weight swap.0 }

abbrev pub kept_limit : Election → Goal → Limit → Kept
kept_limit e goal limit =
    if limit.at_most then
    record { start = pos limit.value; change = λ swap. pos 0 -ℤ pos (counted_for e goal limit.feature swap) }
    else record { start = pos 0 -ℤ pos limit.value; change = λ swap. pos (counted_for e goal limit.feature swap) }

-- the rows of the goal, and then the limits
abbrev pub kept_of : Election → Node → List Kept
kept_of e node = map (kept_row e.poll.ballots) (rows_of e node.goal) ++ map (kept_limit e node.goal) node.limits

-- how many multipliers a node has: one for each row of the goal, and one for each limit
abbrev pub number_count : Election → Node → ℕ
number_count e node = length (rows_of e node.goal) + length node.limits
