-- The replacements that a point stands for: in each class the lowest-numbered ballots, as many as its variable says,
-- and new ballots that use the arcs of a suffix as often as the point says, or that rank one candidate alone.
use Rattle.std.specs.Prelude.{ℕ, ◌-◌, ◌==◌, nat_lt, Bool, List, [], ◌∷◌, if◌then◌else◌, count_by, drop, filter, length, map, replicate, slice_index, take}
use Rattle.std.specs.List.{range_with_len, zip}
use Rattle.sig_graph.specs.Flows.{IsFlow}
use Rattle.sig_graph.specs.Paths.{ballot_of}
use Rattle.sig_graph.specs.Walks.{split_of}
use Rattle.goal_rows.specs.Elections.{Election}
use Rattle.goal_rows.specs.Programs.{IsPointOf, point_cost_of}
use Rattle.goal_rows.specs.Races.{keys_of}
use Rattle.goal_rows.specs.declared.goals.Goal.{Goal}
use Rattle.goal_rows.specs.declared.goals.Goal.TheVariants.{Root, Suffix, Pair, Cover}
use Rattle.goal_rows.specs.declared.parts.Ground.{Ground}

-- ---- the point

-- whole numbers at which each row of the goal's program without limits is at least 0
abbrev pub IsPointWithout : Ground → List ℕ → Type 0
IsPointWithout start whole = IsPointOf start [] whole 1

-- what the point costs: how many ballots are replaced
abbrev pub replaced_at : Ground → List ℕ → ℕ
replaced_at start whole = point_cost_of start whole

-- ---- the ballots that are replaced

-- the number of the class of this key: how many ballots of it are replaced; none where there is no such class
abbrev pub number_for : List (ℕ × ℕ) → List ℕ → ℕ → ℕ
number_for [] whole key = 0
number_for (c ∷ classes) whole key =
    if c.0 == key then slice_index whole 0 else number_for classes (drop 1 whole) key

-- how many of the keys are this one
abbrev pub times_seen : ℕ → List ℕ → ℕ
times_seen key keys = count_by (λ other. other == key) keys

-- fewer ballots of the key of this one stand before it than are replaced
abbrev pub is_low : List ℕ → (ℕ → ℕ) → ℕ → Bool
is_low keys wanted number =
    nat_lt (times_seen (slice_index keys (number - 1)) (take (number - 1) keys))
    (wanted (slice_index keys (number - 1)))

-- the numbers of these ballots, from 1, ascending
abbrev pub low_numbers : List ℕ → (ℕ → ℕ) → List ℕ
low_numbers keys wanted = filter (is_low keys wanted) (range_with_len 1 (length keys))

-- those that a point replaces: in each class the lowest, as many as its variable says
abbrev pub replaced_numbers : Election → Ground → List ℕ → List ℕ
replaced_numbers e start whole = low_numbers (keys_of e start.goal) (number_for start.classes whole)

-- ---- the new ballots

-- so many new ballots of a goal: under a suffix those of the paths of the flow, in order; under a pair the gainer
-- alone, and under a cover its candidate alone
abbrev pub new_ballots : Goal → List ℕ → ℕ → List (List ℕ)
new_ballots Root flow total = []
new_ballots (Suffix suffix) flow total = map (ballot_of suffix) (split_of (length suffix) flow total)
new_ballots (Pair g l) flow total = replicate total (g ∷ [])
new_ballots (Cover x) flow total = replicate total (x ∷ [])

-- the numbers on the arcs are a flow of a suffix with this total; other goals have none
abbrev pub IsFlowUnder : Goal → List ℕ → ℕ → Type 0
IsFlowUnder Root flow total = Unit {0}
IsFlowUnder (Suffix suffix) flow total = IsFlow (length suffix) flow total
IsFlowUnder (Pair g l) flow total = Unit {0}
IsFlowUnder (Cover x) flow total = Unit {0}

-- the flow on the arcs: what the point says of the variables behind those of the classes
abbrev pub arcs_at : Ground → List ℕ → List ℕ
arcs_at start whole = drop (length start.classes) whole

-- the replacements that a point stands for
abbrev pub changes_at : Election → Ground → List ℕ → List (ℕ × List ℕ)
changes_at e start whole =
    zip (replaced_numbers e start whole) (new_ballots start.goal (arcs_at start whole) (replaced_at start whole))
