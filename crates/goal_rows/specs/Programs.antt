-- The program of a node: rows over whole variables, each of which is to be at least 0. A class of ballots has a
-- variable, how many of it are replaced, and under a suffix each arc has one, how many new ballots' signatures use it.
-- The rows and limits of the node count these; further rows bound the classes, and make the arcs a flow.
use Rattle.std.specs.Prelude.{◌≡◌, ◌≤◌, ◌≤ℤ◌, All, ℕ, ◌+◌, ◌-◌, ◌==◌, ◌&&◌, not, Bool, false, List, [], ◌∷◌, ◌++◌, if◌then◌else◌, length, map, replicate, slice_index_or, unsigned_abs, ℤ, pos, ◌+ℤ◌, ◌-ℤ◌}
use Rattle.std.specs.List.{flat_map, range_with_len, zip}
use Rattle.irv_count.specs.Orders.{stands}
use Rattle.row_program.specs.declared.Feature.{Feature}
use Rattle.row_program.specs.declared.Feature.TheVariants.{From, Arc}
use Rattle.row_program.specs.declared.Limit.{Limit}
use Rattle.row_program.specs.Points.{cost_of, row_value}
use Rattle.row_program.specs.declared.program.Row.{Row}
use Rattle.row_program.specs.declared.program.Term.{Term}
use Rattle.sig_graph.specs.Paths.{arcs_of}
use Rattle.sig_graph.specs.Rows.{one_where, row_weight_of}
use Rattle.goal_rows.specs.KeyCounts.{is_held, is_over}
use Rattle.goal_rows.specs.Suffixes.{others, those}
use Rattle.goal_rows.specs.declared.goals.Goal.{Goal}
use Rattle.goal_rows.specs.declared.goals.Goal.TheVariants.{Root, Suffix, Pair, Cover}
use Rattle.goal_rows.specs.declared.parts.Ground.{Ground}
use Rattle.goal_rows.specs.declared.weighings.Weighing.{Weighing}
use Rattle.goal_rows.specs.declared.weighings.Weighing.TheVariants.{Level, Over, Held, Limited, Leaving, Through}

-- ---- variables

-- the arcs of a suffix's graph; other goals have none
abbrev pub arcs_under : Goal → List (ℕ × ℕ)
arcs_under Root = []
arcs_under (Suffix suffix) = arcs_of (length suffix)
arcs_under (Pair g l) = []
arcs_under (Cover x) = []

-- the classes' variables, each of cost 1, and then those of the arcs, each of cost 0
abbrev pub costs_of : List (ℕ × ℕ) → List (ℕ × ℕ) → List ℕ
costs_of classes arcs = replicate (length classes) 1 ++ replicate (length arcs) 0

-- ---- what a row counts

-- the feature is that of this key
abbrev pub has_key : ℕ → Feature → Bool
has_key key (From other) = other == key
has_key key (Arc u p) = false

-- the feature is this arc
abbrev pub has_ends : ℕ × ℕ → Feature → Bool
has_ends a (From key) = false
has_ends a (Arc u p) = (u == a.0) && (p == a.1)

-- what a replacement that counts for the limit's feature changes in its value
abbrev pub one_more_in : Limit → ℤ
one_more_in limit = if limit.at_most then pos 0 -ℤ pos 1 else pos 1

-- what a row counts for the replacement of a ballot of this key. In the row of a pair and in those of a cover the new
-- ballot is the one that ranks the gainer, or the candidate, alone
abbrev pub key_weight : Weighing → ℕ → ℤ
key_weight (Level best) key = pos (best - key)
key_weight (Over x j) key = pos 1 -ℤ (pos (one_where (is_over x j key)) -ℤ pos (one_where (stands key j)))
key_weight (Held i j) key = pos (one_where (is_held i i key)) -ℤ pos (one_where (is_held i j key))
key_weight (Limited limit) key = if has_key key limit.feature then one_more_in limit else pos 0
key_weight Leaving key = pos 1
key_weight (Through p) key = pos 0

-- what it counts for a new ballot whose signature has this arc
abbrev pub arc_weight : Weighing → ℕ × ℕ → ℤ
arc_weight (Level best) a = pos 0
arc_weight (Over x j) a = pos 0
arc_weight (Held i j) a = row_weight_of (i + 1) (j + 1) a
arc_weight (Limited limit) a = if has_ends a limit.feature then one_more_in limit else pos 0
arc_weight Leaving a = pos 0 -ℤ pos (one_where (a.0 == 0))
arc_weight (Through p) a = pos (one_where (a.1 == p)) -ℤ pos (one_where (a.0 == p))

-- what it counts for each variable
abbrev pub weights_by : Weighing → List (ℕ × ℕ) → List (ℕ × ℕ) → List ℤ
weights_by weighing classes arcs = map (λ c. key_weight weighing c.0) classes ++ map (arc_weight weighing) arcs

-- ---- rows

-- what variable v counts
abbrev pub weight_of : List ℤ → ℕ → ℤ
weight_of weights v = slice_index_or weights v (pos 0)

-- the weight isn't 0
abbrev pub is_some_weight : ℤ → Bool
is_some_weight w = not (unsigned_abs w == 0)

-- the variable v, times what it counts
abbrev pub term_at : List ℤ → ℕ → Term
term_at weights v = record { variable = v; times = weight_of weights v }

-- the terms of the variables that count something
abbrev pub terms_of : List ℤ → List Term
terms_of weights = map (term_at weights) (those (length weights) (λ v. is_some_weight (weight_of weights v)))

-- a row with this constant
abbrev pub row_by : ℤ → List ℤ → Row
row_by constant weights = record { constant = constant; terms = terms_of weights }

-- how the rows of a suffix of m candidates count, in their order
abbrev pub held_rows : ℕ → List Weighing
held_rows m = flat_map (λ i. map (λ j. Held i j) (range_with_len (i + 1) (m - (i + 1)))) (range_with_len 0 m)

-- how the rows of a goal count, in their order
abbrev pub weighings_of : Ground → List Weighing
weighings_of start = elim start.goal [
  | Root ↦ []
  | Suffix suffix ↦ held_rows (length suffix)
  | Pair g l ↦ Level (unsigned_abs (start.lone +ℤ pos 1024)) ∷ []
  | Cover x ↦ map (λ j. Over x j) (others (length start.sums + 1) x)
]

-- the rows of the goal: each begins with its value before any replacement
abbrev pub goal_rows_of : Ground → List Row
goal_rows_of start =
    map (λ r. row_by r.0 (weights_by r.1 start.classes (arcs_under start.goal))) (zip start.sums (weighings_of start))

-- the value of a limit before any replacement
abbrev pub value_before : Limit → ℤ
value_before limit = if limit.at_most then pos limit.value else pos 0 -ℤ pos limit.value

-- the rows of the limits
abbrev pub limit_rows_of : Ground → List Limit → List Row
limit_rows_of start limits =
    map (λ limit. row_by (value_before limit) (weights_by (Limited limit) start.classes (arcs_under start.goal))) limits

-- no more ballots of the class k are replaced than the n that it has
abbrev pub class_row : ℕ → ℕ → Row
class_row k n = record { constant = pos n; terms = (record { variable = k; times = pos 0 -ℤ pos 1 }) ∷ [] }

abbrev pub class_rows_of : List (ℕ × ℕ) → List Row
class_rows_of classes = map (λ k. class_row k (slice_index_or classes k (0, 0)).1) (range_with_len 0 (length classes))

-- how the rows of the flow count: no more paths leave the start than ballots are replaced, and no more leave a place
-- than come to it
abbrev pub flow_weighings : Goal → List Weighing
flow_weighings Root = []
flow_weighings (Suffix suffix) = Leaving ∷ map (λ p. Through p) (range_with_len 1 (length suffix - 1))
flow_weighings (Pair g l) = []
flow_weighings (Cover x) = []

abbrev pub flow_rows_of : Ground → List Row
flow_rows_of start =
    map (λ weighing. row_by (pos 0) (weights_by weighing start.classes (arcs_under start.goal)))
    (flow_weighings start.goal)

-- all rows of a node: those of the goal and of the limits, which get multipliers, and then those of the classes and of
-- the flow
abbrev pub program_rows : Ground → List Limit → List Row
program_rows start limits =
    goal_rows_of start ++ limit_rows_of start limits ++ class_rows_of start.classes ++ flow_rows_of start

-- whole numbers, one a variable, over one denominator, at which each row of the node is at least 0
pub record IsPointOf (start : Ground) (limits : List Limit) (whole : List ℕ) (den : ℕ) : Type 0 where
  pub all_variables : length whole ≡ length (costs_of start.classes (arcs_under start.goal))
  pub positive : 1 ≤ den
  pub meets : All (λ row. pos 0 ≤ℤ row_value row whole den) (program_rows start limits)

-- what such numbers cost: the sum of those of the classes
abbrev pub point_cost_of : Ground → List ℕ → ℕ
point_cost_of start whole = cost_of (costs_of start.classes (arcs_under start.goal)) whole
