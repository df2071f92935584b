-- What the multipliers of a node make of its rows and limits: the value before any replacement, what each arc or the
-- best new ballot brings, and what an old ballot costs, by its key.
use Rattle.std.specs.Prelude.{◌≡◌, ℕ, ◌+◌, ◌-◌, ◌==◌, ◌&&◌, Bool, false, List, map, filter, take, drop, length, slice_index, if◌then◌else◌, unsigned_abs, ℤ, pos, ◌+ℤ◌, ◌-ℤ◌, ◌*ℤ◌}
use Rattle.std.specs.Int.{int_max}
use Rattle.std.specs.List.{flat_map, range_with_len, zip}
use Rattle.mov_base.specs.Sums.{add_up, sum_z}
use Rattle.irv_count.specs.Orders.{stands}
use Rattle.row_program.specs.declared.Feature.{Feature}
use Rattle.row_program.specs.declared.Feature.TheVariants.{From, Arc}
use Rattle.row_program.specs.declared.Limit.{Limit}
use Rattle.sig_graph.specs.Paths.{IsBest, arcs_of, path_sum}
use Rattle.sig_graph.specs.Rows.{one_where, row_weight_of}
use Rattle.goal_rows.specs.KeyCounts.{is_over}
use Rattle.goal_rows.specs.Suffixes.{others}
use Rattle.goal_rows.specs.declared.goals.Goal.TheVariants.{Root, Suffix, Pair, Cover}
use Rattle.goal_rows.specs.declared.parts.Ground.{Ground}

-- the multipliers of the goal's rows, and those of the limits behind them
abbrev pub of_rows : Ground → List ℕ → List ℕ
of_rows start ls = take (length start.sums) ls

abbrev pub of_limits : Ground → List ℕ → List ℕ
of_limits start ls = drop (length start.sums) ls

-- ---- before any replacement

-- the value of a limit
abbrev pub limit_start : Limit → ℤ
limit_start limit = if limit.at_most then pos limit.value else pos 0 -ℤ pos limit.value

-- values times multipliers, together
abbrev pub times_all : List ℕ → List ℤ → ℤ
times_all ls values = sum_z (λ v. pos v.0 *ℤ v.1) (zip ls values)

-- the values of the rows and limits times their multipliers
abbrev pub base_by : Ground → List Limit → List ℕ → ℤ
base_by start limits ls =
    times_all (of_rows start ls) start.sums +ℤ times_all (of_limits start ls) (map limit_start limits)

-- ---- limits

-- what a replacement that counts for a limit's feature brings
abbrev pub signed : Limit → ℕ → ℤ
signed limit l = if limit.at_most then pos 0 -ℤ pos l else pos l

-- the feature is that of this key
abbrev pub is_from : ℕ → Feature → Bool
is_from key (From other) = other == key
is_from key (Arc u p) = false

-- the feature is this arc
abbrev pub is_arc : ℕ × ℕ → Feature → Bool
is_arc a (From key) = false
is_arc a (Arc u p) = (u == a.0) && (p == a.1)

-- what limits with these multipliers bring where a replacement counts for the features that pass
abbrev pub limits_bring : (Feature → Bool) → List ℕ → List Limit → ℤ
limits_bring test ls limits = sum_z (λ l. if test l.1.feature then signed l.1 l.0 else pos 0) (zip ls limits)

-- ---- suffixes of m candidates

-- the places, from 1, that the rows compare: each of them with each later one
abbrev pub row_places : ℕ → List (ℕ × ℕ)
row_places m = flat_map (λ i. map (λ j. (i, j)) (range_with_len (i + 1) (m - i))) (range_with_len 1 (m - 1))

-- what an arc brings by the rows with these multipliers
abbrev pub rows_bring : ℕ → List ℕ → ℕ × ℕ → ℤ
rows_bring m rows a = sum_z (λ r. pos r.0 *ℤ row_weight_of r.1.0 r.1.1 a) (zip rows (row_places m))

-- what the arcs bring by the rows, in their order
abbrev pub row_arcs : ℕ → List ℕ → List ℤ
row_arcs m rows = map (rows_bring m rows) (arcs_of m)

-- what the arcs bring by the rows and the limits
abbrev pub all_arcs : Ground → List Limit → List ℕ → ℕ → List ℤ
all_arcs start limits ls m =
    map (λ a. rows_bring m (of_rows start ls) a +ℤ limits_bring (is_arc a) (of_limits start ls) limits) (arcs_of m)

-- the places of a signature with this key
abbrev pub places_by : ℕ → ℕ → List ℕ
places_by m key = filter (λ p. stands key (p - 1)) (range_with_len 1 m)

-- ---- covers

-- what a ballot with this key counts in the row of a cover of x that compares it with j
abbrev pub over_weight : ℕ → ℕ → ℕ → ℤ
over_weight x key j = pos (one_where (is_over x j key)) -ℤ pos (one_where (stands key j))

-- ---- each goal

-- what a ballot of this key counts in the rows, times their multipliers
abbrev pub rows_cost : Ground → List ℕ → ℕ → ℤ
rows_cost start rows key = elim start.goal [
  | Root ↦ pos 0
  | Suffix suffix ↦ path_sum (length suffix) (row_arcs (length suffix) rows) 0 (places_by (length suffix) key)
  | Pair g l ↦ pos (slice_index rows 0) *ℤ (pos key -ℤ pos 1024)
  | Cover x ↦ times_all rows (map (over_weight x key) (others (length start.sums + 1) x))
]

-- what a ballot of this key costs where it is replaced
abbrev pub cost_by : Ground → List Limit → List ℕ → ℕ → ℤ
cost_by start limits ls key =
    rows_cost start (of_rows start ls) key -ℤ limits_bring (is_from key) (of_limits start ls) limits

-- the most that a new ballot brings
abbrev pub IsBestNew : Ground → List Limit → List ℕ → ℤ → Type 0
IsBestNew start limits ls best = elim start.goal [
  | Root ↦ best ≡ pos 0
  | Suffix suffix ↦ IsBest (length suffix) (all_arcs start limits ls (length suffix)) 0 best
  | Pair g l ↦ best ≡ pos (slice_index (of_rows start ls) 0) *ℤ start.lone
  | Cover x ↦ best ≡ pos (add_up (λ l. l) (of_rows start ls))
]

-- what is gained where the best new ballot replaces one of this cost; nothing where that costs more
abbrev pub gain_over : ℤ → ℤ → ℕ
gain_over best cost = unsigned_abs (int_max (best -ℤ cost) (pos 0))

-- the gain of a ballot of this key
abbrev pub gain_by : ℤ → (ℕ → ℤ) → ℕ → ℕ
gain_by best cost key = gain_over best (cost key)
