-- The multipliers of a cell, whose limits leave each variable of its program one value. There are three cases: these
-- values break a row of the goal; they break a row of the flow and none of the goal; they break no row. The limits'
-- rows and those of the classes are never broken in a cell.
use Rattle.std.specs.Prelude.{ℕ, ◌==◌, ◌&&◌, not, nat_lt, Bool, Option, None, Some, List, [], ◌∷◌, ◌++◌, if◌then◌else◌, length, map, slice_index, slice_index_or, unsigned_abs, ℤ, pos, ◌-ℤ◌, int_lt}
use Rattle.std.specs.Int.{int_max}
use Rattle.std.specs.List.{list_any, position, range_with_len}
use Rattle.ballot_form.specs.Scores.{is_some_of}
use Rattle.sig_graph.specs.Rows.{one_where}
use Rattle.row_program.specs.Forms.{empty_row}
use Rattle.row_program.specs.Points.{row_value}
use Rattle.row_program.specs.declared.Feature.{Feature}
use Rattle.row_program.specs.declared.Feature.TheVariants.{From, Arc}
use Rattle.row_program.specs.declared.Limit.{Limit}
use Rattle.row_program.specs.declared.program.Row.{Row}
use Rattle.row_program.specs.declared.program.Term.{Term}
use Rattle.goal_rows.specs.Cells.{cell_values, low_end, same_feature, variables_of}
use Rattle.goal_rows.specs.Programs.{program_rows}
use Rattle.goal_rows.specs.declared.parts.Ground.{Ground}
use Rattle.dual_bound.specs.declared.cell_cuts.Case.{Case}
use Rattle.dual_bound.specs.declared.cell_cuts.Case.TheVariants.{GoalRow, FlowRow, NoRow}

-- ---- rows at values

-- the row is below 0 at these values
abbrev pub is_broken : List ℕ → Row → Bool
is_broken values row = int_lt (row_value row values 1) (pos 0)

-- the number of the first row of the cell's program that its values break
abbrev pub first_broken : Ground → List Limit → Option ℕ
first_broken start limits = position (is_broken (cell_values start limits)) (program_rows start limits)

-- ---- terms

-- the features of the variables of a program, in its order
abbrev pub features_of : Ground → List Feature
features_of start = map (λ v. v.feature) (variables_of start)

-- the feature that the variable v counts
abbrev pub feature_at : List Feature → ℕ → Feature
feature_at features v = slice_index_or features v (From 0)

-- what the terms multiply the variable of a feature by; 0 where none is of it
abbrev pub times_on : List Feature → Feature → List Term → ℤ
times_on features feature [] = pos 0
times_on features feature (t ∷ terms) =
    if same_feature feature (feature_at features t.variable) then t.times else times_on features feature terms

-- ---- tight limits

-- the limit has the one value of its feature's variable
abbrev pub is_tight : List Limit → Limit → Bool
is_tight limits limit = limit.value == low_end limits limit.feature

-- the two limits are both upper ones, or both lower ones
abbrev pub same_kind : Bool → Bool → Bool
same_kind a b = if a then b else not b

-- they are of one kind, on one feature, and have one value
abbrev pub same_limit : Limit → Limit → Bool
same_limit a b = same_kind a.at_most b.at_most && (same_feature a.feature b.feature && (a.value == b.value))

-- the limit is the tightest of its kind on its variable: of equal ones, the first. Before it stand these
abbrev pub is_tightest : List Limit → List Limit → Limit → Bool
is_tightest limits before limit = is_tight limits limit && not (list_any (same_limit limit) before)

-- a tight upper limit is on the feature
abbrev pub has_upper : List Limit → Feature → Bool
has_upper limits feature =
    list_any (λ limit. limit.at_most && (same_feature feature limit.feature && is_tight limits limit)) limits

-- ---- the three cases: what the tightest limits get

-- how far a number is above 0
abbrev pub above_none : ℤ → ℕ
above_none z = unsigned_abs (int_max z (pos 0))

-- what a term gives a limit on its variable: an upper one the term, where that is positive, and a lower one its size,
-- where it is negative
abbrev pub given_by : Limit → ℤ → ℕ
given_by limit times = if limit.at_most then above_none times else above_none (pos 0 -ℤ times)

-- what the terms of a row give a limit
abbrev pub by_row : List Feature → List Term → Limit → ℕ
by_row features terms limit = given_by limit (times_on features limit.feature terms)

-- the term's variable comes to the flow's row with as many as there are ballots, and no tight upper limit is on it
abbrev pub is_unbounded : Ground → List Limit → Term → Bool
is_unbounded start limits t =
    int_lt (pos 0) t.times
    && ((slice_index (cell_values start limits) t.variable == start.ballots)
    && not (has_upper limits (feature_at (features_of start) t.variable)))

-- 1 for the feature of a class, 0 for an arc's
abbrev pub classes_in : Feature → ℕ
classes_in (From key) = 1
classes_in (Arc u p) = 0

-- the first case, of a row of the goal: a limit gets what the row gives it. The second, of a row of the flow, whose
-- terms are 1 for what comes to a place and less 1 for what leaves it: the same, but that upper limits get nothing where
-- something that comes to the place is unbounded, and lower limits of 0 get nothing. The third, of no row: lower limits
-- above 0 on classes get 1
abbrev pub given_in : Case → List Feature → List Term → Limit → ℕ
given_in GoalRow features terms limit = by_row features terms limit
given_in (FlowRow unbounded) features terms limit =
    if limit.at_most then (if unbounded then 0 else by_row features terms limit)
    else if limit.value == 0 then 0 else by_row features terms limit
given_in NoRow features terms limit =
    if limit.at_most then 0 else if limit.value == 0 then 0 else classes_in limit.feature

-- the terms of the first broken row
abbrev pub terms_at : List Row → Option ℕ → List Term
terms_at rows None = []
terms_at rows (Some r) = (slice_index_or rows r empty_row).terms

-- the case, by the number of the first broken row and its terms
abbrev pub case_of : Ground → List Limit → Option ℕ → List Term → Case
case_of start limits None terms = NoRow
case_of start limits (Some r) terms =
    if nat_lt r (length start.sums) then GoalRow else FlowRow (list_any (is_unbounded start limits) terms)

-- what the cell's case gives a limit
abbrev pub cell_gives : Ground → List Limit → Limit → ℕ
cell_gives start limits =
    let terms = terms_at (program_rows start limits) (first_broken start limits) in
    given_in (case_of start limits (first_broken start limits) terms) (features_of start) terms

-- ---- the multipliers

-- the tightest of the limits get what `give` says, the others 0; before these stand others
abbrev pub given_each : List Limit → (Limit → ℕ) → List Limit → List Limit → List ℕ
given_each limits give before [] = []
given_each limits give before (limit ∷ rest) =
    (if is_tightest limits before limit then give limit else 0)
    ∷ given_each limits give (before ++ limit ∷ []) rest

-- one for each row of the goal, 1 for the first broken one; and then one for each limit
abbrev pub cell_multipliers : Ground → List Limit → List ℕ
cell_multipliers start limits =
    map (λ r. one_where (is_some_of (first_broken start limits) r)) (range_with_len 0 (length start.sums))
    ++ given_each limits (cell_gives start limits) [] limits
