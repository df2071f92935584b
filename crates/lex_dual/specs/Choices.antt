-- The table of rows, and the choices as they are made, one row or one variable at a time: what the calls inside the
-- crate say to each other. No promise to a caller rests on these.
use Rattle.std.specs.Prelude.{ℕ, ℤ, pos, ◌<◌, ◌≤◌, ◌-◌, ◌==◌, ◌<ℤ◌, ◌≤ℤ◌, List, map, slice_index_or, Bool, Option, Some, None, if◌then◌else◌}
use lib.IntN.{neg_ℤ}
use Rattle.std.specs.List.{range_with_len}
use Rattle.row_program.specs.Forms.{IsNonbasic, Table, basic_of, entry, right_side, row_of, tableau}
use Rattle.row_program.specs.Method.{row_of_basic, value_count, column, difference, lex_negative, first_least_of}

-- the row of the cost and of each variable of the program, where it is basic
abbrev pub places_of : Table → List (Option ℕ)
places_of t = map (row_of_basic t) (range_with_len 0 (value_count t))

-- of the first n rows, that of the first negative basic variable
abbrev pub IsFirstNegative : Table → ℕ → Option ℕ → Type 0
IsFirstNegative t n None = (i : ℕ) → i < n → pos 0 ≤ℤ right_side t i
IsFirstNegative t n (Some b) =
    (b < n) × (right_side t b <ℤ pos 0)
    × ((i : ℕ) → i < n → right_side t i <ℤ pos 0 → basic_of t b ≤ basic_of t i)

-- the equation of the row, if there is one
abbrev pub equation_at : Table → Option ℕ → Option (List ℤ)
equation_at t None = None
equation_at t (Some row) = Some (row_of t row)

-- the equation of the variable v, if it is basic
abbrev pub equation_of : Table → ℕ → Option (List ℤ)
equation_of t v = equation_at t (row_of_basic t v)

-- the coefficient of the variable v in the nonbasic variable j, by the equation of v, times the basic entry there
abbrev pub coefficient_in : Option (List ℤ) → ℕ → ℕ → ℤ
coefficient_in None v j = if v == j then pos 1 else pos 0
coefficient_in (Some row) v j = neg_ℤ (slice_index_or row j (pos 0))

-- the variable has a positive coefficient in the row
abbrev pub IsCandidate : Table → ℕ → ℕ → Type 0
IsCandidate t row j = (j < t.variables) × (entry t row j <ℤ pos 0)

-- a variable that is nonbasic
abbrev pub IsOutside : Table → ℕ → Type 0
IsOutside t j = (j < t.variables) × IsNonbasic (tableau t) j

-- the column of j comes before that of k by the variables from v on, each divided by its own coefficient in the row
abbrev pub comes_before_from : Table → ℕ → ℕ → ℕ → ℕ → Bool
comes_before_from t row v j k =
    lex_negative (value_count t - v) v
    (difference (column t j) (neg_ℤ (entry t row j)) (column t k) (neg_ℤ (entry t row k)))

-- the first of those candidates whose columns are least by the variables from v on
abbrev pub entering_among : Table → ℕ → ℕ → List ℕ → Option ℕ
entering_among t row v js = first_least_of (comes_before_from t row v) js
