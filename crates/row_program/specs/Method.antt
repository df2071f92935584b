-- The exact method: the lexicographic dual simplex method (Dantzig, Orden and Wolfe; Lemke) over equations with whole
-- entries, as a run of forms, over whole numbers of any size.
use Rattle.std.specs.Prelude.{ℕ, ℤ, pos, suc, zero, ◌≡◌, ◌≤◌, ◌+◌, ◌-◌, ◌*ℤ◌, ◌-ℤ◌, ◌⊎◌, List, [], ◌∷◌, length, slice_index, if◌then◌else◌, ◌==◌, int_lt, Bool, true, false, Option, Some, None, find, filter}
use lib.IntN.{neg_ℤ}
use Rattle.std.specs.List.{range_with_len, position}
use Rattle.exact_num.specs.declared.limits.TheConstants.{WIDE}
use Rattle.row_program.specs.Points.{IsLeastPoint}
use Rattle.row_program.specs.Forms.{Table, entry, right_side, first_form, next_form, first_large_of}
use Rattle.row_program.specs.declared.program.Program.{Program}

-- the row whose basic variable is v
abbrev pub row_of_basic : Table → ℕ → Option ℕ
row_of_basic t v = position (λ b. b == v) t.basis

-- ---- what leaves
abbrev pub negative_in : Table → Option ℕ → Bool
negative_in t None = false
negative_in t (Some i) = int_lt (right_side t i) (pos 0)

-- v is basic, and its value is negative
abbrev pub is_negative : Table → ℕ → Bool
is_negative t v = negative_in t (row_of_basic t v)

abbrev pub row_of_found : Table → Option ℕ → Option ℕ
row_of_found t None = None
row_of_found t (Some v) = row_of_basic t v

-- the row of the first negative basic variable in the order of variables
abbrev pub leaving : Table → Option ℕ
leaving t = row_of_found t (find (is_negative t) (range_with_len 0 t.variables))

-- ---- what enters
-- the cost and the program's variables: those that are not slacks
abbrev pub value_count : Table → ℕ
value_count t = t.variables + 1 - length t.rows

abbrev pub column_in : Table → ℕ → ℕ → Option ℕ → ℤ
column_in t j v None = if v == j then pos 1 else pos 0
column_in t j v (Some i) = neg_ℤ (entry t i j)

-- the coefficient of the variable v in the nonbasic variable j, times the basic entry of the row of v, which is
-- positive
abbrev pub column : Table → ℕ → ℕ → ℤ
column t j v = column_in t j v (row_of_basic t v)

-- the first of f v, f (v + 1), .., of n values, that isn't 0 is negative
abbrev pub lex_negative : ℕ → ℕ → (ℕ → ℤ) → Bool
lex_negative zero v f = false
lex_negative (suc n) v f =
    if int_lt (f v) (pos 0) then true
    else (if int_lt (pos 0) (f v) then false else lex_negative n (suc v) f)

-- f / a less g / b, times a b
abbrev pub difference : (ℕ → ℤ) → ℤ → (ℕ → ℤ) → ℤ → ℕ → ℤ
difference f a g b v = f v *ℤ b -ℤ g v *ℤ a

-- the column of j comes before that of k, each divided by the variable's coefficient in the row
abbrev pub comes_before : Table → ℕ → ℕ → ℕ → Bool
comes_before t row j k =
    lex_negative (value_count t) 0
    (difference (column t j) (neg_ℤ (entry t row j)) (column t k) (neg_ℤ (entry t row k)))

-- the variables with a positive coefficient in the row: their entries are negative, so none of them is basic
abbrev pub candidates : Table → ℕ → List ℕ
candidates t row = filter (λ j. int_lt (entry t row j) (pos 0)) (range_with_len 0 t.variables)

-- the first of those that no other comes before
abbrev pub first_least : (ℕ → ℕ → Bool) → ℕ → List ℕ → ℕ
first_least before best [] = best
first_least before best (j ∷ js) = first_least before (if before j best then j else best) js

abbrev pub first_least_of : (ℕ → ℕ → Bool) → List ℕ → Option ℕ
first_least_of before [] = None
first_least_of before (j ∷ js) = Some (first_least before j js)

-- the candidate whose column is lexicographically least
abbrev pub entering : Table → ℕ → Option ℕ
entering t row = first_least_of (comes_before t row) (candidates t row)

-- ---- the run
abbrev pub pivot_at : Table → ℕ → Option ℕ → Table
pivot_at t row None = t
pivot_at t row (Some column) = next_form t row column

abbrev pub step_at : Table → Option ℕ → Table
step_at t None = t
step_at t (Some row) = pivot_at t row (entering t row)

-- the form after a pivot at the row and the column that the method chooses, or the same form where it ends
abbrev pub step : Table → Table
step t = step_at t (leaving t)

-- the form of the run after at most k pivots
abbrev pub run_of : Program → ℕ → Table
run_of p zero = first_form p
run_of p (suc k) = step (run_of p k)

-- no basic variable is negative
abbrev pub IsBest : Table → Type 0
IsBest t = leaving t ≡ None

-- the method ends at a row without a candidate
abbrev pub IsNever : Table → Type 0
IsNever t = (row : ℕ) × (leaving t ≡ Some row) × (entering t row ≡ None)

-- ---- wide numbers
-- an entry or a right side has 63 bits or more
abbrev pub HasLarge : Table → Type 0
HasLarge t = (size : ℕ) × (first_large_of t.rows ≡ Some size)

-- the denominator or a number of a point has 63 bits or more
abbrev pub HasLargeNumber : List ℕ → ℕ → Type 0
HasLargeNumber whole den = (WIDE ≤ den) ⊎ ((k : ℕ) × (WIDE ≤ slice_index whole k))

-- some form of the run has a large entry, or the run ends in Best at a least point with a large number
abbrev pub IsWide : Program → Type 0
IsWide p =
    ((k : ℕ) × HasLarge (run_of p k))
    ⊎ ((k : ℕ) × (whole : List ℕ) × (den : ℕ) × IsBest (run_of p k) × IsLeastPoint p whole den
    × HasLargeNumber whole den)
