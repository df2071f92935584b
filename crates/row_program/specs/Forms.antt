-- Forms: the equations that a program begins with, and those that a pivot makes of others. Entries are whole numbers of any
-- size.
--
-- The variables of a form are, in order, the cost, those of the program, and one slack a row, the row's value.
use Rattle.std.specs.Prelude.{ℕ, ℤ, pos, suc, zero, ◌-◌, ◌≡◌, ◌≢◌, ◌<◌, ◌+◌, ◌+ℤ◌, ◌*ℤ◌, ◌-ℤ◌, ◌<ℤ◌, List, [], ◌∷◌, map, length, slice_index, slice_index_or, slice_set, if◌then◌else◌, ◌==◌, nat_le, int_lt, unsigned_abs, Option, Some, None}
use lib.IntN.{neg_ℤ}
use Rattle.std.specs.List.{All, range_with_len}
use Rattle.std.specs.Option.{option_or}
use Rattle.exact_num.specs.Divisors.{primitive, IsPrimitive}
use Rattle.exact_num.specs.declared.limits.TheConstants.{WIDE}
use Rattle.row_program.specs.Sums.{sum_from}
use Rattle.row_program.specs.declared.program.Term.{Term}
use Rattle.row_program.specs.declared.program.Row.{Row}
use Rattle.row_program.specs.declared.program.Program.{Program}

-- equations, each the entries of all variables and then the right side, and the basic variable of each
pub record Table : Type 0 where
  pub variables : ℕ
  pub rows : List (List ℤ)
  pub basis : List ℕ

abbrev pub row_of : Table → ℕ → List ℤ
row_of t i = slice_index_or t.rows i []

abbrev pub entry : Table → ℕ → ℕ → ℤ
entry t i j = slice_index_or (row_of t i) j (pos 0)

-- the right side stands after the columns
abbrev pub right_side : Table → ℕ → ℤ
right_side t i = entry t i t.variables

abbrev pub basic_of : Table → ℕ → ℕ
basic_of t i = slice_index t.basis i

-- ---- the first form
-- the coefficient of a variable: the sum of the times of its terms
abbrev pub coefficient : List Term → ℕ → ℤ
coefficient [] v = pos 0
coefficient (t ∷ terms) v = (if t.variable == v then t.times else pos 0) +ℤ coefficient terms v

abbrev pub variable_count : Program → ℕ
variable_count p = 1 + length p.costs + length p.rows

abbrev pub empty_row : Row
empty_row = record { constant = pos 0; terms = [] }

-- the equation of the cost: the cost less the costs of the variables is 0
abbrev pub cost_entry : List ℕ → ℕ → ℤ
cost_entry costs j = if j == 0 then pos 1 else neg_ℤ (pos (slice_index costs (j - 1)))

-- the equation of row i, of so many variables and rows: its slack less its terms is its constant
abbrev pub slack_entry : ℕ → ℕ → ℕ → Row → ℕ → ℤ
slack_entry variables rows i row j =
    if j == 0 then pos 0
    else if nat_le j variables then neg_ℤ (coefficient row.terms (j - 1))
    else if j == 1 + variables + rows then row.constant
    else if j == 1 + variables + i then pos 1
    else pos 0

abbrev pub first_entry : Program → ℕ → ℕ → ℤ
first_entry p zero j = cost_entry p.costs j
first_entry p (suc i) j = slack_entry (length p.costs) (length p.rows) i (slice_index_or p.rows i empty_row) j

-- the cost is basic in its equation, and the slack of each row in that row's
abbrev pub first_basic : ℕ → ℕ → ℕ
first_basic variables zero = 0
first_basic variables (suc i) = 1 + variables + i

abbrev pub first_row : Program → ℕ → List ℤ
first_row p i = map (first_entry p i) (range_with_len 0 (variable_count p + 1))

abbrev pub first_form : Program → Table
first_form p = record {
  variables = variable_count p;
  rows = map (first_row p) (range_with_len 0 (length p.rows + 1));
  basis = map (first_basic (length p.costs)) (range_with_len 0 (length p.rows + 1));
}

-- ---- a pivot
-- p times the row less q times the lead
abbrev pub combination : ℤ → List ℤ → ℤ → List ℤ → List ℤ
combination p [] q lead = []
combination p (x ∷ row) q [] = []
combination p (x ∷ row) q (y ∷ lead) = (p *ℤ x -ℤ q *ℤ y) ∷ combination p row q lead

-- the row, cleared in the column by the lead, and divided by its greatest common divisor
abbrev pub eliminated : ℕ → List ℤ → List ℤ → List ℤ
eliminated column row lead =
    primitive (combination (slice_index_or lead column (pos 0)) row (slice_index_or row column (pos 0)) lead)

-- what becomes of the row with the number i
abbrev pub next_row : ℕ → ℕ → List ℤ → ℕ → List ℤ → List ℤ
next_row place column lead i row = if i == place then lead else eliminated column row lead

-- f of each item and its number, from i on
abbrev pub map_from : {X : Type 0} → (ℕ → X → X) → ℕ → List X → List X
map_from f i [] = []
map_from f i (x ∷ xs) = f i x ∷ map_from f (suc i) xs

-- the equation, turned so that its entry in the column is positive
abbrev pub turned : ℕ → List ℤ → List ℤ
turned column row = if int_lt (slice_index_or row column (pos 0)) (pos 0) then map (λ x. neg_ℤ x) row else row

-- the next form: the column's variable becomes basic in the row at the place, and every other equation is cleared of it
abbrev pub next_form : Table → ℕ → ℕ → Table
next_form t place column = record {
  variables = t.variables;
  rows = map_from (next_row place column (turned column (row_of t place))) 0 t.rows;
  basis = slice_set t.basis place column;
}

-- ---- large entries
-- the size of the first entry of 63 bits or more
abbrev pub first_large : List ℤ → Option ℕ
first_large [] = None
first_large (x ∷ row) = if nat_le WIDE (unsigned_abs x) then Some (unsigned_abs x) else first_large row

-- the same of equations, in their order, each right side after its columns
abbrev pub first_large_of : List (List ℤ) → Option ℕ
first_large_of [] = None
first_large_of (row ∷ rows) = option_or (first_large row) (first_large_of rows)

-- ---- what a form says
-- a form as functions
pub record Tableau : Type 0 where
  pub height : ℕ
  pub width : ℕ
  pub at : ℕ → ℕ → ℤ
  pub right : ℕ → ℤ
  pub basic : ℕ → ℕ

abbrev pub tableau : Table → Tableau
tableau t = record {
  height = length t.rows;
  width = t.variables;
  at = entry t;
  right = right_side t;
  basic = basic_of t;
}

-- the values y solve the equations, scaled by d
abbrev pub Holds : Tableau → (ℕ → ℤ) → ℤ → Type 0
Holds t y d = (i : ℕ) → i < t.height → sum_from t.width 0 (λ j. t.at i j *ℤ y j) ≡ t.right i *ℤ d

abbrev pub IsNonbasic : Tableau → ℕ → Type 0
IsNonbasic t j = (i : ℕ) → i < t.height → t.basic i ≢ j

-- each basic variable has a positive entry in its row, and 0 in the others
pub record IsSolved (t : Tableau) : Type 0 where
  pub within : (i : ℕ) → i < t.height → t.basic i < t.width
  pub positive : (i : ℕ) → i < t.height → pos 0 <ℤ t.at i (t.basic i)
  pub clear : (i k : ℕ) → i < t.height → k < t.height → k ≢ i → t.at k (t.basic i) ≡ pos 0

-- each equation has an entry for each variable and a right side, and no common divisor but 1
abbrev pub IsReduced : Table → Type 0
IsReduced t = All (λ row. (length row ≡ t.variables + 1) × IsPrimitive row) t.rows
