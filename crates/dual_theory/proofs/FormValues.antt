-- The values of all variables of a program, where those of the program's own are given, and what every form of a run keeps.
use Rattle.std.specs.Prelude.{ℕ, ℤ, pos, ◌≡◌, ◌≢◌, ◌<◌, ◌+◌, ◌-◌, ◌+ℤ◌, ◌*ℤ◌, ◌<ℤ◌, ◌≤ℤ◌, length, slice_index, slice_index_or, if◌then◌else◌, ◌==◌, nat_le}
use Rattle.exact_num.specs.Divisors.{IsPrimitive}
use Rattle.row_program.specs.Sums.{sum_from, LexPositive}
use Rattle.row_program.specs.Forms.{Table, Tableau, row_of, basic_of, right_side, tableau, coefficient, empty_row, variable_count, Holds, IsNonbasic}
use Rattle.row_program.specs.declared.program.Row.{Row}
use Rattle.row_program.specs.declared.program.Program.{Program}
use Rattle.pivot_form.proofs.NextForm.{IsShaped}

-- the cost at x
abbrev pub cost_at : Program → (ℕ → ℤ) → ℤ
cost_at p x = sum_from (length p.costs) 0 (λ v. pos (slice_index p.costs v) *ℤ x v)

-- a row over so many variables at x / d, times d
abbrev pub row_at : ℕ → Row → (ℕ → ℤ) → ℤ → ℤ
row_at variables row x d = row.constant *ℤ d +ℤ sum_from variables 0 (λ v. coefficient row.terms v *ℤ x v)

-- the value of each variable of the program's forms at x / d, times d: the cost's, those of the program's own, the slacks'
abbrev pub value_of : Program → (ℕ → ℤ) → ℤ → ℕ → ℤ
value_of p x d j =
    if j == 0 then cost_at p x
    else if nat_le j (length p.costs) then x (j - 1)
    else row_at (length p.costs) (slice_index_or p.rows (j - (1 + length p.costs)) empty_row) x d

-- a solution of the equations without right sides that raises, of all nonbasic variables, j alone
pub record IsDirection (t : Tableau) (j : ℕ) (y : ℕ → ℤ) : Type 0 where
  pub holds : Holds t y (pos 0)
  pub rises : pos 0 <ℤ y j
  pub alone : (k : ℕ) → k < t.width → IsNonbasic t k → k ≢ j → y k ≡ pos 0

-- a solution at d that is 0 at each nonbasic variable
pub record IsBase (t : Tableau) (y : ℕ → ℤ) (d : ℤ) : Type 0 where
  pub holds : Holds t y d
  pub positive : pos 0 <ℤ d
  pub rests : (k : ℕ) → k < t.width → IsNonbasic t k → y k ≡ pos 0

-- a direction of the nonbasic variable j in which the first of the cost and the program's variables that moves rises
pub record HasDirection (p : Program) (t : Table) (j : ℕ) : Type 0 where
  pub x : ℕ → ℤ
  pub direction : IsDirection (tableau t) j (value_of p x (pos 0))
  pub positive : LexPositive (1 + length p.costs) 0 (value_of p x (pos 0))

-- the values of a form
pub record HasBase (p : Program) (t : Table) : Type 0 where
  pub x : ℕ → ℤ
  pub d : ℤ
  pub base : IsBase (tableau t) (value_of p x d) d

-- what every form of the run of p keeps
pub record IsRun (p : Program) (t : Table) : Type 0 where
  pub variables : t.variables ≡ variable_count p
  pub height : length t.rows ≡ length p.rows + 1
  pub shape : IsShaped t
  pub reduced : (i : ℕ) → i < length t.rows → IsPrimitive (row_of t i)
  pub cost_first : basic_of t 0 ≡ 0
  pub cost_above : pos 0 ≤ℤ right_side t 0
  pub sound : (x : ℕ → ℤ) (d : ℤ) → Holds (tableau t) (value_of p x d) d
  pub directions : (j : ℕ) → j < t.variables → IsNonbasic (tableau t) j → HasDirection p t j
  pub base : HasBase p t
