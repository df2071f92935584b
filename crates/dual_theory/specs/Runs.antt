-- Along a run of the exact method: its values rise.
use Rattle.std.specs.Prelude.{ℕ, ℤ, pos, ◌≡◌, ◌≢◌, ◌<◌, ◌*ℤ◌, ◌-ℤ◌, Option, Some, None}
use Rattle.row_program.specs.Sums.{LexPositive}
use Rattle.row_program.specs.Forms.{Table, entry, right_side, tableau, IsNonbasic}
use Rattle.row_program.specs.Method.{row_of_basic, value_count, column, leaving, entering, run_of}
use Rattle.row_program.specs.declared.program.Program.{Program}

-- the value of the variable v is value_num over value_den: the right side of its row over its entry there, or 0 over 1
abbrev pub num_in : Table → Option ℕ → ℤ
num_in t None = pos 0
num_in t (Some i) = right_side t i

abbrev pub den_in : Table → ℕ → Option ℕ → ℤ
den_in t v None = pos 1
den_in t v (Some i) = entry t i v

abbrev pub value_num : Table → ℕ → ℤ
value_num t v = num_in t (row_of_basic t v)

abbrev pub value_den : Table → ℕ → ℤ
value_den t v = den_in t v (row_of_basic t v)

-- what the value of v is more in u than in t, times both denominators
abbrev pub gain : Table → Table → ℕ → ℤ
gain t u v = value_num u v *ℤ value_den t v -ℤ value_num t v *ℤ value_den u v

-- the values of the cost and the program's variables in u are lexicographically above those in t
abbrev pub IsAbove : Table → Table → Type 0
IsAbove t u = LexPositive (value_count t) 0 (gain t u)

-- a variable leaves and a variable enters
abbrev pub GoesOn : Table → Type 0
GoesOn t = (row : ℕ) × (column : ℕ) × (leaving t ≡ Some row) × (entering t row ≡ Some column)

-- wherever the run goes on, the values rise, and stay above for good
abbrev pub Rises : Program → Type 0
Rises p = (j k : ℕ) → j < k → GoesOn (run_of p j) → IsAbove (run_of p j) (run_of p k)

-- so no form comes twice
abbrev pub NoneTwice : Program → Type 0
NoneTwice p = (j k : ℕ) → j < k → GoesOn (run_of p j) → run_of p j ≢ run_of p k

-- the columns of all nonbasic variables stay lexicographically positive
abbrev pub ColumnsPositive : Program → Type 0
ColumnsPositive p =
    (k j : ℕ) → j < (run_of p k).variables → IsNonbasic (tableau (run_of p k)) j →
    LexPositive (value_count (run_of p k)) 0 (column (run_of p k) j)
