-- A number of a form that falls along a run whose forms have no large entries.
use Rattle.std.specs.Prelude.{ℕ, pos, suc, zero, ◌+◌, ◌*◌, ◌-◌, ◌/◌, ◌^◌, ◌+ℤ◌, ◌*ℤ◌, unsigned_abs}
use Rattle.row_program.specs.Forms.{Table}
use Rattle.row_program.specs.Method.{value_count}
use Rattle.dual_theory.specs.Runs.{value_num, value_den}

-- the value of v, raised by 2 ^ 63 and rounded down to 126 places after the point, times 2 ^ 126
abbrev pub digit : Table → ℕ → ℕ
digit t v = unsigned_abs (value_num t v +ℤ pos (2 ^ 63) *ℤ value_den t v) * 2 ^ 126 / unsigned_abs (value_den t v)

-- the digits f v, f (v + 1), .., n of them, read as one number
abbrev pub number : ℕ → ℕ → ℕ → (ℕ → ℕ) → ℕ
number base zero v f = 0
number base (suc n) v f = f v * base ^ n + number base n (suc v) f

-- how far the values of the cost and the program's variables, read as one number, are from the greatest
abbrev pub measure : Table → ℕ
measure t = (2 ^ 190) ^ value_count t - number (2 ^ 190) (value_count t) 0 (digit t)
