-- The point of the last form: the values of the program's variables in their least common denominator.
use Rattle.std.specs.Prelude.{ℕ, suc, zero, ◌≡◌, ◌<◌, ◌+◌, ◌*◌, ◌/◌, ◌⊎◌, List, map, ◌++◌, length, nat_le, unsigned_abs, Option, Some, None, find, Bool}
use Rattle.std.specs.List.{range_with_len}
use Rattle.exact_num.specs.Divisors.{gcd_of}
use Rattle.exact_num.specs.declared.limits.TheConstants.{WIDE}
use Rattle.row_program.specs.Forms.{Table, first_large_of}
use Rattle.row_program.specs.Method.{run_of, IsBest, IsNever, IsWide}
use Rattle.row_program.specs.declared.program.Program.{Program}
use Rattle.dual_theory.specs.Runs.{value_num, value_den}

-- the least common multiple
abbrev pub lcm_of : ℕ → ℕ → ℕ
lcm_of a b = a * (b / gcd_of a b)

-- the value of the program's variable v, whose number among all variables is v + 1, in lowest terms
abbrev pub lowest_by : Table → ℕ → ℕ
lowest_by t v = gcd_of (unsigned_abs (value_num t (v + 1))) (unsigned_abs (value_den t (v + 1)))

abbrev pub lowest_num : Table → ℕ → ℕ
lowest_num t v = unsigned_abs (value_num t (v + 1)) / lowest_by t v

abbrev pub lowest_den : Table → ℕ → ℕ
lowest_den t v = unsigned_abs (value_den t (v + 1)) / lowest_by t v

-- the least common denominator of the first variables, so many
abbrev pub common_den : Table → ℕ → ℕ
common_den t zero = 1
common_den t (suc n) = lcm_of (common_den t n) (lowest_den t n)

-- the values of the first n variables times their least common denominator
abbrev pub whole_number : Table → ℕ → ℕ → ℕ
whole_number t n v = lowest_num t v * (common_den t n / lowest_den t v)

abbrev pub whole_numbers : Table → ℕ → List ℕ
whole_numbers t n = map (whole_number t n) (range_with_len 0 n)

-- the point of a form of p
abbrev pub point_whole : Program → Table → List ℕ
point_whole p t = whole_numbers t (length p.costs)

abbrev pub point_den : Program → Table → ℕ
point_den p t = common_den t (length p.costs)

-- a number has 63 bits or more
abbrev pub is_large : ℕ → Bool
is_large x = nat_le WIDE x

-- the first of the common denominators, and then of the numbers, that has 63 bits or more
abbrev pub large_in_point : Program → Table → Option ℕ
large_in_point p t =
    find is_large (map (common_den t) (range_with_len 1 (length p.costs)) ++ point_whole p t)

-- the number that `solve` names where a program is wide
abbrev pub IsWideSize : Program → ℕ → Type 0
IsWideSize p size =
    ((k : ℕ) × (first_large_of (run_of p k).rows ≡ Some size)
    × ((j : ℕ) → j < k → first_large_of (run_of p j).rows ≡ None))
    ⊎ ((k : ℕ) × IsBest (run_of p k) × ((j : ℕ) → first_large_of (run_of p j).rows ≡ None)
    × (large_in_point p (run_of p k) ≡ Some size))

-- a run ends: the program is wide, or it isn't and some form is the last
abbrev pub HasEnd : Program → Type 0
HasEnd p = ((size : ℕ) × IsWideSize p size) ⊎ ((k : ℕ) × (IsBest (run_of p k) ⊎ IsNever (run_of p k)) × (IsWide p → ⊥))
