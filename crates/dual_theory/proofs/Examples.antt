-- The definitions on small programs: how the run ends, the point, the multipliers, the large number. Each value is found by computing.
use Rattle.std.proofs.Common.{ℕ, ◌≡◌, refl, List, [], ◌∷◌, Some, None}
use Rattle.std.specs.Prelude.{ℤ, pos, negsuc}
use Rattle.exact_num.specs.Divisors.{gcd_of}
use Rattle.row_program.specs.Bounds.{IsProgram}
use Rattle.row_program.specs.Forms.{entry, right_side, first_large_of}
use Rattle.row_program.specs.Method.{leaving, entering, run_of}
use Rattle.row_program.specs.declared.program.Term.{Term}
use Rattle.row_program.specs.declared.program.Row.{Row}
use Rattle.row_program.specs.declared.program.Program.{Program}
use Rattle.dual_theory.specs.Ends.{point_whole, point_den, large_in_point}
use Rattle.dual_theory.specs.Multipliers.{multipliers_of}

abbrev term : ℕ → ℤ → Term
term v k = record { variable = v; times = k }

abbrev row : ℤ → List Term → Row
row c terms = record { constant = c; terms = terms }

-- m costs 1 and f costs 0; the rows are -1 + 2 f and 1 + 10 m - 2 f
abbrev first : Row
first = row (negsuc 0) (term 1 (pos 2) ∷ [])

abbrev second : Row
second = row (pos 1) (term 0 (pos 10) ∷ term 1 (negsuc 1) ∷ [])

module _ (bounds : IsProgram (1 ∷ 0 ∷ []) (first ∷ second ∷ []) 2) where
  abbrev two_rows : Program
  two_rows = record { costs = 1 ∷ 0 ∷ []; rows = first ∷ second ∷ []; kept = 2; bounds = bounds }

  two_rows_end : leaving (run_of two_rows 1) ≡ None
  unfolding gcd_of
  two_rows_end = refl

  two_rows_value : right_side (run_of two_rows 1) 0 ≡ pos 0
  unfolding gcd_of
  two_rows_value = refl

  two_rows_whole : point_whole two_rows (run_of two_rows 1) ≡ 0 ∷ 1 ∷ []
  unfolding gcd_of
  two_rows_whole = refl

  two_rows_den : point_den two_rows (run_of two_rows 1) ≡ 2
  unfolding gcd_of
  two_rows_den = refl

  two_rows_multipliers : multipliers_of two_rows (run_of two_rows 1) 0 ≡ 0 ∷ 0 ∷ []
  unfolding gcd_of
  two_rows_multipliers = refl

-- with 0 - f: no point
module _ (bounds : IsProgram (1 ∷ 0 ∷ []) (first ∷ second ∷ row (pos 0) (term 1 (negsuc 0) ∷ []) ∷ []) 3) where
  abbrev no_point : Program
  no_point = record { costs = 1 ∷ 0 ∷ []; rows = first ∷ second ∷ row (pos 0) (term 1 (negsuc 0) ∷ []) ∷ []; kept = 3; bounds = bounds }

  no_point_leaves : leaving (run_of no_point 1) ≡ Some 3
  unfolding gcd_of
  no_point_leaves = refl

  no_point_enters : entering (run_of no_point 1) 3 ≡ None
  unfolding gcd_of
  no_point_enters = refl

  no_point_multipliers : multipliers_of no_point (run_of no_point 1) 3 ≡ 1 ∷ 0 ∷ 2 ∷ []
  unfolding gcd_of
  no_point_multipliers = refl

-- with -1 + f: the least cost is 1/10
module _ (bounds : IsProgram (1 ∷ 0 ∷ []) (first ∷ second ∷ row (negsuc 0) (term 1 (pos 1) ∷ []) ∷ []) 3) where
  abbrev a_tenth : Program
  a_tenth = record { costs = 1 ∷ 0 ∷ []; rows = first ∷ second ∷ row (negsuc 0) (term 1 (pos 1) ∷ []) ∷ []; kept = 3; bounds = bounds }

  a_tenth_end : leaving (run_of a_tenth 3) ≡ None
  unfolding gcd_of
  a_tenth_end = refl

  a_tenth_value : right_side (run_of a_tenth 3) 0 ≡ pos 1
  unfolding gcd_of
  a_tenth_value = refl

  a_tenth_over : entry (run_of a_tenth 3) 0 0 ≡ pos 10
  unfolding gcd_of
  a_tenth_over = refl

  a_tenth_whole : point_whole a_tenth (run_of a_tenth 3) ≡ 1 ∷ 10 ∷ []
  unfolding gcd_of
  a_tenth_whole = refl

  a_tenth_den : point_den a_tenth (run_of a_tenth 3) ≡ 10
  unfolding gcd_of
  a_tenth_den = refl

  a_tenth_multipliers : multipliers_of a_tenth (run_of a_tenth 3) 0 ≡ 0 ∷ 1 ∷ 2 ∷ []
  unfolding gcd_of
  a_tenth_multipliers = refl

-- three values whose common denominator alone is large
abbrev apart_rows : List Row
apart_rows = row (negsuc 0) (term 0 (pos 2147483647) ∷ []) ∷ row (negsuc 0) (term 1 (pos 2147483646) ∷ []) ∷ row (negsuc 0) (term 2 (pos 2147483645) ∷ []) ∷ []

module _ (bounds : IsProgram (0 ∷ 0 ∷ 0 ∷ []) apart_rows 3) where
  abbrev large_den : Program
  large_den = record { costs = 0 ∷ 0 ∷ 0 ∷ []; rows = apart_rows; kept = 3; bounds = bounds }

  large_den_end : leaving (run_of large_den 3) ≡ None
  unfolding gcd_of
  large_den_end = refl

  large_den_narrow : first_large_of (run_of large_den 3).rows ≡ None
  unfolding gcd_of
  large_den_narrow = refl

  large_den_size : large_in_point large_den (run_of large_den 3) ≡ Some 9903520286612926112250986490
  unfolding gcd_of
  large_den_size = refl

-- three values of which a number alone is large
abbrev wide_rows : List Row
wide_rows = row (negsuc 2147483646) (term 0 (pos 1) ∷ []) ∷ row (negsuc 0) (term 1 (pos 2147483647) ∷ []) ∷ row (negsuc 0) (term 2 (pos 2147483646) ∷ []) ∷ []

module _ (bounds : IsProgram (0 ∷ 0 ∷ 0 ∷ []) wide_rows 3) where
  abbrev large_number : Program
  large_number = record { costs = 0 ∷ 0 ∷ 0 ∷ []; rows = wide_rows; kept = 3; bounds = bounds }

  large_number_end : leaving (run_of large_number 3) ≡ None
  unfolding gcd_of
  large_number_end = refl

  large_number_size : large_in_point large_number (run_of large_number 3) ≡ Some 9903520295836298136220860414
  unfolding gcd_of
  large_number_size = refl

-- a variable of the program leaves: -1 + x + y and -2 + x
abbrev leaving_rows : List Row
leaving_rows = row (negsuc 0) (term 0 (pos 1) ∷ term 1 (pos 1) ∷ []) ∷ row (negsuc 1) (term 0 (pos 1) ∷ []) ∷ []

module _ (bounds : IsProgram (0 ∷ 0 ∷ []) leaving_rows 2) where
  abbrev one_leaves : Program
  one_leaves = record { costs = 0 ∷ 0 ∷ []; rows = leaving_rows; kept = 2; bounds = bounds }

  one_leaves_on : (leaving (run_of one_leaves 2) ≡ Some 1)
  unfolding gcd_of
  one_leaves_on = refl

  one_leaves_end : leaving (run_of one_leaves 3) ≡ None
  unfolding gcd_of
  one_leaves_end = refl

  one_leaves_whole : point_whole one_leaves (run_of one_leaves 3) ≡ 2 ∷ 0 ∷ []
  unfolding gcd_of
  one_leaves_whole = refl

-- no point, and the kept row has no part in it: 0 + x is kept, -1 + x and 0 - x aren't
abbrev against_rows : List Row
against_rows = row (pos 0) (term 0 (pos 1) ∷ []) ∷ row (negsuc 0) (term 0 (pos 1) ∷ []) ∷ row (pos 0) (term 0 (negsuc 0) ∷ []) ∷ []

module _ (bounds : IsProgram (0 ∷ []) against_rows 1) where
  abbrev against : Program
  against = record { costs = 0 ∷ []; rows = against_rows; kept = 1; bounds = bounds }

  against_leaves : leaving (run_of against 1) ≡ Some 3
  unfolding gcd_of
  against_leaves = refl

  against_enters : entering (run_of against 1) 3 ≡ None
  unfolding gcd_of
  against_enters = refl

  against_multipliers : multipliers_of against (run_of against 1) 3 ≡ 0 ∷ []
  unfolding gcd_of
  against_multipliers = refl

-- a number past 63 bits: m costs 1; -1 + a f, a g - f and a h - g
abbrev past_rows : List Row
past_rows = row (negsuc 0) (term 1 (pos 2147483647) ∷ []) ∷ row (pos 0) (term 2 (pos 2147483647) ∷ term 1 (negsuc 0) ∷ []) ∷ row (pos 0) (term 3 (pos 2147483647) ∷ term 2 (negsuc 0) ∷ []) ∷ []

module _ (bounds : IsProgram (1 ∷ 0 ∷ 0 ∷ 0 ∷ []) past_rows 3) where
  abbrev past_bits : Program
  past_bits = record { costs = 1 ∷ 0 ∷ 0 ∷ 0 ∷ []; rows = past_rows; kept = 3; bounds = bounds }

  past_bits_before : first_large_of (run_of past_bits 1).rows ≡ None
  unfolding gcd_of
  past_bits_before = refl

  past_bits_size : first_large_of (run_of past_bits 2).rows ≡ Some 9903520300447984150353281023
  unfolding gcd_of
  past_bits_size = refl
