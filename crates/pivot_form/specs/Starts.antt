-- What is kept of a program's first form: a slot for the cost and for each row, but for those rows that say of one variable
-- alone that it is at most a number.
use Rattle.std.specs.Prelude.{ℕ, ℤ, pos, zero, suc, ◌≡◌, ◌<◌, ◌≤◌, ◌≤ℤ◌, ◌+◌, ◌-◌, ◌==◌, nat_le, if◌then◌else◌, List, [], ◌∷◌, length, slice_index_or, slice_set, is_some, Option, Some, None}
use lib.IntN.{neg_ℤ}
use Rattle.row_program.specs.declared.program.Row.{Row}
use Rattle.row_program.specs.declared.program.Program.{Program}
use Rattle.row_program.specs.Forms.{empty_row, first_basic, first_entry, variable_count}
use Rattle.pivot_form.specs.declared.places.Pair.{Pair}
use Rattle.pivot_form.specs.declared.places.Place.{Place}
use Rattle.pivot_form.specs.declared.places.Place.TheVariants.{Column, Kept, Paired}

-- ---- pairs
-- the row says of the variable alone that it is at most the row's constant
pub record IsClassRow (row : Row) (variable : ℕ) : Type 0 where
  pub terms : row.terms ≡ record { variable = variable; times = neg_ℤ (pos 1) } ∷ []
  pub constant : pos 0 ≤ℤ row.constant

abbrev pub pair_in : List (Option Pair) → ℕ → Option Pair
pair_in pairs v = slice_index_or pairs v None

-- the slack with the number s has the pair q, of a row like that
pub record IsClassPair (variables : ℕ) (rows : List Row) (s : ℕ) (q : Pair) : Type 0 where
  pub above : 0 < q.other
  pub variable : q.other ≤ variables
  pub class_row : IsClassRow (slice_index_or rows (s - (1 + variables)) empty_row) (q.other - 1)
  pub sum : q.sum ≡ (slice_index_or rows (s - (1 + variables)) empty_row).constant

-- pairs of a variable and a slack, of the first so many rows
pub record ArePairs (variables : ℕ) (rows : List Row) (seen : ℕ) (pairs : List (Option Pair)) : Type 0 where
  pub width : length pairs ≡ 1 + variables + length rows
  pub both : (v : ℕ) (q : Pair) → pair_in pairs v ≡ Some q → pair_in pairs q.other ≡ Some (record { other = v; sum = q.sum })
  pub sides : (v : ℕ) (q : Pair) → pair_in pairs v ≡ Some q → v ≤ variables → variables < q.other
  pub slacks : (v : ℕ) (q : Pair) → pair_in pairs v ≡ Some q → variables < v → IsClassPair variables rows v q
  pub later : (v : ℕ) → 1 + variables + seen ≤ v → pair_in pairs v ≡ None

-- the pairs after one of the variable and the slack, if the variable has none
abbrev pub paired_up : List (Option Pair) → ℕ → ℕ → ℤ → List (Option Pair)
paired_up pairs variable slack sum =
    if is_some (pair_in pairs variable) then pairs
    else slice_set (slice_set pairs variable (Some (record { other = slack; sum = sum }))) slack (Some (record { other = variable; sum = sum }))

-- ---- slots
-- how many slots an equation has whose basic variable has this pair
abbrev pub slots_for : Option Pair → ℕ
slots_for None = 1
slots_for (Some q) = 0

-- how many slots the first equations have
abbrev pub slots_before : ℕ → List (Option Pair) → ℕ → ℕ
slots_before variables pairs zero = 0
slots_before variables pairs (suc e) = slots_before variables pairs e + slots_for (pair_in pairs (first_basic variables e))

abbrev pub basic_place : Option Pair → ℕ → Place
basic_place None k = Kept k
basic_place (Some q) k = Paired

abbrev pub first_place : ℕ → List (Option Pair) → ℕ → Place
first_place variables pairs v =
    if v == 0 then Kept 0
    else if nat_le v variables then Column (v - 1)
    else basic_place (pair_in pairs v) (slots_before variables pairs (v - variables))

-- what a slot keeps of the equation e of the first form
pub record IsFirstRow (p : Program) (e : ℕ) (row : List ℤ) : Type 0 where
  pub width : length row ≡ length p.costs + 2
  pub columns : (j : ℕ) → j < length p.costs → slice_index_or row j (pos 0) ≡ first_entry p e (1 + j)
  pub own : slice_index_or row (length p.costs) (pos 0) ≡ pos 1
  pub right : slice_index_or row (length p.costs + 1) (pos 0) ≡ first_entry p e (variable_count p)

-- what the slots of the first so many equations keep
pub record AreFirstRows (p : Program) (pairs : List (Option Pair)) (seen : ℕ) (rows : List (List ℤ)) : Type 0 where
  pub height : length rows ≡ slots_before (length p.costs) pairs seen
  pub each : (e : ℕ) → e < seen → pair_in pairs (first_basic (length p.costs) e) ≡ None
      → IsFirstRow p e (slice_index_or rows (slots_before (length p.costs) pairs e) [])
