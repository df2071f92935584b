-- The multipliers of the kept rows, and what they show of all points that meet the other rows.
use Rattle.std.specs.Prelude.{ℕ, ℤ, pos, ◌≡◌, ◌+◌, ◌/◌, ◌≤◌, ◌+ℤ◌, ◌*ℤ◌, ◌<ℤ◌, ◌≤ℤ◌, ◌⊎◌, List, [], ◌∷◌, map, drop, length, unsigned_abs}
use Rattle.std.specs.List.{All, fold, range_with_len}
use Rattle.exact_num.specs.Divisors.{gcd_of}
use Rattle.row_program.specs.Forms.{Table, entry}
use Rattle.row_program.specs.Points.{row_value, cost_of}
use Rattle.row_program.specs.declared.program.Row.{Row}
use Rattle.row_program.specs.declared.program.Program.{Program}

-- whole numbers over one denominator at which each row that isn't kept is at least 0
pub record MeetsRest (program : Program) (whole : List ℕ) (den : ℕ) : Type 0 where
  pub all_variables : length whole ≡ length program.costs
  pub positive : 1 ≤ den
  pub meets : All (λ row. pos 0 ≤ℤ row_value row whole den) (drop program.kept program.rows)

-- the sum of the multipliers times the rows, the first with the first
abbrev pub weighted : List ℕ → List Row → List ℕ → ℕ → ℤ
weighted [] rows whole den = pos 0
weighted (m ∷ ms) [] whole den = pos 0
weighted (m ∷ ms) (row ∷ rows) whole den = pos m *ℤ row_value row whole den +ℤ weighted ms rows whole den

-- where the sum isn't negative, the cost is at least num / den
abbrev pub BoundsCost : Program → List ℕ → ℤ → ℤ → Type 0
BoundsCost p ms num den =
    (whole : List ℕ) (d : ℕ) → MeetsRest p whole d → pos 0 ≤ℤ weighted ms p.rows whole d →
    (num *ℤ pos d) ≤ℤ (pos (cost_of p.costs whole) *ℤ den)

-- the sum is always negative
abbrev pub RulesOut : Program → List ℕ → Type 0
RulesOut p ms = (whole : List ℕ) (d : ℕ) → MeetsRest p whole d → weighted ms p.rows whole d <ℤ pos 0

abbrev pub divisor_of : List ℕ → ℕ
divisor_of xs = fold gcd_of 0 xs

-- divided by their greatest common divisor; zeros stay
abbrev pub lowest : List ℕ → List ℕ
lowest xs = map (λ x. x / divisor_of xs) xs

abbrev pub IsLowest : List ℕ → Type 0
IsLowest xs = (divisor_of xs ≡ 1) ⊎ All (λ x. x ≡ 0) xs

-- the sizes of the entries of the kept rows' slacks in a row of the form
abbrev pub slack_sizes : Program → Table → ℕ → List ℕ
slack_sizes p t row = map (λ i. unsigned_abs (entry t row (1 + length p.costs + i))) (range_with_len 0 p.kept)

abbrev pub multipliers_of : Program → Table → ℕ → List ℕ
multipliers_of p t row = lowest (slack_sizes p t row)
