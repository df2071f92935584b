-- What makes a program, and what makes a point.
use Rattle.std.specs.Prelude.{ℕ, ◌≢◌, ◌<◌, ◌≤◌, List, length, unsigned_abs}
use Rattle.std.specs.List.{All, AllPairs}
use Rattle.exact_num.specs.declared.limits.TheConstants.{WIDE}
use Rattle.row_program.specs.declared.limits.TheConstants.{MOST_VARIABLES, MOST_ROWS, TERM_LIMIT}
use Rattle.row_program.specs.declared.program.Row.{Row}

-- a row over so many variables
pub record IsRow (variables : ℕ) (row : Row) : Type 0 where
  pub small_constant : unsigned_abs row.constant < TERM_LIMIT
  pub small_terms : All (λ t. unsigned_abs t.times < TERM_LIMIT) row.terms
  pub within : All (λ t. t.variable < variables) row.terms
  pub one_each : AllPairs (λ s t. s.variable ≢ t.variable) row.terms

-- costs of 0 or 1, rows over their variables, the first of which are kept
pub record IsProgram (costs : List ℕ) (rows : List Row) (kept : ℕ) : Type 0 where
  pub few_variables : length costs ≤ MOST_VARIABLES
  pub few_rows : length rows ≤ MOST_ROWS
  pub few_kept : kept ≤ length rows
  pub small_costs : All (λ c. c ≤ 1) costs
  pub good_rows : All (IsRow (length costs)) rows

-- numbers and a denominator of at most 63 bits
pub record IsSmallPoint (whole : List ℕ) (den : ℕ) : Type 0 where
  pub positive : 1 ≤ den
  pub small : den < WIDE
  pub small_numbers : All (λ x. x < WIDE) whole
