-- What every form of the crate keeps. No promise to a caller rests on it: what a form is, and what a pivot makes of it, is said
-- by the definitions of forms in `row_program`.
use Rattle.std.specs.Prelude.{ℕ, ℤ, ◌≡◌, ◌<◌, ◌+◌, List, length, map, Vec, unsigned_abs}
use Rattle.std.specs.List.{All}
use Rattle.exact_num.specs.Divisors.{IsPrimitive}
use Rattle.exact_num.specs.declared.limits.TheConstants.{WIDE}
use Rattle.row_program.specs.Forms.{Table, tableau, IsSolved}

-- one equation: an entry a variable and the right side, none of them large, with no common divisor but 1
pub record IsEquation (variables : ℕ) (row : List ℤ) : Type 0 where
  pub width : length row ≡ variables + 1
  pub small : All (λ x. unsigned_abs x < WIDE) row
  pub primitive : IsPrimitive row

-- one basic variable an equation, with a positive entry there and 0 in the others
pub record IsForm (t : Table) : Type 0 where
  pub equations : All (IsEquation t.variables) t.rows
  pub basics : length t.basis ≡ length t.rows
  pub solved : IsSolved (tableau t)

abbrev pub row_lists : {A : Type 0} → List (Vec ℤ A) → List (List ℤ)
row_lists rows = map (λ r. r.items) rows
