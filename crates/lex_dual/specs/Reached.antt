-- A form that the method reaches by forms without large entries: what the calls inside the crate say to each other. No promise
-- to a caller rests on it.
use Rattle.std.specs.Prelude.{ℕ, ◌≡◌, ◌≤◌, None}
use Rattle.row_program.specs.Forms.{Table, first_large_of}
use Rattle.row_program.specs.Method.{run_of}
use Rattle.row_program.specs.declared.program.Program.{Program}

-- the form after so many pivots; neither it nor a form before it has a large entry
pub record IsReached (p : Program) (t : Table) : Type 0 where
  pub pivots : ℕ
  pub is : t ≡ run_of p pivots
  pub narrow : (j : ℕ) → j ≤ pivots → first_large_of (run_of p j).rows ≡ None
