use Rattle.std.proofs.Common.{◌≢◌, ℕ, ◌<◌, get_or}
use Rattle.row_program.specs.declared.program.Term.{Term}
use Rattle.row_program.proofs.bounds.all_apart.Given as goal

abbrev pub invariant-loop-i : goal.invariant-loop-i
invariant-loop-i l = (j k : ℕ) (d : Term) → j < k → k < l.i → (get_or l.terms j d).variable ≢ (get_or l.terms k d).variable
