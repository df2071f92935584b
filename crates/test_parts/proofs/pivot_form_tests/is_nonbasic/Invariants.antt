use Rattle.std.proofs.Common.{◌≢◌, ℕ, ◌<◌}
use Rattle.row_program.specs.Forms.{basic_of}
use Rattle.test_parts.proofs.pivot_form_tests.is_nonbasic.Given as goal

abbrev pub invariant-loop-i : goal.invariant-loop-i
invariant-loop-i l = (k : ℕ) → k < l.i → basic_of l.form k ≢ l.column
