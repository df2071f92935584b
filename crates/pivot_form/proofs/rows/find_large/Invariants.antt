use Rattle.std.proofs.Common.{◌≡◌, drop}
use Rattle.row_program.specs.Forms.{first_large}
use Rattle.pivot_form.proofs.rows.find_large.Given as goal

abbrev pub invariant-loop-x : goal.invariant-loop-x
invariant-loop-x l = first_large (drop l.x-index l.fn.row) ≡ first_large l.fn.row
