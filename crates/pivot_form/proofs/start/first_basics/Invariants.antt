use Rattle.std.proofs.Common.{◌≡◌, ◌+◌, map}
use Rattle.std.specs.List.{range_with_len}
use Rattle.row_program.specs.Forms.{first_basic}
use Rattle.pivot_form.proofs.start.first_basics.Given as goal

abbrev pub invariant-loop-i : goal.invariant-loop-i
invariant-loop-i l = l.basics.items ≡ map (first_basic l.variables) (range_with_len 0 (l.i + 1))
