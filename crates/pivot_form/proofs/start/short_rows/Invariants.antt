use Rattle.std.proofs.Common.{◌+◌}
use Rattle.pivot_form.specs.Invariant.{row_lists}
use Rattle.pivot_form.specs.Starts.{AreFirstRows}
use Rattle.pivot_form.proofs.start.short_rows.Given as goal

abbrev pub invariant-loop-i : goal.invariant-loop-i
invariant-loop-i l = AreFirstRows l.program l.pairs (l.i + 1) (row_lists l.rows.items)
