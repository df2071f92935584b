use Rattle.std.proofs.Common.{◌≡◌, ℕ, ◌<◌, get_or}
use Rattle.std.specs.Prelude.{pos}
use Rattle.pivot_form.specs.Kept.{entry_of}
use Rattle.pivot_form.specs.Shorts.{store_of}
use Rattle.pivot_form.proofs.whole_rows.write_row.Given as goal

abbrev pub invariant-loop-variable : goal.invariant-loop-variable
invariant-loop-variable l = (k : ℕ) → k < l.variable → get_or l.out k (pos 0) ≡ entry_of (store_of l.short) l.basic k
