use Rattle.std.proofs.Common.{◌≢◌, ◌<◌, ◌+◌, ◌*◌, ℕ, pos, unsigned_abs}
use Rattle.std.specs.List.{All}
use Rattle.exact_num.specs.declared.limits.TheConstants.{WIDE}
use Rattle.pivot_form.specs.Kept.{cell, short_row}
use Rattle.pivot_form.specs.Shorts.{store_of}
use Rattle.pivot_form.proofs.narrow.surely_narrow.Given as goal

abbrev pub invariant-loop-k : goal.invariant-loop-k
invariant-loop-k l = (i : ℕ) → i < l.k → i ≢ l.slot → cell (store_of l.short) i l.column ≢ pos 0
    → All (λ x. (l.p * unsigned_abs x + unsigned_abs (cell (store_of l.short) i l.column) * l.most_lead) * (l.most_sum + 1) < WIDE) (short_row (store_of l.short) i)
