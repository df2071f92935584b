use Rattle.std.proofs.Common.{ℕ, ◌≤◌, ◌<◌, IfSome, slice_index_or, unsigned_abs}
use Rattle.std.specs.Prelude.{Option}
use Rattle.pivot_form.specs.declared.places.Pair.{Pair}
use Rattle.pivot_form.proofs.pairs.most_sum.Given as goal

abbrev pub invariant-loop-pair : goal.invariant-loop-pair
invariant-loop-pair l = (k : ℕ) (d : Option Pair) → k < l.pair-index → IfSome (slice_index_or l.pairs k d) (λ q. unsigned_abs q.sum ≤ l.most)
