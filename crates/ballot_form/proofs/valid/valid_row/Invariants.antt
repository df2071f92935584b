use Rattle.std.proofs.Common.{ℕ, ◌<◌, ◌≡◌, slice_index_or}
use Rattle.ballot_form.proofs.valid.valid_row.Given as goal

abbrev pub invariant-loop-i : goal.invariant-loop-i
invariant-loop-i l = ((k d : ℕ) → k < l.i → slice_index_or l.row k d < l.c) × ((j k d : ℕ) → j < k → k < l.i → slice_index_or l.row j d ≡ slice_index_or l.row k d → ⊥)
