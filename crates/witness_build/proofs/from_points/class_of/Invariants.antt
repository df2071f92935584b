use Rattle.std.proofs.Common.{ℕ, ◌≢◌, ◌<◌}
use Rattle.std.specs.Prelude.{slice_index_or}
use Rattle.witness_build.proofs.from_points.class_of.Given as goal

abbrev pub invariant-loop-i : goal.invariant-loop-i
invariant-loop-i l = (k : ℕ) → k < l.i → (slice_index_or l.classes k (0, 0)).0 ≢ l.key
