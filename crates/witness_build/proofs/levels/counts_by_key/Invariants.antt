use Rattle.std.proofs.Common.{ℕ, ◌≡◌, ◌<◌, take, length, get_or}
use Rattle.mov_base.specs.Sums.{add_up}
use Rattle.witness_build.specs.Levels.{of_key}
use Rattle.witness_build.proofs.levels.counts_by_key.Given as goal

abbrev pub invariant-loop-i : goal.invariant-loop-i
invariant-loop-i l = record {
  size : length l.counts.items ≡ l.end;
  each : (k : ℕ) → k < l.end → get_or l.counts.items k 0 ≡ add_up (of_key k) (take l.i l.classes);
}
