use Rattle.std.proofs.Common.{◌≡◌, ◌-◌, ◌*◌, ◌<◌, ◌≤◌, ℕ, length, slice_index}
use Rattle.witness_build.specs.Lacking.{gain_by}
use Rattle.witness_build.proofs.walks.bring_closer.Given as goal

abbrev pub invariant-loop-j : goal.invariant-loop-j
invariant-loop-j l = record {
  size : length l.lacking ≡ length l.initial.lacking;
  done : (k : ℕ) → k < l.j → slice_index l.lacking k ≡ slice_index l.initial.lacking k - l.count * gain_by l.key l.x k;
  rest : (k : ℕ) → l.j ≤ k → slice_index l.lacking k ≡ slice_index l.initial.lacking k;
}
