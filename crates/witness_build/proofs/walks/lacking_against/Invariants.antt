use Rattle.std.proofs.Common.{◌≡◌, ◌-◌, ◌<◌, ℕ, length, slice_index}
use Rattle.condorcet_count.specs.Preferences.{count_in}
use Rattle.witness_build.proofs.walks.lacking_against.Given as goal

abbrev pub invariant-loop-j : goal.invariant-loop-j
invariant-loop-j l = record {
  size : length l.lacking.items ≡ l.j;
  each : (k : ℕ) → k < l.j → slice_index l.lacking.items k ≡ count_in l.matrix k l.x - count_in l.matrix l.x k;
}
