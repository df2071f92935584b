use Rattle.std.proofs.Common.{◌≡◌, ◌≤◌, ◌*◌, ◌^◌, take}
use Rattle.mov_base.specs.Sums.{add_up}
use Rattle.dual_bound.proofs.bases.total.Given as goal

abbrev pub invariant-loop-multiplier : goal.invariant-loop-multiplier
invariant-loop-multiplier l = record {
  total : l.sum ≡ add_up (λ m. m) (take l.multiplier-index l.multipliers);
  bound : l.sum ≤ l.multiplier-index * 2 ^ 63;
}
