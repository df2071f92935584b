use Rattle.std.proofs.Common.{◌≡◌, ◌≤◌, ◌*◌, ◌^◌, take}
use Rattle.std.specs.Prelude.{unsigned_abs}
use Rattle.dual_bound.specs.Weighing.{limits_bring}
use Rattle.dual_bound.specs.WeighingParts.{is_feature}
use Rattle.dual_bound.proofs.features.limits_on.Given as goal

abbrev pub invariant-loop-i : goal.invariant-loop-i
invariant-loop-i l = record {
  total : l.sum ≡ limits_bring (is_feature l.feature) (take l.i l.multipliers) (take l.i l.limits);
  bound : unsigned_abs l.sum ≤ l.i * 2 ^ 63;
}
