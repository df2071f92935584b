use Rattle.std.proofs.Common.{◌≡◌, ◌≤◌, ◌*◌, ◌^◌, map, take}
use Rattle.std.specs.Prelude.{unsigned_abs}
use Rattle.dual_bound.specs.Weighing.{limit_start, times_all}
use Rattle.dual_bound.proofs.bases.limits_base.Given as goal

abbrev pub invariant-loop-i : goal.invariant-loop-i
invariant-loop-i l = record {
  total : l.sum ≡ times_all (take l.i l.multipliers) (map limit_start (take l.i l.limits));
  bound : unsigned_abs l.sum ≤ l.i * 2 ^ 103;
}
