use Rattle.std.proofs.Common.{◌≡◌, ◌≤◌, ◌*◌, ◌^◌, take}
use Rattle.std.specs.Prelude.{unsigned_abs}
use Rattle.dual_bound.specs.Weighing.{times_all}
use Rattle.dual_bound.proofs.bases.rows_base.Given as goal

abbrev pub invariant-loop-i : goal.invariant-loop-i
invariant-loop-i l = record {
  total : l.sum ≡ times_all (take l.i l.multipliers) (take l.i l.sums);
  bound : unsigned_abs l.sum ≤ l.i * 2 ^ 103;
}
