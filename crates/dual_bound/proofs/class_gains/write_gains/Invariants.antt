use Rattle.std.proofs.Common.{ℕ, ◌≡◌, ◌<◌, ◌≤◌, ◌^◌, length, get_or, take}
use Rattle.dual_bound.specs.Weighing.{cost_by}
use Rattle.dual_bound.specs.WeighingParts.{gains_by}
use Rattle.dual_bound.proofs.class_gains.write_gains.Given as goal

abbrev pub invariant-loop-i : goal.invariant-loop-i
invariant-loop-i l = record {
  long : length l.places ≡ length l.start.classes;
  done : take l.i l.places ≡ gains_by l.best (cost_by l.start l.limits l.multipliers) (take l.i l.start.classes);
  small : (k : ℕ) → k < l.i → (get_or l.places k (0, 0)).0 ≤ 2 ^ 88;
}
