use Rattle.std.proofs.Common.{◌≡◌, ◌≤◌, ◌-◌, ◌*◌, ◌^◌, drop}
use Rattle.std.specs.Prelude.{unsigned_abs, ◌+ℤ◌}
use Rattle.std.specs.List.{zip}
use Rattle.mov_base.specs.Sums.{sum_z}
use Rattle.sig_graph.specs.Paths.{arcs_before}
use Rattle.dual_bound.specs.Weighing.{rows_bring}
use Rattle.dual_bound.specs.WeighingParts.{row_brings}
use Rattle.dual_bound.proofs.RoundSums.{rounds_from}
use Rattle.dual_bound.proofs.arc_weights.by_rows.Given as goal

abbrev pub invariant-loop-i : goal.invariant-loop-i
invariant-loop-i l = record {
  first : l.first ≡ arcs_before (l.m - 1) (l.i - 1);
  total : l.sum +ℤ sum_z (row_brings (l.u, l.x)) (zip (drop l.first l.rows) (rounds_from l.m l.i)) ≡ rows_bring l.m l.rows (l.u, l.x);
  bound : unsigned_abs l.sum ≤ l.first * 2 ^ 63;
}
