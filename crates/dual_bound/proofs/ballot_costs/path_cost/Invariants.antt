use Rattle.std.proofs.Common.{◌≡◌, ◌<◌, ◌≤◌, ◌-◌, ◌*◌, ◌^◌}
use Rattle.std.specs.Prelude.{unsigned_abs, ◌+ℤ◌}
use Rattle.sig_graph.specs.Paths.{path_sum}
use Rattle.dual_bound.specs.Weighing.{places_by}
use Rattle.dual_bound.proofs.OldCosts.{places_from}
use Rattle.dual_bound.proofs.ballot_costs.path_cost.Given as goal

abbrev pub invariant-loop-x : goal.invariant-loop-x
invariant-loop-x l = record {
  before : l.u < l.x;
  total : l.sum +ℤ path_sum l.m l.arcs l.u (places_from l.m l.key l.x) ≡ path_sum l.m l.arcs 0 (places_by l.m l.key);
  bound : unsigned_abs l.sum ≤ (l.x - 1) * 2 ^ 74;
}
