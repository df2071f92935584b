use Rattle.std.proofs.Common.{ℕ, ◌≡◌, ◌<◌, ◌≤◌, ◌+◌, ◌^◌, get_or, map, take}
use Rattle.std.specs.Prelude.{unsigned_abs, pos, ◌+ℤ◌}
use Rattle.sig_graph.specs.Paths.{arc_at, arcs_of}
use Rattle.dual_bound.specs.Weighing.{is_arc, limits_bring, rows_bring}
use Rattle.dual_bound.proofs.arc_weights.write_arcs.Given as goal

abbrev pub invariant-loop-arc : goal.invariant-loop-arc
invariant-loop-arc l = record {
  number : arc_at l.m l.u l.x ≡ l.arc-index;
  begins : l.u < l.x;
  ends : l.x ≤ l.m + 1;
  last : l.m < l.x → l.u ≡ l.m;
  done : take l.arc-index l.arcs
      ≡ map (λ a. rows_bring l.m l.rows a +ℤ limits_bring (is_arc a) l.bounds l.limits) (take l.arc-index (arcs_of l.m));
  small : (k : ℕ) → k < l.arc-index → unsigned_abs (get_or l.arcs k (pos 0)) ≤ 2 ^ 74;
}
