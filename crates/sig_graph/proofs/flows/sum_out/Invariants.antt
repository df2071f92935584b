use Rattle.std.proofs.Common.{◌≡◌, ◌≤◌, ◌+◌, ◌-◌, ◌*◌, ◌^◌}
use Rattle.std.specs.List.{range_with_len}
use Rattle.mov_base.specs.Sums.{add_up}
use Rattle.sig_graph.specs.Flows.{flow_at, flow_out}
use Rattle.sig_graph.proofs.flows.sum_out.Given as goal

abbrev pub invariant-loop-before : goal.invariant-loop-before
invariant-loop-before l =
    (l.sum ≤ l.before * 2 ^ 32)
    × (l.sum + add_up (λ x. flow_at l.m l.flow l.from x) (range_with_len (l.before + 1) (l.m - l.before)) ≡
    flow_out l.m l.flow l.from)
