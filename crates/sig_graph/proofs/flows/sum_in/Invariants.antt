use Rattle.std.proofs.Common.{◌≡◌, ◌≤◌, ◌+◌, ◌-◌, ◌*◌, ◌^◌}
use Rattle.std.specs.List.{range_with_len}
use Rattle.mov_base.specs.Sums.{add_up}
use Rattle.sig_graph.specs.Flows.{flow_at, flow_in}
use Rattle.sig_graph.proofs.flows.sum_in.Given as goal

abbrev pub invariant-loop-from : goal.invariant-loop-from
invariant-loop-from l =
    (l.sum ≤ l.from * 2 ^ 32)
    × (l.sum + add_up (λ u. flow_at l.m l.flow u l.to) (range_with_len l.from (l.to - l.from)) ≡
    flow_in l.m l.flow l.to)
