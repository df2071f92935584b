use Rattle.std.proofs.Common.{◌≤◌, ℕ}
use Rattle.sig_graph.specs.Flows.{flow_in, flow_out}
use Rattle.sig_graph.proofs.flows.is_flow.Given as goal

abbrev pub invariant-loop-before : goal.invariant-loop-before
invariant-loop-before l = (x : ℕ) → 1 ≤ x → x ≤ l.before → flow_out l.m l.flow x ≤ flow_in l.m l.flow x
