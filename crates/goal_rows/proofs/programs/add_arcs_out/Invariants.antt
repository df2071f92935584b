use Rattle.std.proofs.Common.{◌≡◌, ◌++◌, ◌+◌, ◌-◌, map}
use Rattle.std.specs.List.{range_with_len}
use Rattle.goal_rows.proofs.programs.add_arcs_out.Given as goal

abbrev pub invariant-loop-before : goal.invariant-loop-before
invariant-loop-before l = l.arcs.items ≡ l.fn.arcs.items ++ map (λ x. (l.u, x)) (range_with_len (l.u + 1) (l.before - l.u))
