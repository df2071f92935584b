use Rattle.std.proofs.Common.{◌≡◌, ◌+◌, ◌-◌, map}
use Rattle.std.specs.List.{flat_map, range_with_len}
use Rattle.goal_rows.proofs.programs.arcs_among.Given as goal

abbrev pub invariant-loop-u : goal.invariant-loop-u
invariant-loop-u l = l.arcs.items ≡ flat_map (λ u. map (λ x. (u, x)) (range_with_len (u + 1) (l.m - u))) (range_with_len 0 l.u)
