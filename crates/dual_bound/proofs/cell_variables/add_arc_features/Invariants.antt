use Rattle.std.proofs.Common.{◌≡◌, ◌++◌, ◌+◌, ◌-◌, map}
use Rattle.std.specs.List.{flat_map, range_with_len}
use Rattle.row_program.specs.declared.Feature.TheVariants.{Arc}
use Rattle.dual_bound.proofs.cell_variables.add_arc_features.Given as goal

abbrev pub invariant-loop-u : goal.invariant-loop-u
invariant-loop-u l =
    l.features.items ≡ l.fn.features.items ++ flat_map (λ u. map (λ x. Arc u x) (range_with_len (u + 1) (l.m - u))) (range_with_len 0 l.u)
