use Rattle.std.proofs.Common.{◌≡◌, ◌++◌, ◌+◌, ◌-◌, map}
use Rattle.std.specs.List.{range_with_len}
use Rattle.row_program.specs.declared.Feature.TheVariants.{Arc}
use Rattle.dual_bound.proofs.cell_variables.add_features_out.Given as goal

abbrev pub invariant-loop-before : goal.invariant-loop-before
invariant-loop-before l = l.features.items ≡ l.fn.features.items ++ map (λ x. Arc l.u x) (range_with_len (l.u + 1) (l.before - l.u))
