use Rattle.std.proofs.Common.{◌≡◌, map, take}
use Rattle.row_program.specs.declared.Feature.TheVariants.{From}
use Rattle.dual_bound.proofs.cell_variables.class_features.Given as goal

abbrev pub invariant-loop-k : goal.invariant-loop-k
invariant-loop-k l = l.features.items ≡ map (λ c. From c.0) (take l.k l.classes)
