use Rattle.std.proofs.Common.{◌≡◌, map}
use Rattle.goal_rows.specs.Programs.{is_some_weight, term_at, weight_of}
use Rattle.goal_rows.specs.Suffixes.{those}
use Rattle.goal_rows.proofs.programs.terms.Given as goal

abbrev pub invariant-loop-v : goal.invariant-loop-v
invariant-loop-v l = l.terms ≡ map (term_at l.weights) (those l.v (λ v. is_some_weight (weight_of l.weights v)))
