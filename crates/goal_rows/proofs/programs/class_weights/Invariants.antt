use Rattle.std.proofs.Common.{◌≡◌, ◌<◌, map, take}
use Rattle.std.specs.Prelude.{All, unsigned_abs}
use Rattle.row_program.specs.declared.limits.TheConstants.{TERM_LIMIT}
use Rattle.goal_rows.specs.Programs.{key_weight}
use Rattle.goal_rows.proofs.programs.class_weights.Given as goal

abbrev pub invariant-loop-k : goal.invariant-loop-k
invariant-loop-k l = record {
  value : l.weights ≡ map (λ c. key_weight l.weighing c.0) (take l.k l.classes);
  small : All (λ w. unsigned_abs w < TERM_LIMIT) l.weights;
}
