use Rattle.std.proofs.Common.{◌≡◌, ◌<◌, ◌++◌, map, take}
use Rattle.std.specs.Prelude.{All, unsigned_abs}
use Rattle.row_program.specs.declared.limits.TheConstants.{TERM_LIMIT}
use Rattle.goal_rows.specs.Programs.{arc_weight}
use Rattle.goal_rows.proofs.programs.add_arc_weights.Given as goal

abbrev pub invariant-loop-arc : goal.invariant-loop-arc
invariant-loop-arc l = record {
  value : l.weights ≡ l.fn.weights ++ map (arc_weight l.weighing) (take l.arc-index l.arcs);
  small : All (λ w. unsigned_abs w < TERM_LIMIT) l.weights;
}
