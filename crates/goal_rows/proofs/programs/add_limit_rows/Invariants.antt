use Rattle.std.proofs.Common.{◌≡◌, ◌++◌, ◌+◌, length, map, take}
use Rattle.std.specs.Prelude.{All}
use Rattle.row_program.specs.Bounds.{IsRow}
use Rattle.goal_rows.specs.Programs.{row_by, value_before, weights_by}
use Rattle.goal_rows.specs.declared.weighings.Weighing.TheVariants.{Limited}
use Rattle.goal_rows.proofs.programs.add_limit_rows.Given as goal

abbrev pub invariant-loop-limit : goal.invariant-loop-limit
invariant-loop-limit l = record {
  rows : l.rows ≡ l.fn.rows ++ map (λ limit. row_by (value_before limit) (weights_by (Limited limit) l.start.classes l.arcs)) (take l.limit-index l.limits);
  good : All (IsRow (length l.start.classes + length l.arcs)) l.rows;
}
