use Rattle.std.proofs.Common.{◌≡◌, ◌++◌, ◌+◌, length, map, take}
use Rattle.std.specs.Prelude.{All, pos}
use Rattle.row_program.specs.Bounds.{IsRow}
use Rattle.goal_rows.specs.Programs.{row_by, weights_by}
use Rattle.goal_rows.proofs.programs.add_flow_rows.Given as goal

abbrev pub invariant-loop-weighing : goal.invariant-loop-weighing
invariant-loop-weighing l = record {
  rows : l.rows ≡ l.fn.rows ++ map (λ weighing. row_by (pos 0) (weights_by weighing l.start.classes l.arcs)) (take l.weighing-index l.weighing-items);
  good : All (IsRow (length l.start.classes + length l.arcs)) l.rows;
}
