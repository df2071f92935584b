use Rattle.std.proofs.Common.{◌≡◌, ◌++◌, ◌+◌, length, map, take}
use Rattle.std.specs.Prelude.{All}
use Rattle.std.specs.List.{zip}
use Rattle.row_program.specs.Bounds.{IsRow}
use Rattle.goal_rows.specs.Programs.{row_by, weights_by}
use Rattle.goal_rows.proofs.programs.add_goal_rows.Given as goal

abbrev pub invariant-loop-r : goal.invariant-loop-r
invariant-loop-r l = record {
  rows : l.rows ≡ l.fn.rows ++ map (λ x. row_by x.0 (weights_by x.1 l.start.classes l.arcs)) (take l.r (zip l.start.sums l.weighings.items));
  good : All (IsRow (length l.start.classes + length l.arcs)) l.rows;
}
