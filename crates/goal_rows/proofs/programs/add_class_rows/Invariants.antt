use Rattle.std.proofs.Common.{◌≡◌, ◌++◌, ◌+◌, length, map, get_or}
use Rattle.std.specs.Prelude.{All}
use Rattle.std.specs.List.{range_with_len}
use Rattle.row_program.specs.Bounds.{IsRow}
use Rattle.goal_rows.specs.Programs.{class_row}
use Rattle.goal_rows.proofs.programs.add_class_rows.Given as goal

abbrev pub invariant-loop-k : goal.invariant-loop-k
invariant-loop-k l = record {
  rows : l.rows ≡ l.fn.rows ++ map (λ k. class_row k (get_or l.classes k (0, 0)).1) (range_with_len 0 l.k);
  good : All (IsRow (length l.classes + l.others)) l.rows;
}
