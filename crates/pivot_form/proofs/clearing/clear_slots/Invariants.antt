use Rattle.std.proofs.Common.{◌≡◌, ◌+◌, length}
use Rattle.pivot_form.specs.Invariant.{row_lists}
use Rattle.pivot_form.specs.Kept.{next_by}
use Rattle.pivot_form.proofs.Equations.{map_front_from}
use Rattle.pivot_form.proofs.clearing.clear_slots.Given as goal

abbrev pub invariant-loop-k : goal.invariant-loop-k
invariant-loop-k l = record {
  rows : row_lists l.rows ≡ map_front_from (next_by l.width l.lead.column l.lead.own l.lead.row.now l.slot) l.k 0 (row_lists l.initial.rows);
  room : length l.scratch ≡ l.width + 2;
}
