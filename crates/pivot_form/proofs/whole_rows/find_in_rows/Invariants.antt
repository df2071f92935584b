use Rattle.std.proofs.Common.{◌≡◌, drop}
use Rattle.row_program.specs.Forms.{first_large_of, map_from, next_form}
use Rattle.pivot_form.specs.Kept.{table_of}
use Rattle.pivot_form.specs.Shorts.{store_of}
use Rattle.pivot_form.proofs.WholeRows.{made_of}
use Rattle.pivot_form.proofs.whole_rows.find_in_rows.Given as goal

abbrev pub invariant-loop-i : goal.invariant-loop-i
invariant-loop-i l =
    first_large_of (map_from (made_of (store_of l.short) l.row l.column) l.i (drop l.i (table_of (store_of l.short)).rows))
    ≡ first_large_of (next_form (table_of (store_of l.short)) l.row l.column).rows
