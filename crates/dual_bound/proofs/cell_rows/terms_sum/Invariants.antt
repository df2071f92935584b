use Rattle.std.proofs.Common.{◌≡◌, ◌≤◌, ◌*◌, ◌^◌, take}
use Rattle.std.specs.Prelude.{unsigned_abs}
use Rattle.mov_base.specs.Sums.{sum_z}
use Rattle.row_program.specs.Points.{term_value}
use Rattle.dual_bound.proofs.cell_rows.terms_sum.Given as goal

abbrev pub invariant-loop-term : goal.invariant-loop-term
invariant-loop-term l = record {
  total : l.sum ≡ sum_z (term_value l.values) (take l.term-index l.terms);
  bound : unsigned_abs l.sum ≤ l.term-index * 2 ^ 51;
}
