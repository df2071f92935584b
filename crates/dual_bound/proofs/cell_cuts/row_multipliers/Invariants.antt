use Rattle.std.proofs.Common.{◌≡◌, map}
use Rattle.std.specs.List.{range_with_len}
use Rattle.ballot_form.specs.Scores.{is_some_of}
use Rattle.sig_graph.specs.Rows.{one_where}
use Rattle.dual_bound.proofs.cell_cuts.row_multipliers.Given as goal

abbrev pub invariant-loop-r : goal.invariant-loop-r
invariant-loop-r l = l.multipliers ≡ map (λ r. one_where (is_some_of l.broken r)) (range_with_len 0 l.r)
