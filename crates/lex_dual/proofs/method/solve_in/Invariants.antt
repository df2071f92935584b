use Rattle.std.proofs.Common.{◌≡◌, ◌≤◌, vec_capacity}
use Rattle.row_program.specs.Forms.{variable_count}
use Rattle.dual_theory.specs.Measures.{measure}
use Rattle.lex_dual.specs.Choices.{places_of}
use Rattle.lex_dual.specs.Reached.{IsReached}
use Rattle.lex_dual.proofs.method.solve_in.Given as goal

abbrev pub invariant-loop-row : goal.invariant-loop-row
invariant-loop-row l = record {
  reached : IsReached l.program l.form;
  places : l.places.items ≡ places_of l.form;
  room : variable_count l.program ≤ vec_capacity l.candidates;
}

abbrev pub decreases-loop-row : goal.decreases-loop-row
decreases-loop-row l = measure l.form
