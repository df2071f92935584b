use Rattle.std.proofs.Common.{◌≡◌, ◌≤◌, vec_capacity}
use Rattle.std.specs.List.{All}
use Rattle.row_program.specs.Method.{entering}
use Rattle.lex_dual.specs.Choices.{IsCandidate, entering_among}
use Rattle.lex_dual.proofs.choice.entering.Given as goal

abbrev pub invariant-loop-v : goal.invariant-loop-v
invariant-loop-v l = record {
  value : entering_among l.form l.row l.v l.buffer.items ≡ entering l.form l.row;
  all : All (IsCandidate l.form l.row) l.buffer.items;
  room : l.form.variables ≤ vec_capacity l.buffer;
}
