use Rattle.std.proofs.Common.{◌≡◌, ◌≤◌, ◌++◌, length, vec_capacity}
use Rattle.std.specs.List.{All}
use Rattle.row_program.specs.Method.{candidates}
use Rattle.lex_dual.specs.Choices.{IsCandidate}
use Rattle.lex_dual.proofs.Thinning.{candidates_from}
use Rattle.lex_dual.proofs.choice.write_candidates.Given as goal

abbrev pub invariant-loop-j : goal.invariant-loop-j
invariant-loop-j l = record {
  value : l.buffer.items ++ candidates_from l.form l.row l.j ≡ candidates l.form l.row;
  all : All (IsCandidate l.form l.row) l.buffer.items;
  few : length l.buffer.items ≤ l.j;
  room : l.form.variables ≤ vec_capacity l.buffer;
}
