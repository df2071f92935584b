use Rattle.std.proofs.Common.{◌<◌, ◌≤◌, ◌^◌, drop, take}
use Rattle.std.specs.Prelude.{unsigned_abs}
use Rattle.std.specs.List.{All}
use Rattle.lex_dual.specs.Choices.{IsCandidate}
use Rattle.lex_dual.proofs.Thinning.{IsKept}
use Rattle.lex_dual.proofs.choice.thin_out.Given as goal

abbrev pub invariant-loop-i : goal.invariant-loop-i
invariant-loop-i l = record {
  kept : IsKept l.form l.row l.v l.fn.left l.least.num l.least.den (take l.kept l.left) (drop l.i l.left);
  rest : All (IsCandidate l.form l.row) (drop l.i l.left);
  behind : l.kept ≤ l.i;
  small_num : unsigned_abs l.least.num < 2 ^ 63;
  small_den : unsigned_abs l.least.den < 2 ^ 63;
}
