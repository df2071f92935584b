use Rattle.std.proofs.Common.{◌≡◌, ◌<◌, ◌+◌, ◌^◌, length, map}
use Rattle.std.specs.Prelude.{unsigned_abs}
use Rattle.std.specs.List.{All, range_with_len}
use Rattle.row_program.specs.Forms.{entry}
use Rattle.lex_dual.proofs.multipliers.sizes.Given as goal

abbrev pub invariant-loop-i : goal.invariant-loop-i
invariant-loop-i l = record {
  value : l.numbers.items ≡ map (λ i. unsigned_abs (entry l.form l.row (1 + length l.program.costs + i))) (range_with_len 0 l.i);
  small : All (λ x. x < 2 ^ 63) l.numbers.items;
}
