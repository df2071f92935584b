use Rattle.std.proofs.Common.{◌≡◌, ◌<◌, ◌≤◌, ◌+◌, ◌-◌, ◌^◌, ℕ, false, length, map}
use Rattle.std.specs.List.{All, range_with_len}
use Rattle.dual_theory.specs.Ends.{is_large, whole_number}
use Rattle.lex_dual.proofs.point.numbers.Given as goal

abbrev pub invariant-loop-variable : goal.invariant-loop-variable
invariant-loop-variable l = record {
  value : l.whole ≡ map (whole_number l.form (length l.places - 1)) (range_with_len 0 l.variable);
  none : (u : ℕ) → 0 ≤ u → u < 0 + l.variable → is_large (whole_number l.form (length l.places - 1) u) ≡ false;
  small : All (λ x. x < 2 ^ 63) l.whole;
}
