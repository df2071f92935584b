use Rattle.std.proofs.Common.{◌≡◌, ◌<◌, ◌≤◌, ◌+◌, ◌^◌, ℕ, false}
use Rattle.dual_theory.specs.Ends.{is_large, common_den}
use Rattle.lex_dual.proofs.point.common_den.Given as goal

abbrev pub invariant-loop-variable : goal.invariant-loop-variable
invariant-loop-variable l = record {
  value : l.den ≡ common_den l.form l.variable;
  none : (u : ℕ) → 1 ≤ u → u < 1 + l.variable → is_large (common_den l.form u) ≡ false;
  small : l.den < 2 ^ 63;
  positive : 0 < l.den;
}
