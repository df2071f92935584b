use Rattle.std.proofs.Common.{arith, sym, subst, ◌<◌, ◌/◌}
use Rattle.std.specs.Prelude.{ℕ}
use Rattle.dual_theory.proofs.Multiples.{den_above}
use Rattle.lex_dual.proofs.Numbers.{gcd_positive}
use Rattle.lex_dual.proofs.point.lowest_at.Goals as goal

pub nonzero_div-result : goal.nonzero_div-result
nonzero_div-result c = omega (arith, gcd_positive c.value_at-value.result.num c.value_at-value.result.den c.value_at-value.ensures.positive, c.gcd-divisor.ensures.value)

pub nonzero_div-result-2 : goal.nonzero_div-result-2
nonzero_div-result-2 c = omega (arith, gcd_positive c.value_at-value.result.num c.value_at-value.result.den c.value_at-value.ensures.positive, c.gcd-divisor.ensures.value)

pub returns-clause-positive : goal.returns-clause-positive
returns-clause-positive c = subst (λ (g : ℕ). 0 < c.value_at-value.result.den / g) (sym c.gcd-divisor.ensures.value) (den_above c.value_at-value.result.num c.value_at-value.result.den c.value_at-value.ensures.positive)
