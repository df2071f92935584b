use Rattle.std.proofs.Common.{arith, ◌<◌, ◌*◌, ◌/◌, sym, subst, ℕ}
use Rattle.dual_theory.proofs.Multiples.{lcm_above}
use Rattle.lex_dual.proofs.Numbers.{gcd_positive}
use Rattle.lex_dual.proofs.point.lcm.Goals as goal

pub nonzero_div-result : goal.nonzero_div-result
nonzero_div-result c = omega (arith, gcd_positive c.args.a c.args.b c.requires.positive, c.gcd.ensures.value)

pub returns-clause-above : goal.returns-clause-above
returns-clause-above c = λ h. subst (λ (g : ℕ). 0 < c.args.a * (c.args.b / g)) (sym c.gcd.ensures.value) (lcm_above c.args.a c.args.b h c.requires.positive)
