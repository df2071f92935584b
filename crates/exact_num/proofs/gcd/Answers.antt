use Rattle.std.proofs.lemmas.Nat.Gcd.{IsGcd-from_mod}
use Rattle.exact_num.proofs.Divisors.{gcd_of_is}
use Rattle.exact_num.proofs.gcd.Goals as goal

pub loop-y-preserved : goal.loop-y-preserved
loop-y-preserved c = λ g h. c.loop-y.invariant g (IsGcd-from_mod c.loop-y.x c.loop-y.y g h)

pub returns-clause-divisor : goal.returns-clause-divisor
returns-clause-divisor c = c.loop-y.invariant c.mixed_gcd.result c.mixed_gcd.ensures

pub returns-clause-value : goal.returns-clause-value
returns-clause-value c = gcd_of_is c.args.a c.args.b c.mixed_gcd.result (c.loop-y.invariant c.mixed_gcd.result c.mixed_gcd.ensures)
