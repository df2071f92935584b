use Rattle.std.proofs.lemmas.Nat.Gcd.{IsGcd-from_mod}
use Rattle.exact_num.proofs.mixed_gcd.Goals as goal

pub returns-else-y-eq0 : goal.returns-else-y-eq0
returns-else-y-eq0 c = IsGcd-from_mod c.args.x c.args.y c.narrow_gcd-else-y-eq0.result c.narrow_gcd-else-y-eq0.ensures
