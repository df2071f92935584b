use Rattle.std.proofs.lemmas.Bool.{le-leb}
use Rattle.margin_check.proofs.Keys.{few_bits, no_high_bits}
use Rattle.margin_check.proofs.walk.is_key.Goals as goal

pub returns-then-bits-ge64 : goal.returns-then-bits-ge64
returns-then-bits-ge64 c = (λ _. few_bits c.args.key c.args.bits c.ranges.key.fits c.if-bits-ge64.true, λ _. le-leb 64 c.args.bits c.if-bits-ge64.true)

pub returns-else-bits-ge64 : goal.returns-else-bits-ge64
returns-else-bits-ge64 c = no_high_bits c.args.key c.args.bits
