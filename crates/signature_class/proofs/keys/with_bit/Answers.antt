use Rattle.signature_class.proofs.KeyBits.{bit_more, bit_past}
use Rattle.signature_class.proofs.keys.with_bit.Goals as goal

pub returns-then-k-lt-MOST_PLACES : goal.returns-then-k-lt-MOST_PLACES
returns-then-k-lt-MOST_PLACES c = λ set is. bit_more c.args.key c.args.k set c.if-k-lt-MOST_PLACES.true is

pub returns-else-k-lt-MOST_PLACES : goal.returns-else-k-lt-MOST_PLACES
returns-else-k-lt-MOST_PLACES c = λ set is. bit_past c.args.key c.args.k set c.if-k-lt-MOST_PLACES.false is
