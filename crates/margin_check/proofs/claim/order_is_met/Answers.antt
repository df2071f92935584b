use Rattle.irv_count.proofs.Whole.{valid_order}
use Rattle.margin_check.proofs.claim.order_is_met.Goals as goal

pub from_slice-requires : goal.from_slice-requires
from_slice-requires c = (valid_order c.candidates.result c.args.order.now (c.is_order.ensures.0 c.if-not-is_order.false)).distinct
