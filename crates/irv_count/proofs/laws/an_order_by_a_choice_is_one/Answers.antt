use Rattle.irv_count.proofs.Unique.{same_order}
use Rattle.irv_count.proofs.laws.an_order_by_a_choice_is_one.Goals as goal

pub returns : goal.returns
returns c = same_order
