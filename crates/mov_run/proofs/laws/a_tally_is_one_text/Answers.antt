use Rattle.mov_run.proofs.OneTally.{one_tally}
use Rattle.mov_run.proofs.laws.a_tally_is_one_text.Goals as goal

pub returns : goal.returns
returns c = one_tally
