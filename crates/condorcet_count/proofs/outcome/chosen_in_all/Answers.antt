use Rattle.std.proofs.Common.{arith, below_more}
use Rattle.condorcet_count.proofs.Choices.{nobody}
use Rattle.condorcet_count.proofs.outcome.chosen_in_all.Goals as goal

pub returns : goal.returns
returns c = nobody _ c.loop-x.x _ (omega arith) c.loop-x.invariant

pub loop-x-preserved : goal.loop-x-preserved
loop-x-preserved c = below_more _ _ c.loop-x.invariant (λ is. let yes = c.is_chosen_in_all.ensures.1 is in let no = c.if-is_chosen_in_all.false in grind arith)
