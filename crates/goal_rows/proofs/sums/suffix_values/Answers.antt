use Rattle.goal_rows.specs.KeyCounts.{round_values}
use Rattle.goal_rows.proofs.Lists.{list_more}
use Rattle.goal_rows.proofs.sums.suffix_values.Goals as goal

pub loop-i-preserved : goal.loop-i-preserved
loop-i-preserved c =
    list_more (λ i. round_values c.args.m i c.args.classes.now) c.loop-i.i c.loop-i.sums c.add_round.new.sums c.loop-i.invariant c.in_ok-add_round.ensures
