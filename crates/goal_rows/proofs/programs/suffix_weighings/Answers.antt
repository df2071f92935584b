use Rattle.std.proofs.Common.{◌+◌, ◌-◌, map}
use Rattle.std.specs.List.{range_with_len}
use Rattle.goal_rows.specs.declared.weighings.Weighing.TheVariants.{Held}
use Rattle.goal_rows.proofs.Lists.{list_more}
use Rattle.goal_rows.proofs.programs.suffix_weighings.Goals as goal

pub loop-i-preserved : goal.loop-i-preserved
loop-i-preserved c =
    list_more (λ i. map (λ j. Held i j) (range_with_len (i + 1) (c.args.m - (i + 1)))) c.loop-i.i c.loop-i.weighings.items c.add_round.new.weighings.items c.loop-i.invariant c.in_ok-add_round.ensures
