use Rattle.std.proofs.Common.{◌+◌, ◌-◌, map}
use Rattle.std.specs.List.{range_with_len}
use Rattle.goal_rows.proofs.Lists.{list_more}
use Rattle.goal_rows.proofs.programs.arcs_among.Goals as goal

pub loop-u-preserved : goal.loop-u-preserved
loop-u-preserved c =
    list_more (λ u. map (λ x. (u, x)) (range_with_len (u + 1) (c.args.m - u))) c.loop-u.u c.loop-u.arcs.items c.add_arcs_out.new.arcs.items c.loop-u.invariant c.in_ok-add_arcs_out.ensures
