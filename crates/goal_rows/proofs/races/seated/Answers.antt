use Rattle.std.proofs.Common.{map}
use Rattle.goal_rows.specs.Goals.{is_seated}
use Rattle.goal_rows.specs.Suffixes.{those}
use Rattle.goal_rows.specs.declared.goals.Goal.TheVariants.{Pair}
use Rattle.goal_rows.proofs.Lists.{list_more}
use Rattle.goal_rows.proofs.races.seated.Goals as goal

pub loop-g-preserved : goal.loop-g-preserved
loop-g-preserved c =
    list_more (λ g. map (λ l. Pair g l) (those c.args.c (is_seated c.args.shares.now g))) c.loop-g.g c.loop-g.roots c.add_seated.new.roots c.loop-g.invariant c.in_ok-add_seated.ensures
