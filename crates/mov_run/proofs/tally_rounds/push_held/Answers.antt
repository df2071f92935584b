use Rattle.std.proofs.Common.{◌∷◌, arith, get_or}
use Rattle.irv_count.specs.Orders.{stands}
use Rattle.mov_run.specs.Tally.{held_field}
use Rattle.mov_run.proofs.Ranges.{each_more}
use Rattle.mov_run.proofs.tally_rounds.push_held.Goals as goal

pub loop-x-preserved : goal.loop-x-preserved
loop-x-preserved c = each_more (λ x. 32 ∷ held_field (stands c.args.standing) (λ y. get_or c.args.counts.now y 0) x) _ _ _ 0 c.loop-x.x c.loop-x.x (omega arith) c.loop-x.invariant (rw c.stands_in.ensures at c.in_ok-push_field.ensures)
