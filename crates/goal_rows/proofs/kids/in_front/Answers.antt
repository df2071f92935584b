use Rattle.std.proofs.Common.{subst}
use Rattle.std.specs.Prelude.{Contains, slice_index_or}
use Rattle.goal_rows.proofs.Lengths.{new_in_front}
use Rattle.goal_rows.proofs.kids.in_front.Goals as goal

pub push-requires : goal.push-requires
push-requires c there =
    new_in_front c.args.z c.loop-x.x-index c.args.suffix.now c.requires.distinct c.requires.another c.loop-x-test.true
    (subst (λ ranking. Contains ranking (slice_index_or c.args.suffix.now c.loop-x.x-index 0)) c.loop-x.invariant there)
