use Rattle.std.proofs.Common.{◌∙◌}
use Rattle.goal_rows.proofs.LongerGrounds.{class_more, class_room}
use Rattle.goal_rows.proofs.cover_grounds.kid_classes.Goals as goal

pub add-requires-clause-few : goal.add-requires-clause-few
add-requires-clause-few c =
    class_room c.args.z c.loop-kind.kind-index c.kid_key.result c.args.told.now _ c.loop-kind.classes c.loop-kind-test.true c.loop-kind.invariant c.requires.few

pub loop-kind-preserved : goal.loop-kind-preserved
loop-kind-preserved c =
    c.in_ok-add.ensures.added
    ∙ class_more c.args.z c.loop-kind.kind-index c.kid_key.result c.args.told.now (record { key = 0; leaders = 0; count = 0 }) c.loop-kind.classes c.loop-kind-test.true c.kid_key.ensures c.loop-kind.invariant
