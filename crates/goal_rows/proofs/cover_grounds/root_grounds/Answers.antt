use Rattle.std.proofs.Common.{sym, subst}
use Rattle.std.specs.Prelude.{Contains}
use Rattle.std.proofs.lemmas.List.Elements.{All-push}
use Rattle.goal_rows.specs.Races.{IsGroundOf, election_of}
use Rattle.goal_rows.proofs.LongerGrounds.{goals_more}
use Rattle.goal_rows.proofs.Ways.{reached_root_goal}
use Rattle.goal_rows.proofs.cover_grounds.root_grounds.Goals as goal

pub ground-requires-clause-reached : goal.ground-requires-clause-reached
ground-requires-clause-reached c =
    reached_root_goal (election_of c.args.race.now) c.kid-item.result
    (subst (λ kids. Contains kids c.kid-item.result) c.as_slice-kid-items.ensures (c.loop-kid.kid-index, c.loop-kid-test.true, sym c.kid-item.is))

pub loop-kid-preserved : goal.loop-kid-preserved
loop-kid-preserved c =
    let start = c.in_ok-ground.field-0 in
    let so_far = c.loop-kid.invariant in
    rw c.in_ok-push.ensures.ok (record {
      goals = goals_more c.loop-kid.starts start c.loop-kid.kid-index c.as_slice-kid-items.result.now c.kid-item.result c.loop-kid-test.true so_far.goals c.kid-item.is c.in_ok-ground.ensures.goal;
      values = All-push (IsGroundOf (election_of c.args.race.now)) c.loop-kid.starts start so_far.values c.in_ok-ground.ensures.values;
    })
