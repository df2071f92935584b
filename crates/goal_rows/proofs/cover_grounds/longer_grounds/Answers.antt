use Rattle.std.proofs.Common.{◌∙◌, sym}
use Rattle.std.proofs.lemmas.List.Elements.{All-push}
use Rattle.goal_rows.specs.Races.{IsGroundOf, election_of}
use Rattle.goal_rows.proofs.LongerGrounds.{goals_added, goals_kept}
use Rattle.goal_rows.proofs.cover_grounds.longer_grounds.Goals as goal
use Rattle.goal_rows.proofs.cover_grounds.longer_grounds.Goals.{then-not-has+in_ok-kid_ground+in_ok-push, else-not-has}

pub loop-z-preserved : goal.loop-z-preserved
loop-z-preserved c =
    let suffix = c.as_slice-candidates.result.now in
    let starts = c.loop-z.starts in
    let so_far = c.loop-z.invariant in
    elim c.if-not-has.branch [
      | then-not-has+in_ok-kid_ground+in_ok-push w ↦
          let start = w.in_ok-kid_ground.field-0 in
          rw (w.starts-is, w.in_ok-push.ensures.ok) (record {
            goals = goals_added starts start c.loop-z.z suffix so_far.goals (sym c.has.ensures ∙ w.if-not-has.true) w.in_ok-kid_ground.ensures.goal;
            values = All-push (IsGroundOf (election_of c.args.race.now)) starts start so_far.values w.in_ok-kid_ground.ensures.values;
          })
      | else-not-has w ↦ rw w.starts-is (record {
        goals = goals_kept starts c.loop-z.z suffix so_far.goals (sym c.has.ensures ∙ w.if-not-has.false);
        values = so_far.values;
      })
    ]
