use Rattle.std.proofs.Common.{◌≡◌, ◌∙◌, get_or, sym, subst}
use Rattle.goal_rows.specs.Races.{election_of}
use Rattle.goal_rows.specs.declared.goals.Goal.TheVariants.{Root}
use Rattle.witness_build.specs.Witnesses.{IsPair}
use Rattle.witness_build.proofs.Nearby.{IsLevelAt, ground_at, item_at, nearest_stays, nearest_taken, reached_at}
use Rattle.witness_build.proofs.starts.nearest.Goals as goal
use Rattle.witness_build.proofs.starts.nearest.Goals.{then-is_closer, else-is_closer}

pub ground-requires-clause-reached : goal.ground-requires-clause-reached
ground-requires-clause-reached c =
    let race = c.args.race.now in
    let here = item_at race.roots c.as_slice-goal-items.result.now c.loop-goal.goal-index c.goal-item.result c.as_slice-goal-items.ensures c.loop-goal-test.true c.goal-item.is in
    reached_at (election_of race) c.loop-goal.goal-index c.goal-item.result here.0 here.1

pub level_of-requires : goal.level_of-requires
level_of-requires c =
    let race = c.args.race.now in
    let e = election_of race in
    let here = item_at race.roots c.as_slice-goal-items.result.now c.loop-goal.goal-index c.goal-item.result c.as_slice-goal-items.ensures c.loop-goal-test.true c.goal-item.is in
    let stands : get_or race.roots c.loop-goal.goal-index Root ≡ c.in_ok-start.start.goal = here.1 ∙ sym c.in_ok-start.ensures.goal in
    record {
      start = (e, ground_at e c.loop-goal.goal-index c.in_ok-start.start c.requires.race.election here.0 stands c.in_ok-start.ensures.values);
      pair = subst IsPair stands (c.requires.pairs c.loop-goal.goal-index Root here.0);
    }

pub loop-goal-preserved : goal.loop-goal-preserved
loop-goal-preserved c =
    let race = c.args.race.now in
    let e = election_of race in
    let here = item_at race.roots c.as_slice-goal-items.result.now c.loop-goal.goal-index c.goal-item.result c.as_slice-goal-items.ensures c.loop-goal-test.true c.goal-item.is in
    let stands : get_or race.roots c.loop-goal.goal-index Root ≡ c.in_ok-start.start.goal = here.1 ∙ sym c.in_ok-start.ensures.goal in
    let level : IsLevelAt e c.loop-goal.goal-index c.in_ok-start.start c.in_ok-level.level = record {
      within = here.0;
      stands = stands;
      known = ground_at e c.loop-goal.goal-index c.in_ok-start.start c.requires.race.election here.0 stands c.in_ok-start.ensures.values;
      reaches = c.in_ok-level.ensures;
    } in
    elim c.if-is_closer.branch [
      | then-is_closer w ↦ rw w.near-is
          (nearest_taken e c.loop-goal.goal-index c.loop-goal.near c.in_ok-start.start c.in_ok-level.level c.loop-goal.invariant (sym c.is_closer.ensures ∙ w.if-is_closer.true) level)
      | else-is_closer w ↦ rw w.near-is
          (nearest_stays e c.loop-goal.goal-index c.loop-goal.near c.in_ok-start.start c.in_ok-level.level c.loop-goal.invariant (sym c.is_closer.ensures ∙ w.if-is_closer.false) level)
    ]
