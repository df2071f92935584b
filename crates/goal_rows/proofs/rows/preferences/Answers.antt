use Rattle.std.proofs.Common.{◌∙◌}
use Rattle.goal_rows.specs.Suffixes.{prefer_points}
use Rattle.goal_rows.proofs.CoverTurning.{pref_points_sum}
use Rattle.goal_rows.proofs.RunCounts.{all_counted, run_counted, run_few}
use Rattle.goal_rows.proofs.rows.preferences.Goals as goal

pub loop-run-preserved : goal.loop-run-preserved
loop-run-preserved c =
    let old = c.loop-run.run-iterator in
    let run = c.in-Some.run' in
    let new = c.next.new.self in
    let n = c.from-count.result in
    let is = c.in-Some.ensures.steps in
    let so_far = c.loop-run.invariant in
    let one = c.preference.ensures in
    let two = c.preference-in-loop-run.ensures in
    record {
      over = run_counted (prefer_points c.args.x c.args.y) old run new n c.preference.result c.loop-run.over _ is c.from-count.ensures one.value so_far.over;
      under = run_counted (prefer_points c.args.y c.args.x) old run new n c.preference-in-loop-run.result c.loop-run.under _ is c.from-count.ensures two.value so_far.under;
      few_over = run_few 1 old run new n c.preference.result c.loop-run.over _ is c.from-count.ensures one.few so_far.few_over;
      few_under = run_few 1 old run new n c.preference-in-loop-run.result c.loop-run.under _ is c.from-count.ensures two.few so_far.few_under;
    }

pub returns-clause-first : goal.returns-clause-first
returns-clause-first c =
    all_counted (prefer_points c.args.x c.args.y) c.args.roll.now.ballots c.loop-run.run-iterator.ballots c.loop-run.over c.in-None.ensures.steps.0 c.loop-run.invariant.over
    ∙ pref_points_sum c.args.roll.now.ballots c.args.x c.args.y

pub returns-clause-second : goal.returns-clause-second
returns-clause-second c =
    all_counted (prefer_points c.args.y c.args.x) c.args.roll.now.ballots c.loop-run.run-iterator.ballots c.loop-run.under c.in-None.ensures.steps.0 c.loop-run.invariant.under
    ∙ pref_points_sum c.args.roll.now.ballots c.args.y c.args.x
