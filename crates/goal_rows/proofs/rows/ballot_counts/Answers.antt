use Rattle.goal_rows.specs.Goals.{gainer_points, loser_points}
use Rattle.goal_rows.specs.Races.{election_of}
use Rattle.goal_rows.proofs.RunCounts.{run_counted, run_few}
use Rattle.goal_rows.proofs.rows.ballot_counts.Goals as goal

pub loop-run-preserved : goal.loop-run-preserved
loop-run-preserved c =
    let old = c.loop-run.run-iterator in
    let run = c.in-Some.run' in
    let new = c.next.new.self in
    let n = c.from-count.result in
    let plus = gainer_points (election_of c.args.race.now) c.args.gainer c.args.loser in
    let minus = loser_points (election_of c.args.race.now) c.args.gainer c.args.loser in
    let is = c.in-Some.ensures.steps in
    let so_far = c.loop-run.invariant in
    record {
      gained = run_counted plus old run new n c.for_gainer.result c.loop-run.gained _ is c.from-count.ensures c.for_gainer.ensures.value so_far.gained;
      lost = run_counted minus old run new n c.for_loser.result c.loop-run.lost _ is c.from-count.ensures c.for_loser.ensures.value so_far.lost;
      few_gained = run_few 65536 old run new n c.for_gainer.result c.loop-run.gained _ is c.from-count.ensures c.for_gainer.ensures.few so_far.few_gained;
      few_lost = run_few 65536 old run new n c.for_loser.result c.loop-run.lost _ is c.from-count.ensures c.for_loser.ensures.few so_far.few_lost;
    }
