use Rattle.std.proofs.Common.{◌∙◌}
use Rattle.ballot_csv.proofs.FormFacts.{runs_end, runs_more}
use Rattle.ballot_csv.proofs.print.write_runs.Goals as goal

pub loop-run-preserved : goal.loop-run-preserved
loop-run-preserved c = record {
  same = c.in-Some.ensures.steps.same ∙ c.loop-run.invariant.same;
  rest = runs_more c.args.contest.now.names _ c.loop-run.run-iterator c.in-Some.run' c.next.new.self _ _ _ c.in-Some.ensures.steps (rw c.as_slice.ensures at c.in_ok-run_record.ensures) c.loop-run.invariant.rest c.in_ok-write.ensures;
}

pub returns : goal.returns
returns c = runs_end c.args.contest.now.names c.loop-run.run-iterator.ballots _ _ c.in-None.ensures.steps.0 c.loop-run.invariant.rest
