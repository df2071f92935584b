use Rattle.std.proofs.Common.{◌≡◌, ◌++◌}
use Rattle.ballot_csv.specs.PlainForm.{run_records, text_of_records}
use Rattle.ballot_csv.proofs.print.write_runs.Given as goal

abbrev pub invariant-loop-run : goal.invariant-loop-run
invariant-loop-run l = record {
  same : l.run-iterator.c ≡ l.contest.roll.c;
  rest : l.text ++ text_of_records (run_records l.contest.names l.run-iterator.ballots) ≡ l.fn.text ++ text_of_records (run_records l.contest.names l.contest.roll.ballots);
}
