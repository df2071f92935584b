use Rattle.std.proofs.Common.{◌∙◌, ap}
use Rattle.ballot_csv.specs.BallotFile.{named_poll_of, read_of}
use Rattle.ballot_csv.proofs.FormFacts.{form_made, if_ok}
use Rattle.ballot_csv.proofs.Law.{read_plain}
use Rattle.ballot_csv.proofs.print.print_ballots.Goals as goal

pub returns-clause-text : goal.returns-clause-text
returns-clause-text c =
    let made = form_made c.args.contest.now.names c.args.contest.now.roll.ballots _ c.new-text.result c.write.new.self c.write_runs.new.text c.in_ok-head_record.ensures c.new-text.ensures c.in_ok-write.ensures c.in_ok-write_runs.ensures in
    if_ok c.into_bytes.result (λ bytes is. is ∙ made) c.into_bytes.ensures

pub returns-clause-back : goal.returns-clause-back
returns-clause-back c =
    let k = c.args.contest.now in
    let back = read_plain (named_poll_of k) k.one_each k.distinct k.admitted c.candidates.ensures.poll in
    let made = form_made k.names k.roll.ballots _ c.new-text.result c.write.new.self c.write_runs.new.text c.in_ok-head_record.ensures c.new-text.ensures c.in_ok-write.ensures c.in_ok-write_runs.ensures in
    if_ok c.into_bytes.result (λ bytes is. ap read_of (is ∙ made) ∙ back) c.into_bytes.ensures
