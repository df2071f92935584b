use Rattle.csv.specs.Records.{fields_of}
use Rattle.ballot_csv.proofs.GoodFile.{all_good}
use Rattle.ballot_csv.proofs.GoodNames.{admitted_names, distinct_names}
use Rattle.ballot_csv.proofs.file.read_after.Goals as goal

pub invariant_of-result-clause-distinct : goal.invariant_of-result-clause-distinct
invariant_of-result-clause-distinct c = distinct_names (fields_of c.args.head.now) c.in-Ok.names.0 c.in-Ok.ensures.good c.in-Ok.ensures.names

pub invariant_of-result-clause-admitted : goal.invariant_of-result-clause-admitted
invariant_of-result-clause-admitted c = admitted_names (fields_of c.args.head.now) c.in-Ok.names.0 c.in-Ok.ensures.good c.in-Ok.ensures.names

pub returns : goal.returns
returns c =
    let e = c.in-Ok.ensures in
    let r = c.in_ok-add_records.ensures in
    all_good (fields_of c.args.head.now) c.args.records.now c.in-Ok.names.0 c.in-Ok.names.1 c.new-roll.result c.add_records.new.roll c.len.result e.good e.names e.index c.len.ensures c.new-roll.ensures r.good r.ballots r.names
