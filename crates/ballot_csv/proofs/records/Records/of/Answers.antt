use Rattle.std.proofs.Common.{◌+◌, refl, arith, length}
use Rattle.csv.specs.declared.parser.State.TheVariants as st
use Rattle.ballot_csv.specs.Marks.{without_marks}
use Rattle.ballot_csv.proofs.LeftFacts.{few_records}
use Rattle.ballot_csv.proofs.MarkFacts.{no_longer, no_mark_left}
use Rattle.ballot_csv.proofs.records.Records.of.Goals as goal

pub returns-clause-records : goal.returns-clause-records
returns-clause-records c =
    let fr = c.from_reader.ensures in
    let source = rw (c.without_marks.ensures, no_mark_left c.args.bytes.now) at fr.source in
    rw (source, fr.state) refl

pub returns-clause-few : goal.returns-clause-few
returns-clause-few c =
    let fr = c.from_reader.ensures in
    let source = rw (c.without_marks.ensures, no_mark_left c.args.bytes.now) at fr.source in
    let few = few_records (length (without_marks c.args.bytes.now) + 1) st.StartRecord (without_marks c.args.bytes.now) in
    let less = no_longer c.args.bytes.now in
    rw (source, fr.state) (omega (arith, few, less))
