use Rattle.std.proofs.Common.{◌∙◌, sym, arith}
use Rattle.csv.specs.Records.{fields_of}
use Rattle.ballot_csv.proofs.HeadFacts.{head_good}
use Rattle.ballot_csv.proofs.head.read_head.Goals as goal

pub returns-clause-good : goal.returns-clause-good
returns-clause-good c =
    let ours = sym c.is_head_word.ensures ∙ c.if-not-is_head_word.false in
    rw (head_good (fields_of c.args.head.now) c.filled_len-len.result c.cell_at.result.now (omega arith) (omega arith) c.filled_len-len.ensures.within c.cell_at.ensures ours c.filled_len-len.ensures.filled) c.read_names.ensures.good
