use Rattle.std.proofs.Common.{rules}
use Rattle.csv.specs.Records.{fields_of}
use Rattle.ballot_csv.specs.OneRecord.{is_empty}
use Rattle.ballot_csv.proofs.CellFacts.{all_until}
use Rattle.ballot_csv.proofs.record.is_passed.Goals as goal

pub loop-i-preserved : goal.loop-i-preserved
loop-i-preserved c = rw (all_until is_empty (fields_of c.args.cells.now) c.loop-i.i c.cell_at.result.now c.cell_at.ensures, c.loop-i.invariant) (search rules)
