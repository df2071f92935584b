use Rattle.std.proofs.lemmas.Result.{err_from_is_err_and}
use Rattle.csv.specs.Records.{fields_of}
use Rattle.ballot_csv.specs.OneRecord.{is_unknown}
use Rattle.ballot_csv.proofs.BallotFacts.{ballot_more}
use Rattle.ballot_csv.proofs.CellFacts.{any_rest_more, any_rest_starts_at}
use Rattle.ballot_csv.proofs.FaultFacts.{or_memory}
use Rattle.ballot_csv.proofs.record.read_ballot.Goals as goal

pub loop-i-preserved : goal.loop-i-preserved
loop-i-preserved c = record {
  ballot = rw (ballot_more c.args.names.now (fields_of c.args.cells.now) c.loop-i.i c.cell_at.result.now c.loop-i.auto.i c.cell_at.ensures, ← c.loop-i.invariant.ballot) c.in_ok-add_cell.ensures.ballot;
  below = c.in_ok-add_cell.ensures.below;
  known = rw (any_rest_more (is_unknown c.args.names.now) (fields_of c.args.cells.now) c.loop-i.i c.cell_at.result.now c.loop-i.auto.i c.cell_at.ensures, c.loop-i.invariant.known) c.in_ok-add_cell.ensures.known;
}

pub returns-in_err-add_cell-clause-err : goal.returns-in_err-add_cell-clause-err
returns-in_err-add_cell-clause-err c =
    let p = err_from_is_err_and c.from_residual.result c.from_residual.ensures.1 in
    rw (p.1, p.2) (or_memory c.in_err-add_cell.field-0.0 (λ h. (h.0, any_rest_starts_at (is_unknown c.args.names.now) (fields_of c.args.cells.now) c.loop-i.i c.cell_at.result.now c.loop-i.auto.i c.cell_at.ensures h.1)) c.in_err-add_cell.ensures.err)
