use Rattle.mov_run.proofs.Lines.{cut_first, cut_later, failed_at, went_on}
use Rattle.mov_run.proofs.run_faults.write_five.Goals as goal

pub returns-in_err-write_piece-2 : goal.returns-in_err-write_piece-2
returns-in_err-write_piece-2 g c =
    failed_at _ _ c.from_residual-in_err-write_piece-2.result _ _ _ c.from_residual-in_err-write_piece-2.ensures.0
    (cut_later _ _ _ _ _ _ _ _ c.in_ok-write_piece.ensures (cut_first _ _ _ _ _ _ c.in_err-write_piece-2.ensures))

pub returns : goal.returns
returns g c = went_on _ _ _ c.write_three.result _ _ _ _ _ c.in_ok-write_piece.ensures (went_on _ _ _ c.write_three.result _ _ _ _ _ c.in_ok-write_piece-2.ensures c.write_three.ensures)
