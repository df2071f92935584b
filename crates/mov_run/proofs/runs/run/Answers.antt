use Rattle.mov_run.proofs.Promises.{promised}
use Rattle.mov_run.proofs.runs.run.Goals as goal

pub returns : goal.returns
returns g c = promised _ _ _ _ c.work.ensures
