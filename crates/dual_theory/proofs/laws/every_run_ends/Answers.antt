use Rattle.dual_theory.proofs.Ending.{ends}
use Rattle.dual_theory.proofs.laws.every_run_ends.Goals as goal

pub returns : goal.returns
returns c = ends
