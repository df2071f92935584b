use Rattle.alteration_model.proofs.Judged.{faultless}
use Rattle.alteration_model.proofs.laws.puts_without_fault_are_an_alteration.Goals as goal

pub returns : goal.returns
returns c = faultless
