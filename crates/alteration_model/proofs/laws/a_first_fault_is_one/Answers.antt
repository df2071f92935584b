use Rattle.alteration_model.proofs.Unique.{one_first_fault}
use Rattle.alteration_model.proofs.laws.a_first_fault_is_one.Goals as goal

pub returns : goal.returns
returns c = one_first_fault
