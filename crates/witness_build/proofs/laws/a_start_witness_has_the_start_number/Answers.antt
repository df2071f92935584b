use Rattle.witness_build.proofs.StartNumbers.{one_start_number, start_number}
use Rattle.witness_build.proofs.laws.a_start_witness_has_the_start_number.Goals as goal

pub returns-clause-length : goal.returns-clause-length
returns-clause-length c = start_number

pub returns-clause-one : goal.returns-clause-one
returns-clause-one c = one_start_number
