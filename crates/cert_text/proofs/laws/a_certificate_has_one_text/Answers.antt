use Rattle.cert_text.proofs.Whole.{one_cert, one_text, read_exactly, fault_exactly}
use Rattle.cert_text.proofs.laws.a_certificate_has_one_text.Goals as goal

pub returns-clause-cert : goal.returns-clause-cert
returns-clause-cert c = one_cert

pub returns-clause-text : goal.returns-clause-text
returns-clause-text c = one_text

pub returns-clause-read : goal.returns-clause-read
returns-clause-read c = read_exactly

pub returns-clause-fault : goal.returns-clause-fault
returns-clause-fault c = fault_exactly
