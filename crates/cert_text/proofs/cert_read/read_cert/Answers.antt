use Rattle.cert_text.proofs.Answering.{has_text, reads_only, reads_exactly, names_no_line}
use Rattle.cert_text.proofs.cert_read.read_cert.Goals as goal

pub returns-clause-found : goal.returns-clause-found
returns-clause-found c = has_text c.args.text.now c.read_all.result c.read_all.ensures

pub returns-clause-only : goal.returns-clause-only
returns-clause-only c = reads_only c.args.text.now c.read_all.result c.read_all.ensures

pub returns-clause-exact : goal.returns-clause-exact
returns-clause-exact c = reads_exactly c.args.text.now c.read_all.result c.read_all.ensures

pub returns-clause-memory : goal.returns-clause-memory
returns-clause-memory c = names_no_line c.args.text.now c.read_all.result c.read_all.ensures
