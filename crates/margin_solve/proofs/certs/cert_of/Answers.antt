use Rattle.margin_solve.proofs.Ended.{fixed_of}
use Rattle.margin_solve.proofs.certs.cert_of.Goals as goal

pub returns-in-None : goal.returns-in-None
returns-in-None c =
    fixed_of c.args.race.now c.requires.race c.requires.own c.args.budget c.requires.some c.requires.most c.args.found c.tree_read.ensures.narrow c.tree_read.ensures.shallow
    c.args.start c.fixed_cert.result c.in-None.is c.requires.begun c.requires.found c.fixed_cert.ensures.parts c.fixed_cert.ensures.goal c.fixed_cert.ensures.puts
