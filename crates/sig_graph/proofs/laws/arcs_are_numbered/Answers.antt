use Rattle.sig_graph.proofs.ArcNumbers.{arc_at-same, arc_of}
use Rattle.sig_graph.proofs.laws.arcs_are_numbered.Goals as goal

pub returns-clause-each : goal.returns-clause-each
returns-clause-each c = λ m k few. let a = arc_of m k few in (a.from, a.to, a.begins, a.ends, a.is)

pub returns-clause-apart : goal.returns-clause-apart
returns-clause-apart c = arc_at-same
