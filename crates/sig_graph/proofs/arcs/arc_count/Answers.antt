use Rattle.std.proofs.Common.{sym, ◌∙◌, ap}
use Rattle.sig_graph.specs.Paths.{arc_total}
use Rattle.sig_graph.proofs.ArcNumbers.{length-arcs_of}
use Rattle.sig_graph.proofs.arcs.arc_count.Goals as goal

pub returns-clause-arcs : goal.returns-clause-arcs
returns-clause-arcs c = ap arc_total c.from-m.ensures ∙ sym (length-arcs_of c.args.m)
