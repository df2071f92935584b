use Rattle.std.proofs.Common.{◌∙◌, slice_get, ap, arith}
use Rattle.sig_graph.specs.Paths.{arcs_of}
use Rattle.sig_graph.proofs.ArcNumbers.{arc_at-product, arc_at-within, get-arcs_of}
use Rattle.sig_graph.proofs.arcs.arc_index.Goals as goal

pub returns-clause-number : goal.returns-clause-number
returns-clause-number c =
    rw (c.from-u.ensures, c.from.ensures, c.from-2.ensures)
    (arc_at-product c.args.m c.args.u c.args.x c.requires.begins c.requires.ends)

pub returns-clause-arc : goal.returns-clause-arc
returns-clause-arc c =
    ap (slice_get (arcs_of c.args.m)) (returns-clause-number c)
    ∙ get-arcs_of c.args.m c.args.u c.args.x c.requires.begins c.requires.ends

pub returns-clause-within : goal.returns-clause-within
returns-clause-within c = omega (
  arith,
  returns-clause-number c,
  arc_at-within c.args.m c.args.u c.args.x c.requires.begins c.requires.ends,
)
