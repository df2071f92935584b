use Rattle.dual_bound.proofs.CellVariables.{on_arc, on_class}
use Rattle.dual_bound.proofs.cells.is_on_variable.Goals as goal

pub returns-in-From : goal.returns-in-From
returns-in-From c =
    let h = on_class c.args.start.now c.in-From.key in
    rw c.in-From.is (λ on. h.1 (c.has_class.ensures.0 on), λ at. c.has_class.ensures.1 (h.0 at))

pub returns-in-Arc : goal.returns-in-Arc
returns-in-Arc c =
    let h = on_arc c.args.start.now c.in-Arc.u c.in-Arc.x in
    let is = rw c.requires.places at c.is_arc.ensures in
    rw c.in-Arc.is (λ on. h.1 (is.0 on), λ at. is.1 (h.0 at))
