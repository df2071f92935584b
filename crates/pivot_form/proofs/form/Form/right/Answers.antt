use Rattle.pivot_form.specs.Shorts.{store_of}
use Rattle.pivot_form.proofs.WholeRows.{right_read}
use Rattle.pivot_form.proofs.form.Form.right.Goals as goal

pub returns : goal.returns
returns c = right_read (store_of c.self.inside.short) c.args.self.now c.args.row c.basic.result c.right.result c.self.invariant.0 c.self.view_is c.requires c.basic.ensures c.right.ensures
