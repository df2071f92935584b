use Rattle.pivot_form.specs.Shorts.{store_of}
use Rattle.pivot_form.proofs.WholeRows.{lone_read}
use Rattle.pivot_form.proofs.form.Form.lone.Goals as goal

pub returns : goal.returns
returns c = lone_read (store_of c.self.inside.short) c.args.self.now c.args.row c.basic.result c.lone.result c.self.view_is c.requires c.basic.ensures c.lone.ensures
