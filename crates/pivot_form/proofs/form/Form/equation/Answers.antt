use Rattle.std.proofs.Common.{◌∙◌, ap, length, ◌+◌}
use Rattle.row_program.specs.Forms.{Table}
use Rattle.pivot_form.specs.Shorts.{store_of}
use Rattle.pivot_form.proofs.Whole.{width_at}
use Rattle.pivot_form.proofs.WholeRows.{lent_is}
use Rattle.pivot_form.proofs.form.Form.equation.Goals as goal

pub returns-clause-value : goal.returns-clause-value
returns-clause-value c = c.new.ensures ∙ lent_is (store_of c.self.inside.short) c.args.self.now c.args.row c.basic.result c.self.view_is c.requires c.basic.ensures

pub returns-clause-wide : goal.returns-clause-wide
returns-clause-wide c = ap length c.new.ensures ∙ width_at (store_of c.self.inside.short) c.basic.result ∙ ap (λ (t : Table). t.variables + 1) c.self.view_is
