use Rattle.std.proofs.Common.{arith}
use Rattle.pivot_form.proofs.form.Form.entry.Goals as goal

pub entry-requires : goal.entry-requires
entry-requires c = omega (arith, c.requires.column, c.equation.ensures.wide)
