use Rattle.std.proofs.Common.{arith}
use Rattle.std.specs.Prelude.{pos}
use Rattle.std.proofs.lemmas.List.{ext_get_or}
use Rattle.pivot_form.proofs.rows.store.Goals as goal

pub returns : goal.returns
returns c = ext_get_or (pos 0) c.loop-i.row c.args.wide.now (omega arith) (λ k l. c.loop-i.invariant k (omega arith))
