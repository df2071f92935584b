use Rattle.std.proofs.Common.{arith, ap, length}
use Rattle.lex_dual.proofs.Tables.{first_placed}
use Rattle.lex_dual.proofs.places.first_places.Goals as goal

pub returns : goal.returns
returns c = first_placed c.args.program.now c.loop-cost.places.items (omega (arith, c.loop-cost.invariant.wide, ap length c.as_slice-cost-items.ensures)) c.loop-cost.invariant.cost c.loop-cost.invariant.others
