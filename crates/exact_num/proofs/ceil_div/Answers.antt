use Rattle.std.proofs.Common.{arith}
use Rattle.std.proofs.lemmas.Int.{ints, quot_rem_is, rem_below, quot_fits, rem_is}
use mir.Syntax.{w128}
use Rattle.exact_num.proofs.Ring.{products}
use Rattle.exact_num.proofs.ceil_div.Goals as goal

pub returns-else-a-b-gt0-clause-least : goal.returns-else-a-b-gt0-clause-least
returns-else-a-b-gt0-clause-least c =
    let fits = quot_fits w128 c.args.a c.args.b c.ranges.a c.requires.positive in
    let whole = quot_rem_is w128 c.args.a c.args.b c.ranges.a c.ranges.b fits in
    omega (arith, products, whole, c.if-a-b-gt0.false, rem_below c.args.a c.args.b (omega (arith, ints)), rem_is w128 c.args.a c.args.b c.ranges.a c.ranges.b)
