use Rattle.std.proofs.Common.{arith, ◌≡◌}
use Rattle.std.proofs.lemmas.Int.{ints}
use Rattle.std.specs.Prelude.{pos}
use Rattle.exact_num.specs.Divisors.{row_gcd}
use Rattle.pivot_form.proofs.SmallRows.{stays_reduced}
use Rattle.pivot_form.proofs.small_rows.reduce_small.Goals as goal

pub returns-else-value-gt1 : goal.returns-else-value-gt1
returns-else-value-gt1 c =
    let value : c.row_divisor-value.result ≡ pos (row_gcd c.args.row.now) = c.row_divisor-value.ensures in
    stays_reduced c.args.row.now (omega (arith, ints, value, c.if-value-gt1.false))
