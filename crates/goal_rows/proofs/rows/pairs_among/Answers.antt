use Rattle.std.proofs.Common.{◌≤◌, ◌-◌, length, arith}
use Rattle.std.proofs.Math.Nat.{mul-le-mul}
use Rattle.goal_rows.proofs.Lengths.{few_bytes, suffix_rows_count}
use Rattle.goal_rows.proofs.rows.pairs_among.Goals as goal

pub overflow_mul-result : goal.overflow_mul-result
overflow_mul-result c =
    let suffix = c.args.suffix.now in
    let few = few_bytes suffix c.requires (λ k lt. let f = c.type_inv.suffix k in omega (arith, f)) in
    let less : length suffix - 1 ≤ 256 = omega (arith, few) in
    let h = mul-le-mul few less in
    omega (arith, h)

pub returns-else-m-eq0 : goal.returns-else-m-eq0
returns-else-m-eq0 c = suffix_rows_count c.args.suffix.now
