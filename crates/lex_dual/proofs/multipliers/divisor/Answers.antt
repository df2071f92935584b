use Rattle.std.proofs.Common.{arith, rules, get_or, ◌<◌, ◌^◌}
use Rattle.lex_dual.proofs.Numbers.{gcd_small}
use Rattle.lex_dual.proofs.multipliers.divisor.Goals as goal

pub overflow_cast-divisor-in-loop-x : goal.overflow_cast-divisor-in-loop-x
overflow_cast-divisor-in-loop-x c =
    let x = get_or c.args.numbers.now c.loop-x.x-index 0 in
    let fits : x < 2 ^ 64 = search rules in
    let low = gcd_small c.loop-x.divisor x (2 ^ 64) (search rules) fits in
    let small : c.gcd-divisor.result < 2 ^ 64 = omega (arith, low, c.gcd-divisor.ensures.value) in
    search rules
