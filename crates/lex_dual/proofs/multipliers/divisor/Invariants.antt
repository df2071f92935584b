use Rattle.std.proofs.Common.{◌≡◌, take}
use Rattle.std.specs.List.{fold}
use Rattle.exact_num.specs.Divisors.{gcd_of}
use Rattle.lex_dual.proofs.multipliers.divisor.Given as goal

abbrev pub invariant-loop-x : goal.invariant-loop-x
invariant-loop-x l = l.divisor ≡ fold gcd_of 0 (take l.x-index l.numbers)
