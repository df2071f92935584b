use Rattle.std.proofs.Common.{◌≡◌, ◌/◌}
use Rattle.exact_num.proofs.Maps.{map_front}
use Rattle.lex_dual.proofs.multipliers.divide.Given as goal

abbrev pub invariant-loop-x : goal.invariant-loop-x
invariant-loop-x l = l.numbers ≡ map_front (λ x. x / l.divisor) l.x-index l.initial.numbers
