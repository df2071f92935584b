use Rattle.std.proofs.Common.{◌≡◌, take}
use Rattle.std.specs.Prelude.{pos}
use Rattle.std.specs.List.{fold}
use Rattle.std.specs.Int.RustNames.{int_div}
use Rattle.exact_num.specs.Divisors.{gcd_with}
use Rattle.exact_num.proofs.Maps.{map_front}
use Rattle.exact_num.proofs.reduce_row.Given as goal

abbrev pub invariant-measured : goal.invariant-measured
invariant-measured l = l.divisor ≡ fold gcd_with 0 (take l.x-index l.fn.row)

abbrev pub invariant-divided : goal.invariant-divided
invariant-divided l = l.row ≡ map_front (λ x. int_div x (pos l.divisor)) l.x-index l.initial.row
