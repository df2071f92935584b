use Rattle.std.proofs.Common.{◌≡◌}
use Rattle.std.specs.Int.RustNames.{int_div}
use Rattle.exact_num.proofs.Maps.{map_front}
use Rattle.pivot_form.proofs.small_rows.divide.Given as goal

abbrev pub invariant-loop-x : goal.invariant-loop-x
invariant-loop-x l = l.row ≡ map_front (λ x. int_div x l.divisor.value) l.x-index l.initial.row
