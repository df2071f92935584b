use Rattle.std.proofs.Common.{◌≡◌, take, get_or}
use Rattle.std.specs.Prelude.{pos}
use Rattle.std.specs.List.{fold}
use Rattle.exact_num.specs.Divisors.{gcd_with}
use Rattle.pivot_form.proofs.small_rows.row_divisor.Given as goal

abbrev pub invariant-loop-x : goal.invariant-loop-x
invariant-loop-x l = l.divisor.value ≡ pos (fold gcd_with (gcd_with 0 (get_or l.row l.own (pos 0))) (take l.x-index l.row))
