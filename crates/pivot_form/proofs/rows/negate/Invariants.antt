use Rattle.std.proofs.Common.{◌≡◌}
use lib.IntN.{neg_ℤ}
use Rattle.exact_num.proofs.Maps.{map_front}
use Rattle.pivot_form.proofs.rows.negate.Given as goal

abbrev pub invariant-loop-x : goal.invariant-loop-x
invariant-loop-x l = l.row ≡ map_front neg_ℤ l.x-index l.initial.row
