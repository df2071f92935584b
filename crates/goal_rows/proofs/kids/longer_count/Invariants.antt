use Rattle.std.proofs.Common.{◌≡◌, length}
use Rattle.std.specs.Prelude.{not}
use Rattle.irv_count.specs.Orders.{member}
use Rattle.goal_rows.specs.Suffixes.{those}
use Rattle.goal_rows.proofs.kids.longer_count.Given as goal

abbrev pub invariant-loop-z : goal.invariant-loop-z
invariant-loop-z l = l.count ≡ length (those l.z (λ z. not (member z l.suffix)))
