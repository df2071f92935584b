use Rattle.std.proofs.Common.{◌≡◌, ◌++◌, ◌+◌, ◌-◌, map}
use Rattle.std.specs.List.{range_with_len}
use Rattle.goal_rows.specs.declared.weighings.Weighing.TheVariants.{Held}
use Rattle.goal_rows.proofs.programs.add_round.Given as goal

abbrev pub invariant-loop-j : goal.invariant-loop-j
invariant-loop-j l = l.weighings.items ≡ l.fn.weighings.items ++ map (λ j. Held l.i j) (range_with_len (l.i + 1) (l.j - (l.i + 1)))
