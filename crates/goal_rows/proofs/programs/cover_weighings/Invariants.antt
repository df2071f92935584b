use Rattle.std.proofs.Common.{◌≡◌, map}
use Rattle.std.specs.Prelude.{◌==◌, not}
use Rattle.goal_rows.specs.Suffixes.{those}
use Rattle.goal_rows.specs.declared.weighings.Weighing.TheVariants.{Over}
use Rattle.goal_rows.proofs.programs.cover_weighings.Given as goal

abbrev pub invariant-loop-j : goal.invariant-loop-j
invariant-loop-j l = l.weighings.items ≡ map (λ j. Over l.x j) (those l.j (λ j. not (j == l.x)))
