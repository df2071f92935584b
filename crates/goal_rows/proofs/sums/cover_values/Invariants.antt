use Rattle.std.proofs.Common.{◌≡◌}
use Rattle.goal_rows.specs.KeyCounts.{cover_values}
use Rattle.goal_rows.proofs.sums.cover_values.Given as goal

abbrev pub invariant-loop-j : goal.invariant-loop-j
invariant-loop-j l = l.sums ≡ cover_values l.j l.x l.classes
