use Rattle.std.proofs.Common.{◌≡◌, ◌++◌, replicate}
use Rattle.goal_rows.proofs.programs.add_times.Given as goal

abbrev pub invariant-loop : goal.invariant-loop
invariant-loop l = l.costs ≡ l.fn.costs ++ replicate l.counter l.cost
