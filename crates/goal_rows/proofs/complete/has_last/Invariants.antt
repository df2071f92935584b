use Rattle.std.proofs.Common.{take, [], ◌∷◌}
use Rattle.std.specs.Prelude.{Contains}
use Rattle.goal_rows.specs.declared.goals.Goal.TheVariants.{Suffix}
use Rattle.goal_rows.proofs.complete.has_last.Given as goal

abbrev pub invariant-loop-goal : goal.invariant-loop-goal
invariant-loop-goal l = Contains (take l.goal-index l.goals) (Suffix (l.y ∷ [])) → ⊥
