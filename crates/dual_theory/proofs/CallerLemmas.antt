-- For callers that run the method: what its last form says, for numbers of any size.
use Rattle.std.specs.Prelude.{ℕ, List}
use Rattle.row_program.specs.Forms.{entry, right_side}
use Rattle.row_program.specs.Points.{IsPoint, IsLeastCost, IsLeastPoint}
use Rattle.row_program.specs.Method.{run_of, IsBest, IsNever}
use Rattle.row_program.specs.declared.program.Program.{Program}
use Rattle.dual_theory.specs.Ends.{point_whole, point_den}
use Rattle.dual_theory.specs.Multipliers.{BoundsCost, RulesOut, multipliers_of}
use Rattle.dual_theory.proofs.Runs.{run_kept}
use Rattle.dual_theory.proofs.Best.{best_cost, best_point}
use Rattle.dual_theory.proofs.Shown.{best_shown, never_point, never_shown}

-- where no basic variable is negative, the first equation tells the least cost
pub IsLeastCost_at_best : (p : Program) (k : ℕ) → IsBest (run_of p k) → IsLeastCost p (right_side (run_of p k) 0) (entry (run_of p k) 0 0)
IsLeastCost_at_best p k best = best_cost p (run_of p k) (run_kept p k) best

-- and the values of the form are the least point
pub IsLeastPoint_at_best : (p : Program) (k : ℕ) → IsBest (run_of p k) → IsLeastPoint p (point_whole p (run_of p k)) (point_den p (run_of p k))
IsLeastPoint_at_best p k best = best_point p (run_of p k) (run_kept p k) best

-- and the multipliers from the first equation bound the cost of all points that meet the other rows
pub BoundsCost_at_best : (p : Program) (k : ℕ) → IsBest (run_of p k) → BoundsCost p (multipliers_of p (run_of p k) 0) (right_side (run_of p k) 0) (entry (run_of p k) 0 0)
BoundsCost_at_best p k best = best_shown p (run_of p k) (run_kept p k) best

-- where a variable leaves and none can enter, no point meets the rows
pub no_point_at_never : (p : Program) (k : ℕ) → IsNever (run_of p k) → (whole : List ℕ) (den : ℕ) → IsPoint p whole den → ⊥
no_point_at_never p k never = never_point p (run_of p k) never.0 (run_kept p k) never.1 never.2

-- and the multipliers from the negative equation rule out all points that meet the other rows
pub RulesOut_at_never : (p : Program) (k : ℕ) (never : IsNever (run_of p k)) → RulesOut p (multipliers_of p (run_of p k) never.0)
RulesOut_at_never p k never = never_shown p (run_of p k) never.0 (run_kept p k) never.1 never.2
