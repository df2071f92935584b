-- What `solve` answers.
use Rattle.std.specs.Prelude.{ℕ, ◌≡◌, List, Some, None}
use Rattle.row_program.specs.Points.{IsPoint}
use Rattle.row_program.specs.Method.{leaving, entering, run_of, IsBest}
use Rattle.row_program.specs.declared.program.Program.{Program}
use Rattle.row_program.specs.declared.program.Point.{Point}
use Rattle.dual_theory.specs.Multipliers.{multipliers_of}
use Rattle.exact_num.specs.declared.ratio.Ratio.{Ratio}
use Rattle.lex_dual.specs.declared.solved.Solved.{Solved}
use Rattle.lex_dual.specs.declared.solved.Solved.TheVariants.{Best, Never}

-- what holds of the value, the multipliers and the point of `Best`
abbrev pub OnBest : (Ratio → List ℕ → Point → Type 0) → Solved → Type 0
OnBest P (Best value multipliers point) = P value multipliers point
OnBest P (Never multipliers) = Unit {0}

-- what holds of the multipliers of `Never`
abbrev pub OnNever : (List ℕ → Type 0) → Solved → Type 0
OnNever P (Best value multipliers point) = Unit {0}
OnNever P (Never multipliers) = P multipliers

abbrev pub multipliers_in : Solved → List ℕ
multipliers_in (Best value multipliers point) = multipliers
multipliers_in (Never multipliers) = multipliers

-- no whole numbers over any denominator meet the rows
abbrev pub HasNoPoint : Program → Type 0
HasNoPoint p = (whole : List ℕ) (den : ℕ) → IsPoint p whole den → ⊥

-- the multipliers that the cost's equation shows in the method's last form, where no basic variable is negative
abbrev pub IsReadAtBest : Program → List ℕ → Type 0
IsReadAtBest p multipliers = (k : ℕ) × IsBest (run_of p k) × (multipliers ≡ multipliers_of p (run_of p k) 0)

-- the multipliers that the equation of the first negative basic variable shows in the method's last form, where it has
-- no candidate
abbrev pub IsReadAtNever : Program → List ℕ → Type 0
IsReadAtNever p multipliers =
    (k : ℕ) × (row : ℕ) × (leaving (run_of p k) ≡ Some row) × (entering (run_of p k) row ≡ None)
    × (multipliers ≡ multipliers_of p (run_of p k) row)
