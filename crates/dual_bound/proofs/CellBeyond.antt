-- The multipliers of a cell whose values break a row cut it at each number.
use Rattle.std.proofs.Common.{◌≡◌, ℕ, ◌+◌, List, length, refl, inl, inr, arith}
use Rattle.row_program.specs.declared.Limit.{Limit}
use Rattle.goal_rows.specs.Cells.{HasFeatures, IsCell, cell_values}
use Rattle.goal_rows.specs.Elections.{Election}
use Rattle.goal_rows.specs.Nodes.{AreLimits, node_of}
use Rattle.goal_rows.specs.Programs.{IsPointOf, flow_rows_of}
use Rattle.goal_rows.specs.Races.{IsGroundIn}
use Rattle.goal_rows.specs.declared.goals.Goal.{Goal}
use Rattle.goal_rows.specs.declared.goals.Goal.TheVariants.{Root, Suffix, Pair, Cover}
use Rattle.goal_rows.specs.declared.parts.Ground.{Ground}
use Rattle.dual_bound.specs.CellCuts.{cell_multipliers}
use Rattle.dual_bound.specs.CutTest.{AreMultipliers, IsBound}
use Rattle.dual_bound.proofs.CellCovers.{cover_cut, with_goal}
use Rattle.dual_bound.proofs.CellFlows.{flow_cut}
use Rattle.dual_bound.proofs.CellHolds.{broken_where, some_broken}
use Rattle.dual_bound.proofs.CellSuffixes.{suffix_cut}

no_flow : (x : ℕ) (start : Ground) → length (flow_rows_of (with_goal start (Cover x))) ≡ 0
no_flow x start = refl

by_goal : (e : Election) (start : Ground) (goal : Goal) (limits : List Limit) → IsGroundIn e (with_goal start goal) → AreLimits e (node_of (with_goal start goal) limits)
    → IsCell (with_goal start goal) limits → AreMultipliers (with_goal start goal) limits (cell_multipliers (with_goal start goal) limits) → HasFeatures goal
    → (IsPointOf (with_goal start goal) limits (cell_values (with_goal start goal) limits) 1 → ⊥)
    → IsBound e (node_of (with_goal start goal) limits) (cell_multipliers (with_goal start goal) limits) (start.ballots + 1)
by_goal e start Root limits is few cell are has never = absurd has
by_goal e start (Suffix suffix) limits is few cell are has never =
    let some = some_broken (with_goal start (Suffix suffix)) limits never in
    elim (broken_where e (with_goal start (Suffix suffix)) limits some.0 is cell some.1) [
      | inl low ↦ suffix_cut e start suffix limits some.0 is few cell are some.1 low
      | inr flow ↦ flow_cut e start suffix limits some.0 flow.0 is few cell are some.1 flow.1 flow.2 flow.3
    ]
by_goal e start (Pair g l) limits is few cell are has never = absurd has
by_goal e start (Cover x) limits is few cell are has never =
    let some = some_broken (with_goal start (Cover x)) limits never in
    elim (broken_where e (with_goal start (Cover x)) limits some.0 is cell some.1) [
      | inl low ↦ cover_cut e start x limits some.0 is few cell are some.1 low
      | inr flow ↦ absurd (let none = no_flow x start in omega (arith, flow.1, none))
    ]

-- where the values of a cell break a row, one more than there are ballots is the bound
pub cell_beyond : (e : Election) (start : Ground) (limits : List Limit) → IsGroundIn e start → AreLimits e (node_of start limits) → IsCell start limits
    → AreMultipliers start limits (cell_multipliers start limits) → (IsPointOf start limits (cell_values start limits) 1 → ⊥)
    → IsBound e (node_of start limits) (cell_multipliers start limits) (start.ballots + 1)
cell_beyond e start limits is few cell are never = by_goal e start start.goal limits is few cell are cell.featured never
