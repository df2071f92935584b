-- Nodes without limits, and the multipliers that they inherit.
use Rattle.std.proofs.Common.{◌≡◌, ℕ, ◌+◌, ◌-◌, ◌≤◌, ◌++◌, ◌∙◌, List, [], length, length-append, replicate, refl, sym, ap, subst, arith}
use Rattle.goal_rows.specs.Cells.{high_end, low_end}
use Rattle.goal_rows.specs.Elections.{Election, Node}
use Rattle.goal_rows.specs.Goals.{IsKid, rows_of}
use Rattle.goal_rows.specs.Nodes.{number_count, without_limits}
use Rattle.goal_rows.specs.declared.goals.Goal.{Goal}
use Rattle.dual_bound.specs.CutTest.{IsBound}
use Rattle.node_bounds.proofs.Inheritance.{behind}
use Rattle.search_theory.specs.Leaves.{HasRanges}
use Rattle.search_theory.proofs.Inherited.{kid_bound}

-- without limits each variable has a value
pub bare_ranges : (e : Election) (goal : Goal) → HasRanges e (without_limits goal)
bare_ranges e goal = record {
  small = λ k d lt. absurd (omega (arith, lt));
  features = λ k d lt. absurd (omega (arith, lt));
  on_variables = λ k d lt. absurd (omega (arith, lt));
  some = λ k d lt. omega arith;
}

-- a kid has no fewer rows
pub more_rows : (e : Election) (goal kid : Goal) (place : ℕ) → IsKid e goal place kid → length (rows_of e goal) ≤ length (rows_of e kid)
more_rows e goal kid place is =
    let more = behind e goal place kid is in
    let rows = ap length more.rows ∙ length-append more.new (rows_of e goal) in
    omega (arith, rows)

-- so many zeros as it has more, and then the multipliers of the goal that is split
pub record Inherits (e : Election) (kid : Goal) (made : List ℕ) (b : ℕ) : Type 0 where
  pub count : length made ≡ number_count e (without_limits kid)
  pub bound : IsBound e (without_limits kid) made b

pub zeros_inherit : (e : Election) (goal kid : Goal) (place : ℕ) (ms made : List ℕ) (b new : ℕ) → IsKid e goal place kid → length ms ≡ number_count e (without_limits goal) →
    IsBound e (without_limits goal) ms b → new ≡ length (rows_of e kid) - length (rows_of e goal) → made ≡ replicate new 0 ++ ms → Inherits e kid made b
zeros_inherit e goal kid place ms made b new is count bound many made_is =
    let inherited = kid_bound e goal place kid ms b is count bound in
    let same = made_is ∙ ap (λ n. replicate n 0 ++ ms) many in
    record {
      count = ap length same ∙ inherited.0;
      bound = subst (λ made. IsBound e (without_limits kid) made b) (sym same) inherited.1;
    }
