use Rattle.std.proofs.Common.{◌≡◌, ◌<◌, ℕ, Some}
use Rattle.std.specs.Prelude.{slice_get}
use Rattle.goal_rows.specs.Cells.{Variable, variables_of}
use Rattle.search_leaves.specs.Branched.{IsWide}
use Rattle.search_leaves.proofs.branchings.middle_of.Given as goal

abbrev pub invariant-loop-k : goal.invariant-loop-k
invariant-loop-k l = (j : ℕ) (v : Variable) → j < l.k → slice_get (variables_of l.fn.start) j ≡ Some v → IsWide l.fn.limits v → ⊥
