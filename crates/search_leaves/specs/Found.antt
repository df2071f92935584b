-- What a search finds: its tree, the number that this proves, and why the search ended.
use Rattle.std.specs.Prelude.{◌≡◌, ℕ, ◌≤◌, Option, length}
use Rattle.bound_tree.specs.Nodes.{size}
use Rattle.bound_tree.specs.Plain.{Plain}
use Rattle.goal_rows.specs.Elections.{Election}
use Rattle.goal_rows.specs.Nodes.{without_limits}
use Rattle.goal_rows.specs.Races.{election_of}
use Rattle.goal_rows.specs.declared.goals.Goal.TheVariants.{Root}
use Rattle.goal_rows.specs.declared.parts.Race.{Race}
use Rattle.tree_proofs.specs.Proving.{Proves}
use Rattle.node_bounds.specs.Ceilings.{ground_at}
use Rattle.witness_build.specs.FromPoints.{changes_at}
use Rattle.witness_build.specs.Witnesses.{IsMetBy}
use Rattle.witness_build.specs.declared.ends.End.{End}
use Rattle.witness_build.specs.declared.ends.End.TheVariants as ends
use Rattle.witness_build.specs.declared.ends.Found.{Found}
use Rattle.witness_build.specs.declared.pairs.Witness.{Witness}
use Rattle.search_theory.specs.Branchings.{Values}
use Rattle.search_theory.specs.Ends.{AtPoint, Budget, Depth, EndsAtPoint, IsEnd, Met, Nothing, Problem}
use Rattle.search_theory.specs.Trees.{IsNeeded, IsTight}

-- the search of a race, where so many replacements are known to turn the outcome, if any, and the tree may have so many
-- nodes
abbrev pub problem_of : Race → Option ℕ → ℕ → Problem
problem_of race upper budget = record { election = election_of race; upper = upper; budget = budget }

-- the replacements are made from the whole point of the first cut with the least bound: they are as many as the tree
-- proves, and make its goal hold
pub record IsFromPoint (p : Problem) (tree : Plain) (low : ℕ) (witness : Witness) : Type 0 where
  pub q : Values
  pub at : EndsAtPoint p tree low q
  pub goal : witness.goal ≡ at.first.spot.node.goal
  pub changes : witness.changes ≡ changes_at p.election (ground_at p.election witness.goal) q.whole
  pub count : length witness.changes ≡ low
  pub met : IsMetBy p.election witness.goal witness.changes

-- the search ended as it says
abbrev pub EndsSo : Problem → Plain → ℕ → End → Type 0
EndsSo p tree low ends.Nothing = IsEnd p tree low Nothing
EndsSo p tree low ends.Met = IsEnd p tree low Met
EndsSo p tree low (ends.AtPoint witness) = IsFromPoint p tree low witness
EndsSo p tree low ends.Budget = IsEnd p tree low Budget
EndsSo p tree low ends.Depth = IsEnd p tree low Depth

-- the tree proves the number, is tight and needed at it, and is within the budget; and the search ended as it says
pub record IsFound (p : Problem) (found : Found) : Type 0 where
  pub proof : Proves p.election found.low (without_limits Root) found.tree
  pub tight : IsTight p.election found.tree
  pub needed : IsNeeded p.election found.low found.tree
  pub within : size found.tree ≤ p.budget
  pub end : EndsSo p found.tree found.low found.end
