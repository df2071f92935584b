-- What a search rests on: facts on bounds and ceilings.
use Rattle.std.specs.Prelude.{◌≡◌, ℕ, ◌≤◌, true, List, [], ◌∷◌, Some, length}
use Rattle.bound_tree.specs.Plain.{Plain}
use Rattle.goal_rows.specs.Elections.{Election, Node}
use Rattle.goal_rows.specs.Goals.{IsReached}
use Rattle.goal_rows.specs.Nodes.{AreLimits, number_count, without_limits}
use Rattle.goal_rows.specs.declared.goals.Goal.TheVariants.{Root}
use Rattle.dual_bound.specs.CutTest.{Cuts, IsBound}
use Rattle.tree_proofs.specs.Proving.{Proves}
use Rattle.node_bounds.specs.Ceilings.{IsCeiling, node_cost}
use Rattle.search_theory.specs.Branchings.{IsLeastOf, IsWhole, Values}
use Rattle.search_theory.specs.Ends.{Problem}
use Rattle.search_theory.specs.Leaves.{Growth, MayGrow, kid_nodes}
use Rattle.search_theory.specs.Spots.{has_cover}

-- some multipliers, one for each row and each limit, have this bound
abbrev pub IsCutBySome : Election → ℕ → Node → Type 0
IsCutBySome e b node = (ms : List ℕ) × (length ms ≡ number_count e node) × IsBound e node ms b

-- each of the items is so
abbrev pub EachOf : {A : Type 0} → (A → Type 0) → List A → Type 0
EachOf P [] = Unit {0}
EachOf P (x ∷ xs) = P x × EachOf P xs

-- a bound is a bound for each lower number, and one number of at most `top_of`; no bound is above the ceiling; what a
-- node is split into has multipliers of its bound; a ceiling and a least point are one; a whole least point costs the
-- ceiling; and what a tree proves is at most what is known to turn the outcome
pub record AreLaws (p : Problem) : Type 0 where
  pub cuts : (node : Node) (ms : List ℕ) (b t : ℕ) → IsBound p.election node ms b → t ≤ b → Cuts p.election node ms t
  pub unique : (node : Node) (ms : List ℕ) (b c : ℕ) → IsBound p.election node ms b → IsBound p.election node ms c → b ≡ c
  pub below : (node : Node) (b v : ℕ) → IsReached p.election node.goal → AreLimits p.election node →
      IsCutBySome p.election b node → IsCeiling p.election node v → b ≤ v
  pub inherits : (node : Node) (ms : List ℕ) (b : ℕ) (way : Growth) → IsReached p.election node.goal →
      MayGrow p.election way node → (has_cover p.election node.goal ≡ true → node.limits ≡ []) →
      length ms ≡ number_count p.election node → IsBound p.election node ms b →
      EachOf (IsCutBySome p.election b) (kid_nodes p.election way node)
  pub one_ceiling : (node : Node) (v w : ℕ) → IsCeiling p.election node v → IsCeiling p.election node w → v ≡ w
  pub one_least : (node : Node) (q r : Values) → IsLeastOf p.election node q → IsLeastOf p.election node r → q ≡ r
  pub whole : (node : Node) (q : Values) → IsLeastOf p.election node q → IsWhole q →
      IsCeiling p.election node (node_cost p.election node q.whole)
  pub sound : (tree : Plain) (t u : ℕ) → Proves p.election t (without_limits Root) tree → p.upper ≡ Some u → t ≤ u
