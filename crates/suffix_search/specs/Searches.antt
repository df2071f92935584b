-- A search in the course of its turns, and what one turn does.
use Rattle.std.proofs.Common.{zero, suc}
use Rattle.std.specs.Prelude.{◌≡◌, ℕ, ◌+◌, ◌-◌, ◌*◌, ◌<◌, ◌≤◌, List, [], ◌∷◌, All, Some, false, true, cond, get_or, length, map}
use Rattle.bound_tree.specs.Growth.{replaced}
use Rattle.bound_tree.specs.Nodes.{size}
use Rattle.bound_tree.specs.Plain.{Plain}
use Rattle.bound_tree.specs.Places.{IsAtDepth, IsCut}
use Rattle.bound_tree.specs.declared.bound.TheConstants.{MOST_DEPTH, MOST_NODES}
use Rattle.goal_rows.specs.Elections.{Election, Node}
use Rattle.goal_rows.specs.Races.{IsGroundIn}
use Rattle.goal_rows.specs.Goals.{IsComplete}
use Rattle.witness_build.specs.FromPoints.{IsPointWithout, changes_at, replaced_at}
use Rattle.witness_build.specs.Witnesses.{IsMetBy}
use Rattle.witness_build.specs.declared.pairs.Witness.{Witness}
use Rattle.search_theory.specs.Branchings.{IsWhole, Values, is_pair}
use Rattle.search_theory.specs.Ends.{Budget, Depth, EndsAtPoint, GoesOn, IsEnd, IsKnown, Met, Nothing, Problem}
use Rattle.search_theory.specs.Leaves.{AreMade, ByBranch, ByCover, Growth, IsFirstLeaf, IsHeld, IsUnderWay, Leaf, growth_tree, kid_nodes, lowest}
use Rattle.search_theory.specs.Spots.{cover_list, has_cover}
use Rattle.search_leaves.specs.Branched.{IsBranchedAt, MayBranch}
use Rattle.search_leaves.specs.Kept.{CanHalve, IsGrowing, leaf_of, node_at, values_of}
use Rattle.search_leaves.specs.NewLeaves.{IsLeafOf}
use Rattle.search_leaves.specs.declared.leaves.Leaf.{Leaf as KeptLeaf}
use Rattle.search_leaves.specs.declared.seeds.Seed.{Seed}
use Rattle.suffix_search.specs.declared.turns.Stop.{Stop}
use Rattle.suffix_search.specs.declared.turns.Stop.TheVariants as stops
use Rattle.suffix_search.specs.declared.turns.Turn.{Turn}
use Rattle.suffix_search.specs.declared.turns.Turn.TheVariants as turns

-- ---- a search

-- the leaves that the program keeps
abbrev pub leaves_of : List KeptLeaf → List Leaf
leaves_of kept = map leaf_of kept

-- what is known at each turn of the tree and its leaves
pub record IsRunning (p : Problem) (tree : Plain) (kept : List KeptLeaf) : Type 0 where
  pub under_way : IsUnderWay p tree (leaves_of kept)
  pub grounds : All (λ leaf. IsGroundIn p.election leaf.start) kept
  pub within : size tree ≤ p.budget

-- ---- a turn

-- the bound of the leaf at a place; 0 where there is none
abbrev pub bound_in : List KeptLeaf → ℕ → ℕ
bound_in [] k = 0
bound_in (leaf ∷ kept) zero = leaf.bound
bound_in (leaf ∷ kept) (suc k) = bound_in kept k

-- how many nodes come where a leaf with this goal grows
abbrev pub growth_at : Election → Node → ℕ
growth_at e node = cond (has_cover e node.goal) (length (cover_list e node.goal)) 2

-- the leaf at this place is at a whole point, and the search ends there
pub record IsAtPlace (p : Problem) (tree : Plain) (kept : List KeptLeaf) (low place : ℕ) : Type 0 where
  pub leaf : KeptLeaf
  pub within : place < length kept
  pub stands : leaf ≡ get_or kept place leaf
  pub q : Values
  pub point : values_of leaf.point ≡ Some q
  pub at : EndsAtPoint p tree low q
  pub node : at.first.spot.node ≡ node_at leaf

-- the leaf at this place is the one that grows: it is the first with the least bound, which is within reach and not
-- known to be met; it is at no whole point, is no pair, doesn't stand too deep, and there is room for what comes
pub record Grows (p : Problem) (tree : Plain) (kept : List KeptLeaf) (place : ℕ) : Type 0 where
  pub leaf : KeptLeaf
  pub within : place < length kept
  pub stands : leaf ≡ get_or kept place leaf
  pub first : IsFirstLeaf p.election place (leaves_of kept) (leaf_of leaf)
  pub on : GoesOn p tree leaf.bound
  pub held : IsHeld p on.first (leaf_of leaf)
  pub no_pair : is_pair leaf.start.goal ≡ true → ⊥
  pub part : (q : Values) → values_of leaf.point ≡ Some q → IsWhole q → ⊥
  pub shallow : leaf.depth < MOST_DEPTH
  pub room : size tree + growth_at p.election (node_at leaf) ≤ p.budget

-- the search stops so
abbrev pub StopsSo : Problem → Plain → List KeptLeaf → ℕ → Stop → Type 0
StopsSo p tree kept low stops.Nothing = IsEnd p tree low Nothing
StopsSo p tree kept low stops.Met = IsEnd p tree low Met
StopsSo p tree kept low (stops.AtPoint place) = IsAtPlace p tree kept low place
StopsSo p tree kept low stops.Budget = IsEnd p tree low Budget
StopsSo p tree kept low stops.Depth = IsEnd p tree low Depth

-- what a turn does: it stops at the least bound, or a leaf grows
abbrev pub IsTurn : Problem → Plain → List KeptLeaf → Turn → Type 0
IsTurn p tree kept (turns.Stop low stop) = (low ≡ lowest p.election (leaves_of kept)) × StopsSo p tree kept low stop
IsTurn p tree kept (turns.Grow place) = Grows p tree kept place

-- ---- growth

-- the leaves of the seeds, one each
abbrev pub AreLeavesOf : Election → List Seed → List KeptLeaf → Type 0
AreLeavesOf e [] [] = Unit {0}
AreLeavesOf e [] (leaf ∷ kept) = ⊥
AreLeavesOf e (seed ∷ seeds) [] = ⊥
AreLeavesOf e (seed ∷ seeds) (leaf ∷ kept) = IsLeafOf e seed leaf × AreLeavesOf e seeds kept

-- a leaf grows by its cover, or by a branch at its point or in the middle
abbrev pub GrowsBy : Election → KeptLeaf → Growth → Type 0
GrowsBy e leaf ByCover = has_cover e leaf.start.goal ≡ true
GrowsBy e leaf (ByBranch b) =
    (has_cover e leaf.start.goal ≡ false) × IsBranchedAt e leaf b × CanHalve e (node_at leaf) b

-- the kids of a leaf, and the tree with them in the place of the leaf's node
pub record AreKids (e : Election) (leaf : KeptLeaf) (number : ℕ) (before after : Plain) (kids : List KeptLeaf) : Type 0 where
  pub way : Growth
  pub by : GrowsBy e leaf way
  pub tree : after ≡ replaced number (growth_tree way (leaves_of kids)) before
  pub grounds : All (λ kid. IsGroundIn e kid.start) kids
  pub made : (p : Problem) → p.election ≡ e → IsKnown p →
      AreMade p (leaf_of leaf) (kid_nodes e way (node_at leaf)) (leaves_of kids)

-- the leaf may grow at its node of the tree
pub record MayGrowAt (e : Election) (leaf : KeptLeaf) (number : ℕ) (tree : Plain) : Type 0 where
  pub growing : IsGrowing e leaf
  pub plain : has_cover e leaf.start.goal ≡ true → leaf.limits.items ≡ []
  pub branch : has_cover e leaf.start.goal ≡ false → MayBranch e leaf
  pub cut : IsCut tree number
  pub shallow : IsAtDepth tree number MOST_DEPTH → ⊥
  pub room : size tree + growth_at e (node_at leaf) ≤ MOST_NODES

-- how far a search is from its end: each turn comes nearer
abbrev pub distance : ℕ → Plain → List KeptLeaf → ℕ
distance budget tree kept = 2 * (budget - size tree) + length kept

-- ---- the end at a point

-- the leaf's goal is complete, and it has a whole point
pub record IsPointLeaf (e : Election) (leaf : KeptLeaf) : Type 0 where
  pub ground : IsGroundIn e leaf.start
  pub complete : IsComplete e leaf.start.goal
  pub q : Values
  pub point : values_of leaf.point ≡ Some q
  pub whole : IsWhole q
  pub meets : IsPointWithout leaf.start q.whole

-- the replacements are made from the leaf's point
pub record IsWitnessOf (e : Election) (leaf : KeptLeaf) (witness : Witness) : Type 0 where
  pub goal : witness.goal ≡ leaf.start.goal
  pub met : IsMetBy e witness.goal witness.changes
  pub changes : (q : Values) → values_of leaf.point ≡ Some q → witness.changes ≡ changes_at e leaf.start q.whole
  pub count : (q : Values) → values_of leaf.point ≡ Some q →
      length witness.changes ≡ replaced_at leaf.start q.whole
