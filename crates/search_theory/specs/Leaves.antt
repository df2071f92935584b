-- The leaves of a search as it keeps them, and what is known of them and of the tree at each turn.
use Rattle.std.specs.Prelude.{◌≡◌, ◌⊎◌, ℕ, zero, suc, ◌<◌, ◌≤◌, min, true, false, List, [], ◌∷◌, map, All, Contains, Option, Some, None, length}
use Rattle.ballot_form.specs.declared.limits.TheConstants.{MOST_BALLOTS}
use Rattle.bound_tree.specs.Growth.{cuts_of}
use Rattle.bound_tree.specs.Plain.{Plain, Split, Branch, Cut}
use Rattle.bound_tree.specs.declared.bound.TheConstants.{MOST_DEPTH}
use Rattle.goal_rows.specs.Cells.{high_end, low_end}
use Rattle.goal_rows.specs.Elections.{Election, Node}
use Rattle.goal_rows.specs.Goals.{IsReached}
use Rattle.goal_rows.specs.Nodes.{IsFeatureOf, high_half, low_half, number_count, without_limits}
use Rattle.dual_bound.specs.CutTest.{IsBound}
use Rattle.node_bounds.specs.Ceilings.{IsCeiling}
use Rattle.search_theory.specs.Branchings.{Branching, IsBranching, IsLeastOf, IsSolid, Values, is_pair, variables_at}
use Rattle.search_theory.specs.Ends.{Problem, cuts_in}
use Rattle.search_theory.specs.Spots.{Hung, cover_list, has_cover, path_of}
use Rattle.search_theory.specs.Trees.{HasAnchor, IsNeeded, top_of}

-- ---- leaves

-- a leaf: its node, its multipliers and their bound, its least point if it has one, and its depth
pub record Leaf : Type 0 where
  pub node : Node
  pub multipliers : List ℕ
  pub bound : ℕ
  pub point : Option Values
  pub depth : ℕ

-- the point is the least one of a solid node with a complete goal that is no pair; there is none where the goal isn't
-- complete or is a pair, where the node isn't solid, and where it has no point
abbrev pub IsKept : Election → Node → Option Values → Type 0
IsKept e node (Some q) =
    (has_cover e node.goal ≡ false) × (is_pair node.goal ≡ false) × IsSolid e node × IsLeastOf e node q
IsKept e node None =
    (has_cover e node.goal ≡ true)
    ⊎ ((is_pair node.goal ≡ true) ⊎ ((IsSolid e node → ⊥) ⊎ IsCeiling e node (top_of e)))

-- each limit is on a feature of the goal that is a variable of the program, of a small value, and leaves each variable
-- a value
pub record HasRanges (e : Election) (node : Node) : Type 0 where
  pub small : All (λ limit. limit.value ≤ MOST_BALLOTS) node.limits
  pub features : All (λ limit. IsFeatureOf e node.goal limit.feature) node.limits
  pub on_variables : All (λ limit. Contains (map (λ v. v.feature) (variables_at e node)) limit.feature) node.limits
  pub some : All (λ v. low_end node.limits v.feature ≤ high_end node.limits v) (variables_at e node)

-- what a leaf knows of itself
pub record IsLeaf (p : Problem) (leaf : Leaf) : Type 0 where
  pub reached : IsReached p.election leaf.node.goal
  pub count : length leaf.multipliers ≡ number_count p.election leaf.node
  pub bound : IsBound p.election leaf.node leaf.multipliers leaf.bound
  pub ranges : HasRanges p.election leaf.node
  pub point : IsKept p.election leaf.node leaf.point
  pub pair : is_pair leaf.node.goal ≡ true → leaf.bound < top_of p.election →
      (u : ℕ) × (p.upper ≡ Some u) × (u ≤ leaf.bound)

-- a solid node is cut to its ceiling, and another one to b, the bound of its parent
abbrev pub IsCutTo : Election → ℕ → Leaf → Type 0
IsCutTo e b leaf =
    (IsSolid e leaf.node × (v : ℕ) × IsCeiling e leaf.node v × (v ≤ leaf.bound))
    ⊎ ((IsSolid e leaf.node → ⊥) × (leaf.bound ≡ b))

-- a new leaf, for a node below another leaf
pub record IsMade (p : Problem) (parent : Leaf) (node : Node) (leaf : Leaf) : Type 0 where
  pub is : leaf.node ≡ node
  pub own : IsLeaf p leaf
  pub tight : IsCutTo p.election parent.bound leaf
  pub depth : leaf.depth ≡ suc parent.depth

abbrev pub AreMade : Problem → Leaf → List Node → List Leaf → Type 0
AreMade p parent [] [] = Unit {0}
AreMade p parent [] (leaf ∷ leaves) = ⊥
AreMade p parent (node ∷ nodes) [] = ⊥
AreMade p parent (node ∷ nodes) (leaf ∷ leaves) = IsMade p parent node leaf × AreMade p parent nodes leaves

-- ---- leaves in a tree

-- the leaf of a cut
pub record IsHeld (p : Problem) (cut : Hung) (leaf : Leaf) : Type 0 where
  pub node : cut.spot.node ≡ leaf.node
  pub multipliers : cut.multipliers ≡ leaf.multipliers
  pub own : IsLeaf p leaf
  pub tight : HasAnchor p.election cut.spot (λ v. v ≤ leaf.bound)
  pub plain : has_cover p.election leaf.node.goal ≡ true → leaf.node.limits ≡ []
  pub depth : leaf.depth ≡ length (path_of cut.spot)
  pub shallow : leaf.depth ≤ MOST_DEPTH
  pub few : length leaf.node.limits < leaf.depth

abbrev pub AreHeld : Problem → List Hung → List Leaf → Type 0
AreHeld p [] [] = Unit {0}
AreHeld p [] (leaf ∷ leaves) = ⊥
AreHeld p (cut ∷ cuts) [] = ⊥
AreHeld p (cut ∷ cuts) (leaf ∷ leaves) = IsHeld p cut leaf × AreHeld p cuts leaves

-- the least bound
abbrev pub lowest : Election → List Leaf → ℕ
lowest e [] = top_of e
lowest e (leaf ∷ leaves) = min leaf.bound (lowest e leaves)

-- the tree and its leaves in preorder, in the course of a search
pub record IsUnderWay (p : Problem) (tree : Plain) (leaves : List Leaf) : Type 0 where
  pub inner : IsNeeded p.election (lowest p.election leaves) tree
  pub cuts : AreHeld p (cuts_in p.election tree) leaves

-- it is leaf number i, and the first one with the least bound
abbrev pub IsFirstLeaf : Election → ℕ → List Leaf → Leaf → Type 0
IsFirstLeaf e i [] first = ⊥
IsFirstLeaf e zero (leaf ∷ leaves) first = (first ≡ leaf) × (first.bound ≤ lowest e leaves)
IsFirstLeaf e (suc i) (leaf ∷ leaves) first = (first.bound < leaf.bound) × IsFirstLeaf e i leaves first

-- ---- growth

-- how a leaf grows: by the cover of its goal, or by a branch
pub data Growth : Type 0 where
  ByCover : Growth
  ByBranch : Branching → Growth

-- the leaf may grow so
abbrev pub MayGrow : Election → Growth → Node → Type 0
MayGrow e ByCover node = has_cover e node.goal ≡ true
MayGrow e (ByBranch b) node =
    (has_cover e node.goal ≡ false) × IsFeatureOf e node.goal b.feature × IsBranching e node b

-- the nodes that come
abbrev pub kid_nodes : Election → Growth → Node → List Node
kid_nodes e ByCover node = map without_limits (cover_list e node.goal)
kid_nodes e (ByBranch b) node = low_half node b.feature b.value ∷ high_half node b.feature b.value ∷ []

-- the tree that comes in the place of the cut
abbrev pub growth_tree : Growth → List Leaf → Plain
growth_tree ByCover kids = Split (cuts_of (map (λ kid. kid.multipliers) kids))
growth_tree (ByBranch b) [] = Cut []
growth_tree (ByBranch b) (low ∷ []) = Cut []
growth_tree (ByBranch b) (low ∷ high ∷ more) =
    Branch b.feature b.value (Cut low.multipliers) (Cut high.multipliers)
