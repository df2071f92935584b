-- What is asked of the tree of a search beside what it proves: that it is tight and needed.
use Rattle.std.specs.Prelude.{◌≡◌, ◌⊎◌, ℕ, ◌+◌, ◌<◌, ◌≤◌, List, [], ◌∷◌, true, false, length}
use Rattle.bound_tree.specs.Plain.{Plain}
use Rattle.goal_rows.specs.Elections.{Election, Node}
use Rattle.goal_rows.specs.Nodes.{IsFeatureOf}
use Rattle.dual_bound.specs.CutTest.{IsBound}
use Rattle.node_bounds.specs.Ceilings.{IsCeiling}
use Rattle.search_theory.specs.Branchings.{Branching, IsBranching, IsSolid}
use Rattle.search_theory.specs.Spots.{Everywhere, Spot, Words, has_cover, path_of, root_spot}

-- one more than there are ballots: what a node is cut to where nothing meets it
abbrev pub top_of : Election → ℕ
top_of e = length e.poll.ballots + 1

-- the last solid node of a path, whose nearest node stands first
abbrev pub IsAnchor : Election → List Node → Node → Type 0
IsAnchor e [] anchor = ⊥
IsAnchor e (node ∷ above) anchor =
    (IsSolid e node × (anchor ≡ node)) ⊎ ((IsSolid e node → ⊥) × IsAnchor e above anchor)

-- the spot has an anchor, whose ceiling is as is asked
abbrev pub HasAnchor : Election → Spot → (ℕ → Type 0) → Type 0
HasAnchor e spot P = (anchor : Node) × IsAnchor e (path_of spot) anchor × (v : ℕ) × IsCeiling e anchor v × P v

-- a split stands at a goal with a cover, without limits
abbrev pub IsSplitHere : Election → Spot → Type 0
IsSplitHere e spot = (has_cover e spot.node.goal ≡ true) × (spot.node.limits ≡ [])

-- a cut's bound is at least the ceiling of its anchor
abbrev pub IsTightCut : Election → List ℕ → Spot → Type 0
IsTightCut e multipliers spot =
    (b : ℕ) × IsBound e spot.node multipliers b × HasAnchor e spot (λ v. v ≤ b)

abbrev pub tight_words : Election → Words
tight_words e = record {
  split = λ spot. Unit {0};
  branch = λ feature value spot. Unit {0};
  cut = IsTightCut e;
}

-- each cut of the tree is tight
abbrev pub IsTight : Election → Plain → Type 0
IsTight e tree = Everywhere e (tight_words e) tree root_spot

-- a ceiling of at most t, and of some point
abbrev pub IsInReach : Election → ℕ → ℕ → Type 0
IsInReach e t v = (v ≤ t) × (v < top_of e)

abbrev pub IsSplitNeeded : Election → ℕ → Spot → Type 0
IsSplitNeeded e t spot = IsSplitHere e spot × HasAnchor e spot (IsInReach e t)

abbrev pub IsBranchNeeded : Election → ℕ → Spot → Branching → Type 0
IsBranchNeeded e t spot b =
    (has_cover e spot.node.goal ≡ false) × IsFeatureOf e spot.node.goal b.feature × IsBranching e spot.node b
    × HasAnchor e spot (IsInReach e t)

abbrev pub needed_words : Election → ℕ → Words
needed_words e t = record {
  split = IsSplitNeeded e t;
  branch = λ feature value spot. IsBranchNeeded e t spot (record { feature = feature; value = value });
  cut = λ multipliers spot. Unit {0};
}

-- nothing of the tree grew for nothing: each split and each branch has an anchor with a ceiling of at most t, and stands
-- where it should
abbrev pub IsNeeded : Election → ℕ → Plain → Type 0
IsNeeded e t tree = Everywhere e (needed_words e t) tree root_spot
