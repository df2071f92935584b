-- Where a search ends.
use Rattle.std.specs.Prelude.{◌≡◌, ◌⊎◌, ℕ, ◌+◌, ◌<◌, ◌≤◌, List, [], ◌∷◌, false, Contains, Option, Some, cond, length}
use Rattle.ballot_form.specs.Alterations.{IsAlteration, after}
use Rattle.bound_tree.specs.Nodes.{size}
use Rattle.bound_tree.specs.Plain.{Plain}
use Rattle.bound_tree.specs.declared.bound.TheConstants.{MOST_DEPTH}
use Rattle.goal_rows.specs.Elections.{Election}
use Rattle.goal_rows.specs.Goals.{Holds, IsComplete}
use Rattle.goal_rows.specs.declared.goals.Goal.{Goal}
use Rattle.goal_rows.specs.declared.goals.Goal.TheVariants.{Pair}
use Rattle.dual_bound.specs.CutTest.{IsBound}
use Rattle.node_bounds.specs.Ceilings.{node_cost}
use Rattle.search_theory.specs.Branchings.{IsLeastOf, IsSolid, IsWhole, Values}
use Rattle.search_theory.specs.Spots.{Hung, cover_list, has_cover, hung_of, path_of, root_spot}
use Rattle.search_theory.specs.Trees.{top_of}

-- what a search is given: the election, how many replacements are known to turn the outcome, if any, and how many nodes
-- its tree may have
pub record Problem : Type 0 where
  pub election : Election
  pub upper : Option ℕ
  pub budget : ℕ

-- the alteration makes a complete goal hold
abbrev pub MeetsSome : Election → List (ℕ × List ℕ) → Type 0
MeetsSome e changes =
    IsAlteration e.poll changes × ((goal : Goal) × IsComplete e goal × Holds e goal (after e.poll changes).ballots)

-- what is known to turn the outcome is so, and where some alteration makes a pair of the root hold, no fewer replacements
-- do that than are known
pub record IsKnown (p : Problem) : Type 0 where
  pub met : (u : ℕ) → p.upper ≡ Some u →
      (changes : List (ℕ × List ℕ)) × MeetsSome p.election changes × (length changes ≡ u)
  pub pairs : (g l : ℕ) (changes : List (ℕ × List ℕ)) → Contains p.election.roots (Pair g l) →
      IsAlteration p.election.poll changes → Holds p.election (Pair g l) (after p.election.poll changes).ballots →
      (u : ℕ) × (p.upper ≡ Some u) × (u ≤ length changes)

-- no cut has a bound below t
abbrev pub AllFrom : Election → ℕ → List Hung → Type 0
AllFrom e t [] = Unit {0}
AllFrom e t (cut ∷ cuts) =
    ((b : ℕ) × IsBound e cut.spot.node cut.multipliers b × (t ≤ b)) × AllFrom e t cuts

-- it is the first of the cuts with the least bound, which is t
abbrev pub IsFirstOf : Election → ℕ → List Hung → Hung → Type 0
IsFirstOf e t [] first = ⊥
IsFirstOf e t (cut ∷ cuts) first =
    (IsBound e cut.spot.node cut.multipliers t × (first ≡ cut) × AllFrom e t cuts)
    ⊎ ((b : ℕ) × IsBound e cut.spot.node cut.multipliers b × (t < b) × IsFirstOf e t cuts first)

-- the cuts of a tree below the root
abbrev pub cuts_in : Election → Plain → List Hung
cuts_in e tree = hung_of e tree root_spot

-- the first cut of the tree with the least bound, which is t
abbrev pub IsFirst : Election → Plain → ℕ → Hung → Type 0
IsFirst e tree t first = IsFirstOf e t (cuts_in e tree) first

-- how many nodes come where the cut grows: one for each goal of its cover, or else two
abbrev pub growth_of : Election → Hung → ℕ
growth_of e cut =
    cond (has_cover e cut.spot.node.goal) (length (cover_list e cut.spot.node.goal)) 2

-- how deep it stands: the root has the depth 1
abbrev pub depth_of : Hung → ℕ
depth_of cut = length (path_of cut.spot)

-- its goal is complete, and its node is solid with a whole least point
pub record IsAtPoint (e : Election) (cut : Hung) (q : Values) : Type 0 where
  pub complete : has_cover e cut.spot.node.goal ≡ false
  pub solid : IsSolid e cut.spot.node
  pub least : IsLeastOf e cut.spot.node q
  pub whole : IsWhole q

-- how a search ends
pub data Ending : Type 0 where
  Nothing : Ending
  Met : Ending
  AtPoint : Values → Ending
  Budget : Ending
  Depth : Ending

-- the least bound is within reach, and isn't known to be met; its first cut is at no point
pub record GoesOn (p : Problem) (tree : Plain) (low : ℕ) : Type 0 where
  pub within : low < top_of p.election
  pub unmet : p.upper ≡ Some low → ⊥
  pub first : Hung
  pub is_first : IsFirst p.election tree low first
  pub no_point : (q : Values) → IsAtPoint p.election first q → ⊥

-- its first cut is at a point, which costs as much
pub record EndsAtPoint (p : Problem) (tree : Plain) (low : ℕ) (q : Values) : Type 0 where
  pub within : low < top_of p.election
  pub unmet : p.upper ≡ Some low → ⊥
  pub first : Hung
  pub is_first : IsFirst p.election tree low first
  pub at_point : IsAtPoint p.election first q
  pub cost : node_cost p.election first.spot.node q.whole ≡ low

-- of a tree and its least bound at most one of these is so: nothing meets the root; as many replacements as are known
-- to turn the outcome; the first cut is at a point; it has no room to grow; it stands too deep
abbrev pub IsEnd : Problem → Plain → ℕ → Ending → Type 0
IsEnd p tree low Nothing = AllFrom p.election low (cuts_in p.election tree) × (low ≡ top_of p.election)
IsEnd p tree low Met =
    (low < top_of p.election) × (p.upper ≡ Some low) × (first : Hung) × IsFirst p.election tree low first
IsEnd p tree low (AtPoint q) = EndsAtPoint p tree low q
IsEnd p tree low Budget =
    (on : GoesOn p tree low) × (p.budget < size tree + growth_of p.election on.first)
IsEnd p tree low Depth =
    (on : GoesOn p tree low) × (size tree + growth_of p.election on.first ≤ p.budget)
    × (depth_of on.first ≡ MOST_DEPTH)
