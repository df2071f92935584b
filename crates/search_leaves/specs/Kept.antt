-- The leaves of a search as the program keeps them, and the nodes that are to become leaves.
use Rattle.std.specs.Prelude.{◌≡◌, ℕ, ◌+◌, ◌<◌, ◌≤◌, List, All, Contains, Option, Some, None, length, map}
use Rattle.ballot_form.specs.declared.limits.TheConstants.{MOST_BALLOTS}
use Rattle.bound_tree.specs.declared.bound.TheConstants.{MOST_DEPTH}
use Rattle.row_program.specs.declared.limits.TheConstants.{MOST_LIMITS}
use Rattle.row_program.specs.declared.Limit.{Limit}
use Rattle.row_program.specs.declared.program.Point.{Point}
use Rattle.goal_rows.specs.Elections.{Election, Node}
use Rattle.goal_rows.specs.Cells.{high_end, low_end}
use Rattle.goal_rows.specs.Nodes.{IsFeatureOf, node_of, number_count, with_limit}
use Rattle.goal_rows.specs.Races.{IsGroundIn}
use Rattle.dual_bound.specs.CutTest.{IsBound}
use Rattle.search_theory.specs.Branchings.{Branching, Values, variables_at}
use Rattle.search_theory.specs.Leaves.{HasRanges, Leaf}
use Rattle.search_leaves.specs.declared.branchings.Branching.{Branching as KeptBranching}
use Rattle.search_leaves.specs.declared.leaves.Leaf.{Leaf as KeptLeaf}
use Rattle.search_leaves.specs.declared.seeds.Seed.{Seed}

-- ---- leaves

-- a point as numbers over a denominator
abbrev pub values_of : Option Point → Option Values
values_of None = None
values_of (Some point) = Some (record { whole = point.whole; den = point.den })

abbrev pub node_at : KeptLeaf → Node
node_at kept = node_of kept.start kept.limits.items

-- a leaf that the program keeps
abbrev pub leaf_of : KeptLeaf → Leaf
leaf_of kept = record {
  node = node_at kept;
  multipliers = kept.multipliers;
  bound = kept.bound;
  point = values_of kept.point;
  depth = kept.depth;
}

-- a leaf that may grow: the ground of its goal, its ranges, its multipliers and their bound, and room for one limit more
-- and for a node below it
pub record IsGrowing (e : Election) (kept : KeptLeaf) : Type 0 where
  pub ground : IsGroundIn e kept.start
  pub ranges : HasRanges e (node_at kept)
  pub count : length kept.multipliers ≡ number_count e (node_at kept)
  pub bound : IsBound e (node_at kept) kept.multipliers kept.bound
  pub few : length kept.limits.items < MOST_LIMITS
  pub depth : kept.depth < MOST_DEPTH

-- ---- seeds

-- the node that is to become a leaf
abbrev pub node_in : Seed → Node
node_in seed = node_of seed.start seed.limits.items

-- it has the ground of its goal, its ranges, and inherits multipliers of this bound
pub record IsSeed (e : Election) (seed : Seed) : Type 0 where
  pub ground : IsGroundIn e seed.start
  pub ranges : HasRanges e (node_in seed)
  pub few : length seed.limits.items ≤ MOST_LIMITS
  pub count : length seed.inherited ≡ number_count e (node_in seed)
  pub bound : IsBound e (node_in seed) seed.inherited seed.bound

-- it inherits them from this leaf, and stands right below it
pub record IsSeedOf (e : Election) (kept : KeptLeaf) (seed : Seed) : Type 0 where
  pub own : IsSeed e seed
  pub bound : seed.bound ≡ kept.bound
  pub depth : seed.depth ≡ kept.depth + 1

-- ---- halves

-- the feature and the value by which the program branches
abbrev pub branching_in : KeptBranching → Branching
branching_in b = record { feature = b.feature; value = b.value }

-- one limit more leaves the node its ranges
pub record IsHalf (e : Election) (node : Node) (limit : Limit) : Type 0 where
  pub ranges : HasRanges e (with_limit node limit)

-- the feature is one of the goal and of its variables, and each half leaves each variable of it some value
pub record CanHalve (e : Election) (node : Node) (b : Branching) : Type 0 where
  pub feature : IsFeatureOf e node.goal b.feature
  pub on_variable : Contains (map (λ v. v.feature) (variables_at e node)) b.feature
  pub small : b.value < MOST_BALLOTS
  pub low : low_end node.limits b.feature ≤ b.value
  pub high : All (λ v. v.feature ≡ b.feature → b.value < high_end node.limits v) (variables_at e node)
