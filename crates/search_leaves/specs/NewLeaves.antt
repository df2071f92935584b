-- Leaves as they are made of seeds.
use Rattle.std.specs.Prelude.{◌≡◌, ◌≢◌, ◌⊎◌, ℕ, List, [], ◌∷◌, Bool, true, false, Option, length}
use Rattle.row_program.specs.Method.{IsWide}
use Rattle.row_program.specs.Points.{IsLeastCost, IsLeastPoint}
use Rattle.row_program.specs.declared.Limit.{Limit}
use Rattle.row_program.specs.declared.program.Point.{Point}
use Rattle.row_program.specs.declared.program.Program.{Program}
use Rattle.dual_theory.specs.Multipliers.{BoundsCost, RulesOut}
use Rattle.lex_dual.specs.Answers.{HasNoPoint, IsReadAtBest, IsReadAtNever, OnBest, OnNever, multipliers_in}
use Rattle.lex_dual.specs.declared.solved.Solved.{Solved}
use Rattle.goal_rows.specs.Elections.{Election}
use Rattle.goal_rows.specs.declared.goals.Goal.TheVariants.{Root}
use Rattle.goal_rows.specs.declared.parts.Ground.{Ground}
use Rattle.dual_bound.specs.CellCuts.{cell_multipliers}
use Rattle.node_bounds.specs.Ceilings.{IsProgramOf}
use Rattle.search_theory.specs.Branchings.{IsCompleteCell, IsSolid, IsSolvable, is_pair}
use Rattle.search_theory.specs.Ends.{IsKnown, Problem}
use Rattle.search_theory.specs.Leaves.{IsCutTo, IsLeaf}
use Rattle.search_theory.specs.Spots.{has_cover}
use Rattle.search_leaves.specs.Kept.{IsSeed, leaf_of, node_in}
use Rattle.search_leaves.specs.declared.leaves.Leaf.{Leaf as KeptLeaf}
use Rattle.search_leaves.specs.declared.seeds.Seed.{Seed}

-- ---- leaves

-- the leaf of a seed with these multipliers, of this bound, and with this point
abbrev pub leaf_from : Seed → List ℕ → ℕ → Option Point → KeptLeaf
leaf_from seed multipliers bound point = record {
  start = seed.start;
  limits = seed.limits;
  multipliers = multipliers;
  bound = bound;
  point = point;
  depth = seed.depth;
}

-- the multipliers that the method reads off its last form of the program
abbrev pub AreRead : Program → List ℕ → Type 0
AreRead program multipliers = IsReadAtBest program multipliers ⊎ IsReadAtNever program multipliers

-- the multipliers of a seed's node: 1 for a pair; for a cell of a complete goal those that its values show; for another
-- node those of its program, where the method solves that; and where the node isn't solid, what the seed inherits
pub record AreOwn (e : Election) (seed : Seed) (multipliers : List ℕ) : Type 0 where
  pub pair : is_pair seed.start.goal ≡ true → multipliers ≡ 1 ∷ []
  pub cell : IsCompleteCell e (node_in seed) → multipliers ≡ cell_multipliers seed.start seed.limits.items
  pub solved : is_pair seed.start.goal ≡ false → (IsCompleteCell e (node_in seed) → ⊥) → IsSolvable e (node_in seed) →
      (program : Program) × IsProgramOf seed.start seed.limits.items program × AreRead program multipliers
  pub inherited : (IsSolid e (node_in seed) → ⊥) → multipliers ≡ seed.inherited

-- it has the seed's node and depth, the node's multipliers, knows of itself what a leaf does, and is cut to its ceiling
-- where it is solid, and else to the seed's bound
pub record IsLeafOf (e : Election) (seed : Seed) (leaf : KeptLeaf) : Type 0 where
  pub ground : leaf.start ≡ seed.start
  pub limits : leaf.limits ≡ seed.limits
  pub depth : leaf.depth ≡ seed.depth
  pub multipliers : AreOwn e seed leaf.multipliers
  pub own : (p : Problem) → p.election ≡ e → IsKnown p → IsLeaf p (leaf_of leaf)
  pub cut : IsCutTo e seed.bound (leaf_of leaf)

-- ---- seeds

-- a seed in some election
abbrev pub IsSomeSeed : Seed → Type 0
IsSomeSeed seed = (e : Election) × IsSeed e seed

-- one of a pair
pub record IsPairSeed (e : Election) (seed : Seed) : Type 0 where
  pub own : IsSeed e seed
  pub pair : is_pair seed.start.goal ≡ true

-- one of a cell of a complete goal
pub record IsCellSeed (e : Election) (seed : Seed) : Type 0 where
  pub own : IsSeed e seed
  pub cell : IsCompleteCell e (node_in seed)

-- one that is solid only where the method solves its program; whether its goal has a cover
pub record IsOpenSeed (e : Election) (covered : Bool) (seed : Seed) : Type 0 where
  pub own : IsSeed e seed
  pub below : seed.start.goal ≢ Root
  pub other : is_pair seed.start.goal ≡ false
  pub no_cell : IsCompleteCell e (node_in seed) → ⊥
  pub cover : has_cover e seed.start.goal ≡ covered

-- ---- answers of the method

-- it is what the method answers to the program of this node, in which it meets no wide number
pub record IsAnswer (start : Ground) (limits : List Limit) (solved : Solved) : Type 0 where
  pub program : Program
  pub is : IsProgramOf start limits program
  pub narrow : IsWide program → ⊥
  pub each_row : length (multipliers_in solved) ≡ program.kept
  pub least_cost : OnBest (λ value _ _. IsLeastCost program value.num value.den) solved
  pub least_point : OnBest (λ _ _ point. IsLeastPoint program point.whole point.den) solved
  pub cost_shown : OnBest (λ value multipliers _. BoundsCost program multipliers value.num value.den) solved
  pub no_point : OnNever (λ _. HasNoPoint program) solved
  pub none_shown : OnNever (λ multipliers. RulesOut program multipliers) solved
  pub best_read : OnBest (λ _ multipliers _. IsReadAtBest program multipliers) solved
  pub never_read : OnNever (λ multipliers. IsReadAtNever program multipliers) solved
