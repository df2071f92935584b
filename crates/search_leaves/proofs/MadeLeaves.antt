-- What a leaf knows that is made of a seed.
use Rattle.std.proofs.Common.{◌≡◌, ℕ, ◌<◌, ◌≤◌, ◌∙◌, List, Option, None, Some, true, false, length, refl, sym, subst, inl, inr, arith}
use Rattle.std.proofs.lemmas.Bool.{false≢true}
use Rattle.row_program.specs.declared.program.Point.{Point}
use Rattle.goal_rows.specs.Elections.{Election}
use Rattle.goal_rows.specs.Goals.{IsReached}
use Rattle.goal_rows.specs.Nodes.{number_count}
use Rattle.dual_bound.specs.CutTest.{IsBound}
use Rattle.node_bounds.specs.Ceilings.{IsCeiling}
use Rattle.search_theory.specs.Branchings.{IsSolid, is_pair}
use Rattle.search_theory.specs.Ends.{IsKnown, Problem}
use Rattle.search_theory.specs.Leaves.{HasRanges, IsCutTo, IsKept, IsLeaf}
use Rattle.search_theory.specs.Trees.{top_of}
use Rattle.search_leaves.specs.Kept.{IsSeed, leaf_of, node_in, values_of}
use Rattle.search_leaves.specs.NewLeaves.{AreOwn, IsLeafOf, leaf_from}
use Rattle.search_leaves.specs.declared.seeds.Seed.{Seed}

-- where the goal is a pair and the bound is within reach, so many are known to turn the outcome
abbrev pub IsReachedByPair : Election → Seed → ℕ → Type 0
IsReachedByPair e seed b = (p : Problem) → p.election ≡ e → IsKnown p → is_pair seed.start.goal ≡ true → b < top_of e →
    (u : ℕ) × (p.upper ≡ Some u) × (u ≤ b)

-- the multipliers are the node's, one for each row and limit, and have this bound
pub record AreFound (e : Election) (seed : Seed) (ls : List ℕ) (b : ℕ) : Type 0 where
  pub count : length ls ≡ number_count e (node_in seed)
  pub bound : IsBound e (node_in seed) ls b
  pub own : AreOwn e seed ls
  pub pair : IsReachedByPair e seed b

own_leaf : (e : Election) (seed : Seed) (ls : List ℕ) (b : ℕ) (point : Option Point) → IsSeed e seed → AreFound e seed ls b → IsKept e (node_in seed) (values_of point)
    → (p : Problem) → p.election ≡ e → IsKnown p → IsLeaf p (leaf_of (leaf_from seed ls b point))
own_leaf e seed ls b point is found kept p same known =
    let back = sym same in
    record {
      reached = subst (λ x. IsReached x seed.start.goal) back is.ground.reached;
      count = subst (λ x. length ls ≡ number_count x (node_in seed)) back found.count;
      bound = subst (λ x. IsBound x (node_in seed) ls b) back found.bound;
      ranges = subst (λ x. HasRanges x (node_in seed)) back is.ranges;
      point = subst (λ x. IsKept x (node_in seed) (values_of point)) back kept;
      pair = λ pair within. found.pair p same known pair (subst (λ x. b < top_of x) same within);
    }

made_leaf : (e : Election) (seed : Seed) (ls : List ℕ) (b : ℕ) (point : Option Point) → IsSeed e seed → AreFound e seed ls b → IsKept e (node_in seed) (values_of point)
    → IsCutTo e seed.bound (leaf_of (leaf_from seed ls b point)) → IsLeafOf e seed (leaf_from seed ls b point)
made_leaf e seed ls b point is found kept cut = record {
  ground = refl;
  limits = refl;
  depth = refl;
  multipliers = found.own;
  own = own_leaf e seed ls b point is found kept;
  cut = cut;
}

-- that of a solid node, where the bound is the ceiling
pub solid_leaf : (e : Election) (seed : Seed) (ls : List ℕ) (b : ℕ) (point : Option Point) → IsSeed e seed → AreFound e seed ls b → IsKept e (node_in seed) (values_of point)
    → IsSolid e (node_in seed) → IsCeiling e (node_in seed) b → IsLeafOf e seed (leaf_from seed ls b point)
solid_leaf e seed ls b point is found kept solid ceiling = made_leaf e seed ls b point is found kept (inl (solid, b, ceiling, omega arith))

-- of no pair
pub no_pair : (e : Election) (seed : Seed) (b : ℕ) → is_pair seed.start.goal ≡ false → IsReachedByPair e seed b
no_pair e seed b other p same known pair within = absurd (false≢true (sym other ∙ pair))

-- that of a node that isn't solid, which keeps what it inherits
pub inheriting_leaf : (e : Election) (seed : Seed) → IsSeed e seed → (IsSolid e (node_in seed) → ⊥) → IsLeafOf e seed (leaf_from seed seed.inherited seed.bound None)
inheriting_leaf e seed is loose =
    let pair : IsReachedByPair e seed seed.bound = λ p same known pair within. absurd (loose (inr (inl pair))) in
    let own : AreOwn e seed seed.inherited = record {
      pair = λ pair. absurd (loose (inr (inl pair)));
      cell = λ cell. absurd (loose (inr (inr (inl cell))));
      solved = λ other no_cell solvable. absurd (loose (inr (inr (inr solvable))));
      inherited = λ _. refl;
    } in
    made_leaf e seed seed.inherited seed.bound None is (record { count = is.count; bound = is.bound; own = own; pair = pair }) (inr (inr (inl loose))) (inr (loose, refl))
