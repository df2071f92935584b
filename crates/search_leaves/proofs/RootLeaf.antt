-- The leaf with which a search begins.
use Rattle.std.proofs.Common.{◌≡◌, ℕ, ◌∙◌, List, [], None, refl, sym, ap, subst, inl, arith}
use Rattle.std.proofs.lemmas.Bool.{false≢true}
use Rattle.row_program.specs.declared.Limit.{Limit}
use Rattle.goal_rows.specs.Elections.{Election, Node}
use Rattle.goal_rows.specs.Nodes.{node_of, without_limits}
use Rattle.goal_rows.specs.declared.goals.Goal.{Goal}
use Rattle.goal_rows.specs.declared.goals.Goal.TheVariants.{Root}
use Rattle.goal_rows.specs.declared.parts.Ground.{Ground}
use Rattle.dual_bound.proofs.Exact.{root_bound}
use Rattle.node_bounds.specs.Ceilings.{IsCeiling, IsNodePoint, ground_at}
use Rattle.node_bounds.proofs.Inheritance.{no_limits_are}
use Rattle.search_theory.specs.Ends.{Problem}
use Rattle.search_theory.specs.Leaves.{IsLeaf, Leaf}
use Rattle.search_leaves.proofs.BareNodes.{bare_ranges}

-- ---- the root costs nothing

root_point : (e : Election) → IsNodePoint e (without_limits Root) [] 1
root_point e = record {
  all_variables = refl;
  positive = omega arith;
  meets = λ k d lt. absurd (omega (arith, lt));
}

pub root_ceiling : (e : Election) → IsCeiling e (without_limits Root) 0
root_ceiling e = record {
  reached = inl ([], 1, root_point e, omega arith);
  least = λ u some. omega arith;
}

-- ---- its leaf

abbrev leaf_at : Node → List ℕ → Leaf
leaf_at node ls = record { node = node; multipliers = ls; bound = 0; point = None; depth = 1 }

root_leaf : (p : Problem) → IsLeaf p (leaf_at (without_limits Root) [])
root_leaf p = record {
  reached = ([], refl);
  count = refl;
  bound = root_bound p.election (ground_at p.election Root) [] [] (no_limits_are p.election Root) refl;
  ranges = bare_ranges p.election Root;
  point = inl refl;
  pair = λ pair within. absurd (false≢true pair);
}

pub root_is : (start : Ground) (limits : List Limit) → start.goal ≡ Root → limits ≡ [] → node_of start limits ≡ without_limits Root
root_is start limits goal_is none =
    ap (λ (goal : Goal). record { goal = goal; limits = limits }) goal_is ∙ ap (λ (ls : List Limit). record { goal = Root; limits = ls }) none

pub first_is : (p : Problem) (start : Ground) (limits : List Limit) (ls : List ℕ) → start.goal ≡ Root → limits ≡ [] → ls ≡ [] → IsLeaf p (leaf_at (node_of start limits) ls)
first_is p start limits ls goal_is none bare =
    subst (λ ms. IsLeaf p (leaf_at (node_of start limits) ms)) (sym bare)
    (subst (λ node. IsLeaf p (leaf_at node [])) (sym (root_is start limits goal_is none)) (root_leaf p))
