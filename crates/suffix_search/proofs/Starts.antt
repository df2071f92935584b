-- A search where it begins and where it ends.
use Rattle.std.proofs.Common.{◌≡◌, ℕ, suc, ◌≤◌, ◌++◌, ◌∙◌, List, [], ◌∷◌, All, false, get_or, length, refl, sym, ap, subst, arith}
use Rattle.std.specs.Prelude.{pos, ◌≤ℤ◌}
use Rattle.std.proofs.lemmas.List.Elements.{All-append, All-cons, All-nil}
use Rattle.row_program.specs.Points.{row_value}
use Rattle.row_program.specs.declared.Limit.{Limit}
use Rattle.row_program.specs.declared.program.Row.{Row}
use Rattle.bound_tree.specs.Plain.{Cut, Plain}
use Rattle.goal_rows.specs.Elections.{Node}
use Rattle.goal_rows.specs.Goals.{IsElection}
use Rattle.goal_rows.specs.Nodes.{number_count, without_limits}
use Rattle.goal_rows.specs.Programs.{IsPointOf, class_rows_of, flow_rows_of, goal_rows_of, limit_rows_of}
use Rattle.goal_rows.specs.Races.{IsGroundIn}
use Rattle.goal_rows.specs.declared.goals.Goal.TheVariants.{Root}
use Rattle.goal_rows.specs.declared.parts.Ground.{Ground}
use Rattle.node_bounds.specs.Ceilings.{IsCeiling, ground_at, node_cost}
use Rattle.node_bounds.proofs.CeilingCuts.{ground_is}
use Rattle.search_theory.specs.Branchings.{IsLeastOf}
use Rattle.search_theory.specs.Ends.{IsKnown, Problem}
use Rattle.search_theory.specs.Leaves.{IsLeaf, IsUnderWay, lowest}
use Rattle.search_theory.specs.Spots.{has_cover}
use Rattle.search_theory.specs.Trees.{IsNeeded}
use Rattle.search_theory.proofs.Ended.{start, tight}
use Rattle.search_theory.proofs.Facts.{laws_of}
use Rattle.search_theory.proofs.Proven.{proves}
use Rattle.search_leaves.specs.Found.{EndsSo, IsFound, IsFromPoint}
use Rattle.search_leaves.specs.Kept.{leaf_of, node_at}
use Rattle.search_leaves.specs.declared.leaves.Leaf.{Leaf as KeptLeaf}
use Rattle.witness_build.specs.FromPoints.{IsPointWithout, changes_at, replaced_at}
use Rattle.witness_build.specs.declared.ends.Found.{Found}
use Rattle.witness_build.specs.declared.pairs.Witness.{Witness}
use Rattle.suffix_search.specs.Searches.{IsAtPlace, IsPointLeaf, IsRunning, IsWitnessOf, leaves_of}
use Rattle.suffix_search.proofs.Complete.{complete_is}
use Rattle.suffix_search.proofs.Places.{get_or-any}

-- ---- at the start

no_numbers : (ms : List ℕ) → length ms ≡ 0 → ms ≡ []
no_numbers [] none = refl
no_numbers (m ∷ ms) none = absurd (omega (arith, none))

pub started : (p : Problem) (kept : KeptLeaf) → IsLeaf p (leaf_of kept) → node_at kept ≡ without_limits Root → kept.depth ≡ 1 → IsCeiling p.election (without_limits Root) kept.bound → IsGroundIn p.election kept.start → 1 ≤ p.budget
    → IsRunning p (Cut []) (kept ∷ [])
started p kept own is deep ceiling ground some =
    let none = no_numbers kept.multipliers (own.count ∙ ap (number_count p.election) is) in
    let begun = start p (leaf_of kept) own is deep kept.bound (subst (λ n. IsCeiling p.election n kept.bound) (sym is) ceiling) (omega arith) in
    record {
      under_way = subst (λ ms. IsUnderWay p (Cut ms) (leaf_of kept ∷ [])) none begun;
      grounds = All-cons (λ (leaf : KeptLeaf). IsGroundIn p.election leaf.start) kept [] ground (All-nil (λ (leaf : KeptLeaf). IsGroundIn p.election leaf.start));
      within = some;
    }

-- ---- at the end

pub found_is : (p : Problem) (found : Found) (kept : List KeptLeaf) → IsElection p.election → IsKnown p → IsRunning p found.tree kept → found.low ≡ lowest p.election (leaves_of kept) → EndsSo p found.tree found.low found.end
    → IsFound p found
found_is p found kept election known running low end = record {
  proof = proves p (laws_of p election known) found.tree (leaves_of kept) found.low running.under_way (omega (arith, low));
  tight = tight p found.tree (leaves_of kept) running.under_way;
  needed = subst (λ t. IsNeeded p.election t found.tree) (sym low) running.under_way.inner;
  within = running.within;
  end = end;
}

-- ---- at a point

abbrev IsMet : List ℕ → Row → Type 0
IsMet whole row = pos 0 ≤ℤ row_value row whole 1

left_of : (P : Row → Type 0) (xs ys : List Row) → All P (xs ++ ys) → All P xs
left_of P [] ys all = All-nil P
left_of P (x ∷ xs) ys all = All-cons P x xs (all 0 x (omega arith)) (left_of P xs ys (λ k d lt. all (suc k) d (omega (arith, lt))))

right_of : (P : Row → Type 0) (xs ys : List Row) → All P (xs ++ ys) → All P ys
right_of P [] ys all = all
right_of P (x ∷ xs) ys all = right_of P xs ys (λ k d lt. all (suc k) d (omega (arith, lt)))

-- a point of a node is one of its goal
pub without : (start : Ground) (limits : List Limit) (whole : List ℕ) → IsPointOf start limits whole 1 → IsPointWithout start whole
without start limits whole point =
    let g = goal_rows_of start in
    let l = limit_rows_of start limits in
    let c = class_rows_of start.classes in
    let f = flow_rows_of start in
    let P = IsMet whole in
    let glc = left_of P (g ++ l ++ c) f point.meets in
    let flow = right_of P (g ++ l ++ c) f point.meets in
    let gl = left_of P (g ++ l) c glc in
    let classes = right_of P (g ++ l) c glc in
    let goal = left_of P g l gl in
    record {
      all_variables = point.all_variables;
      positive = point.positive;
      meets = All-append P (g ++ [] ++ c) f (All-append P (g ++ []) c (All-append P g [] goal (All-nil P)) classes) flow;
    }

module _ (p : Problem) (tree : Plain) (kept : List KeptLeaf) (low place : ℕ) (election : IsElection p.election) (running : IsRunning p tree kept) (at : IsAtPlace p tree kept low place) where
  pub read_leaf : (leaf : KeptLeaf) → leaf ≡ get_or kept place leaf → leaf ≡ at.leaf
  read_leaf leaf is = is ∙ get_or-any place kept leaf at.leaf at.within ∙ sym at.stands

  ground : IsGroundIn p.election at.leaf.start
  ground = subst (λ (leaf : KeptLeaf). IsGroundIn p.election leaf.start) (sym at.stands) (running.grounds place at.leaf at.within)

  same : at.leaf.start ≡ ground_at p.election at.leaf.start.goal
  same = ground_is p.election at.leaf.start ground

  least : IsLeastOf p.election (node_at at.leaf) at.q
  least = subst (λ n. IsLeastOf p.election n at.q) at.node at.at.at_point.least

  pub point_leaf : IsPointLeaf p.election at.leaf
  point_leaf =
      let point = subst (λ (g : Ground). IsPointOf g at.leaf.limits.items at.q.whole at.q.den) (sym same) least.point in
      record {
        ground = ground;
        complete = complete_is p.election at.leaf.start.goal election ground.reached (subst (λ (n : Node). has_cover p.election n.goal ≡ false) at.node at.at.at_point.complete);
        q = at.q;
        point = at.point;
        whole = at.at.at_point.whole;
        meets = without at.leaf.start at.leaf.limits.items at.q.whole (subst (λ d. IsPointOf at.leaf.start at.leaf.limits.items at.q.whole d) at.at.at_point.whole point);
      }

  pub from_leaf : (witness : Witness) → IsWitnessOf p.election at.leaf witness → IsFromPoint p tree low witness
  from_leaf witness is = record {
    q = at.q;
    at = at.at;
    goal = is.goal ∙ sym (ap (λ (n : Node). n.goal) at.node);
    changes = is.changes at.q at.point ∙ ap (λ g. changes_at p.election g at.q.whole) (same ∙ ap (ground_at p.election) (sym is.goal));
    count = is.count at.q at.point ∙ ap (λ g. replaced_at g at.q.whole) same ∙ sym (ap (λ (n : Node). node_cost p.election n at.q.whole) at.node) ∙ at.at.cost;
    met = is.met;
  }
