-- The first leaf with the least bound, and what a turn does with it.
use Rattle.std.proofs.Common.{◌≡◌, ℕ, zero, suc, ◌+◌, ◌<◌, ◌≤◌, ◌∙◌, List, [], ◌∷◌, Some, get_or, length, refl, sym, ap, subst, arith}
use Rattle.bound_tree.specs.Nodes.{size}
use Rattle.bound_tree.specs.Plain.{Plain}
use Rattle.bound_tree.specs.declared.bound.TheConstants.{MOST_DEPTH}
use Rattle.goal_rows.specs.Elections.{Election}
use Rattle.goal_rows.specs.Goals.{IsElection}
use Rattle.search_theory.specs.Branchings.{IsWhole, Values}
use Rattle.search_theory.specs.Ends.{IsEnd, IsKnown, Nothing, Problem, cuts_in}
use Rattle.search_theory.specs.Leaves.{IsFirstLeaf, Leaf, lowest}
use Rattle.search_theory.specs.Spots.{Hung}
use Rattle.search_theory.specs.Trees.{top_of}
use Rattle.search_theory.proofs.Ended.{Goes, end_at_point, end_budget, end_depth, end_met, end_nothing, first_cut, goes_on, same_first}
use Rattle.search_theory.proofs.Facts.{laws_of}
use Rattle.search_theory.proofs.Turns.{lowest-first}
use Rattle.search_leaves.specs.Kept.{leaf_of, node_at, values_of}
use Rattle.search_leaves.specs.declared.leaves.Leaf.{Leaf as KeptLeaf}
use Rattle.suffix_search.specs.Searches.{IsRunning, IsTurn, bound_in, growth_at, leaves_of}
use Rattle.suffix_search.specs.declared.turns.Stop.TheVariants as stops
use Rattle.suffix_search.specs.declared.turns.Turn.TheVariants as turns

bound_at : (xs : List KeptLeaf) (i : ℕ) (x : KeptLeaf) → i < length xs → bound_in xs i ≡ (get_or xs i x).bound
bound_at [] i x lt = absurd (omega (arith, lt))
bound_at (y ∷ ys) zero x lt = refl
bound_at (y ∷ ys) (suc i) x lt = bound_at ys i x (omega (arith, lt))

pub bound_is : (xs : List KeptLeaf) (i : ℕ) (x : KeptLeaf) → i < length xs → x ≡ get_or xs i x → bound_in xs i ≡ x.bound
bound_is xs i x lt is = bound_at xs i x lt ∙ ap (λ (y : KeptLeaf). y.bound) (sym is)

lowest-top : (e : Election) (xs : List Leaf) → lowest e xs ≤ top_of e
lowest-top e [] = omega arith
lowest-top e (x ∷ xs) = omega (arith, lowest-top e xs)

low_all : (e : Election) (t : ℕ) (xs : List KeptLeaf) → t ≤ top_of e → ((k : ℕ) → k < length xs → t ≤ bound_in xs k) → t ≤ lowest e (leaves_of xs)
low_all e t [] le all = le
low_all e t (x ∷ xs) le all =
    let here = all 0 (omega arith) in
    let rest = low_all e t xs le (λ k lt. all (suc k) (omega (arith, lt))) in
    omega (arith, here, rest)

first_from : (e : Election) (t : ℕ) (xs : List KeptLeaf) (i : ℕ) (x : KeptLeaf) → i < length xs → x ≡ get_or xs i x → t ≡ x.bound → t ≤ top_of e →
    ((k : ℕ) → k < length xs → t ≤ bound_in xs k) → ((k : ℕ) → k < i → t < bound_in xs k) → IsFirstLeaf e i (leaves_of xs) (leaf_of x)
first_from e t [] i x lt is same le all first = absurd (omega (arith, lt))
first_from e t (y ∷ ys) zero x lt is same le all first =
    let rest = low_all e t ys le (λ k lt. all (suc k) (omega (arith, lt))) in
    (ap leaf_of is, omega (arith, rest, same))
first_from e t (y ∷ ys) (suc i) x lt is same le all first =
    let here = first 0 (omega arith) in
    (omega (arith, here, same), first_from e t ys i x (omega (arith, lt)) is same le (λ k lt. all (suc k) (omega (arith, lt))) (λ k lt. first (suc k) (omega (arith, lt))))

-- ---- the leaf that was found

-- it stands at the place, no bound is lower than its own, and those before it are higher
pub record IsLeast (kept : List KeptLeaf) (place : ℕ) (leaf : KeptLeaf) : Type 0 where
  pub within : place < length kept
  pub stands : leaf ≡ get_or kept place leaf
  pub least : (k : ℕ) → k < length kept → bound_in kept place ≤ bound_in kept k
  pub first : (k : ℕ) → k < place → bound_in kept place < bound_in kept k

pub first_at : (e : Election) (kept : List KeptLeaf) (place : ℕ) (leaf : KeptLeaf) → IsLeast kept place leaf → leaf.bound ≤ top_of e → IsFirstLeaf e place (leaves_of kept) (leaf_of leaf)
first_at e kept place leaf is le =
    let same = bound_is kept place leaf is.within is.stands in
    first_from e leaf.bound kept place leaf is.within is.stands refl le
    (λ k lt. let h = is.least k lt in omega (arith, same, h)) (λ k lt. let h = is.first k lt in omega (arith, same, h))

-- ---- the ends

module _ (p : Problem) (tree : Plain) (kept : List KeptLeaf) (election : IsElection p.election) (known : IsKnown p) (running : IsRunning p tree kept) where
  stops_high : top_of p.election ≤ lowest p.election (leaves_of kept) → IsTurn p tree kept (turns.Stop (top_of p.election) stops.Nothing)
  stops_high le =
      let same : lowest p.election (leaves_of kept) ≡ top_of p.election = (let most = lowest-top p.election (leaves_of kept) in omega (arith, le, most)) in
      (sym same, subst (λ t. IsEnd p tree t Nothing) same (end_nothing p tree (leaves_of kept) running.under_way same))

  pub stops_empty : (top : ℕ) → length kept ≡ 0 → top ≡ top_of p.election → IsTurn p tree kept (turns.Stop top stops.Nothing)
  stops_empty top none is =
      subst (λ t. IsTurn p tree kept (turns.Stop t stops.Nothing)) (sym is) (stops_high (low_all p.election (top_of p.election) kept (omega arith) (λ k lt. absurd (omega (arith, lt, none)))))

  module _ (place : ℕ) (leaf : KeptLeaf) (least : IsLeast kept place leaf) where
    pub stops_at_top : (top : ℕ) → top ≡ top_of p.election → top ≤ leaf.bound → IsTurn p tree kept (turns.Stop top stops.Nothing)
    stops_at_top top is high =
        let same = bound_is kept place leaf least.within least.stands in
        subst (λ t. IsTurn p tree kept (turns.Stop t stops.Nothing)) (sym is)
        (stops_high (low_all p.election (top_of p.election) kept (omega arith) (λ k lt. let h = least.least k lt in omega (arith, same, h, high, is))))

    module _ (low : leaf.bound < top_of p.election) where
      first : IsFirstLeaf p.election place (leaves_of kept) (leaf_of leaf)
      first = first_at p.election kept place leaf least (omega (arith, low))

      lowest_is : leaf.bound ≡ lowest p.election (leaves_of kept)
      lowest_is = sym (lowest-first p.election place (leaves_of kept) (leaf_of leaf) first)

      pub stops_met : p.upper ≡ Some leaf.bound → IsTurn p tree kept (turns.Stop leaf.bound stops.Met)
      stops_met met = (lowest_is, end_met p tree (leaves_of kept) place (leaf_of leaf) running.under_way first low met)

      module _ (unmet : p.upper ≡ Some leaf.bound → ⊥) where
        pub stops_at_point : (q : Values) → values_of leaf.point ≡ Some q → IsWhole q → IsTurn p tree kept (turns.Stop leaf.bound (stops.AtPoint place))
        stops_at_point q is whole =
            let end = end_at_point p (laws_of p election known) tree (leaves_of kept) place (leaf_of leaf) q running.under_way first low unmet is whole in
            let c = first_cut p place (cuts_in p.election tree) (leaves_of kept) (leaf_of leaf) running.under_way.cuts first in
            let same = (same_first p (laws_of p election known) leaf.bound leaf.bound (cuts_in p.election tree) end.first c.0 end.is_first c.2).1 in
            (lowest_is, record { leaf = leaf; within = least.within; stands = least.stands; q = q; point = is; at = end; node = ap (λ (h : Hung). h.spot.node) same ∙ c.1.node })

        module _ (part : (q : Values) → values_of leaf.point ≡ Some q → IsWhole q → ⊥) where
          goes : Goes p tree (leaf_of leaf)
          goes = goes_on p (laws_of p election known) tree (leaves_of kept) place (leaf_of leaf) running.under_way first low unmet part

          pub stops_full : p.budget < size tree + growth_at p.election (node_at leaf) → IsTurn p tree kept (turns.Stop leaf.bound stops.Budget)
          stops_full full = (lowest_is, end_budget p tree (leaf_of leaf) goes full)

          module _ (room : size tree + growth_at p.election (node_at leaf) ≤ p.budget) where
            pub stops_deep : MOST_DEPTH ≤ leaf.depth → IsTurn p tree kept (turns.Stop leaf.bound stops.Depth)
            stops_deep deep = (lowest_is, end_depth p tree (leaf_of leaf) goes room (let h = goes.held.shallow in omega (arith, h, deep)))

            pub grows : leaf.depth < MOST_DEPTH → IsTurn p tree kept (turns.Grow place)
            grows shallow = record {
              leaf = leaf;
              within = least.within;
              stands = least.stands;
              first = first;
              on = goes.on;
              held = goes.held;
              no_pair = goes.no_pair;
              part = part;
              shallow = shallow;
              room = room;
            }
