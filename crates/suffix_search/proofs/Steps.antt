-- What is known of the leaf that grows, and of a search after it grew.
use Rattle.std.proofs.Common.{◌≡◌, ℕ, zero, suc, ◌+◌, ◌<◌, ◌≤◌, ◌∙◌, List, [], ◌∷◌, All, Option, Some, None, true, false, cond, get_or, length, refl, sym, ap, subst, arith, inl, inr}
use Rattle.std.proofs.lemmas.Bool.{cases_lt, false≢true}
use Rattle.std.proofs.lemmas.List.{length-map}
use Rattle.std.proofs.lemmas.List.Elements.{All-append, All-cons, All-head, All-nil, All-tail}
use Rattle.bound_tree.specs.Nodes.{cut_count, size}
use Rattle.bound_tree.specs.Plain.{Plain}
use Rattle.bound_tree.specs.declared.bound.TheConstants.{MOST_NODES}
use Rattle.row_program.specs.declared.Limit.{Limit}
use Rattle.goal_rows.specs.Cells.{HasFeatures, IsCell, Variable, high_end, low_end}
use Rattle.goal_rows.specs.Elections.{Election}
use Rattle.goal_rows.specs.Goals.{IsElection}
use Rattle.goal_rows.specs.Nodes.{without_limits}
use Rattle.goal_rows.specs.Races.{IsGroundIn}
use Rattle.goal_rows.specs.declared.goals.Goal.{Goal}
use Rattle.goal_rows.specs.declared.goals.Goal.TheVariants.{Root, Suffix, Pair, Cover}
use Rattle.node_bounds.specs.Ceilings.{ground_at}
use Rattle.search_theory.specs.Branchings.{Branching, IsSolid, Values, is_pair, variables_at}
use Rattle.search_theory.specs.Ends.{IsKnown, Problem}
use Rattle.search_theory.specs.Leaves.{AreMade, ByBranch, ByCover, Growth, IsKept, IsUnderWay, Leaf, MayGrow, growth_tree, kid_nodes}
use Rattle.search_theory.specs.Numbers.{cut_number}
use Rattle.search_theory.specs.Spots.{cover_list, grown, has_cover, put_at}
use Rattle.search_theory.proofs.Ended.{Goes, length-made, may_branch_at_point, may_branch_in_middle, measure_falls, no_point, size_step}
use Rattle.search_theory.proofs.Facts.{laws_of}
use Rattle.search_theory.proofs.Numbered.{grown_at_number}
use Rattle.search_theory.proofs.Turns.{step}
use Rattle.search_leaves.specs.Branched.{HasWide, IsBranched, IsOpenAt, MayBranch}
use Rattle.search_leaves.specs.Kept.{CanHalve, IsGrowing, leaf_of, node_at, values_of}
use Rattle.search_leaves.specs.declared.leaves.Leaf.{Leaf as KeptLeaf}
use Rattle.suffix_search.specs.Searches.{AreKids, Grows, GrowsBy, IsRunning, MayGrowAt, distance, growth_at, leaves_of}
use Rattle.suffix_search.proofs.CutPlaces.{cut_of, not_deepest}
use Rattle.suffix_search.proofs.Complete.{complete_is}
use Rattle.suffix_search.proofs.Places.{get_or-any, map-put_at}

-- ---- wide variables

wide_first : (v : Variable) (vs : List Variable) (limits : List Limit) → low_end limits v.feature < high_end limits v → HasWide (v ∷ vs) limits
wide_first v vs limits lt = (0, v, refl, lt)

wide_later : (v : Variable) (vs : List Variable) (limits : List Limit) → HasWide vs limits → HasWide (v ∷ vs) limits
wide_later v vs limits (k, w, at, lt) = (suc k, w, at, lt)

-- where each variable has a value and not each has just one, some has more
some_wide : (vs : List Variable) (limits : List Limit) → All (λ v. low_end limits v.feature ≤ high_end limits v) vs → (All (λ v. low_end limits v.feature ≡ high_end limits v) vs → ⊥) → HasWide vs limits
some_wide [] limits all other = absurd (other (All-nil (λ v. low_end limits v.feature ≡ high_end limits v)))
some_wide (v ∷ vs) limits all other =
    let here = All-head (λ v. low_end limits v.feature ≤ high_end limits v) v vs all in
    let rest = All-tail (λ v. low_end limits v.feature ≤ high_end limits v) v vs all in
    elim (cases_lt (low_end limits v.feature) (high_end limits v)) [
      | inl lt ↦ wide_first v vs limits lt
      | inr le ↦ wide_later v vs limits (some_wide vs limits rest (λ each. other (All-cons (λ v. low_end limits v.feature ≡ high_end limits v) v vs (omega (arith, here, le)) each)))
    ]

-- ---- the goal of a leaf that is branched

featured : (e : Election) (goal : Goal) → has_cover e goal ≡ false → (is_pair goal ≡ true → ⊥) → HasFeatures goal
featured e Root none pair = absurd (false≢true (sym none))
featured e (Suffix suffix) none pair = tt
featured e (Pair g l) none pair = absurd (pair refl)
featured e (Cover x) none pair = tt

-- ---- one turn

module _ (p : Problem) (tree : Plain) (kept : List KeptLeaf) (place : ℕ) (election : IsElection p.election) (known : IsKnown p)
    (running : IsRunning p tree kept) (grows : Grows p tree kept place) where
  x : Leaf
  x = leaf_of grows.leaf

  goes : Goes p tree (leaf_of grows.leaf)
  goes = record { on = grows.on; held = grows.held; no_pair = grows.no_pair }

  -- the leaf that the program reads there
  pub is_leaf : (leaf : KeptLeaf) → leaf ≡ get_or kept place leaf → leaf ≡ grows.leaf
  is_leaf leaf is = is ∙ get_or-any place kept leaf grows.leaf grows.within ∙ sym grows.stands

  ground : IsGroundIn p.election grows.leaf.start
  ground = subst (λ (leaf : KeptLeaf). IsGroundIn p.election leaf.start) (sym grows.stands) (running.grounds place grows.leaf grows.within)

  growing : IsGrowing p.election grows.leaf
  growing = record {
    ground = ground;
    ranges = grows.held.own.ranges;
    count = grows.held.own.count;
    bound = grows.held.own.bound;
    few = (let few = grows.held.few in let deep = grows.shallow in omega (arith, few, deep));
    depth = grows.shallow;
  }

  not_solid : values_of grows.leaf.point ≡ None → has_cover p.election grows.leaf.start.goal ≡ false → IsSolid p.election (node_at grows.leaf) → ⊥
  not_solid none complete = no_point p (laws_of p election known) grows.on.first (leaf_of grows.leaf) grows.held grows.on.within none complete grows.no_pair

  is_open : has_cover p.election grows.leaf.start.goal ≡ false → (o : Option Values) → values_of grows.leaf.point ≡ o → IsOpenAt p.election grows.leaf o
  is_open complete None is =
      let e = p.election in
      let node = node_at grows.leaf in
      let cell : IsCell (ground_at e node.goal) node.limits → ⊥ = λ cell. not_solid is complete
      (inr (inr (inl (record { complete = complete_is e node.goal election grows.held.own.reached complete; cell = cell })))) in
      some_wide (variables_at e node) node.limits grows.held.own.ranges.some
      (λ one. cell (record { featured = featured e node.goal complete grows.no_pair; on_variables = grows.held.own.ranges.on_variables; one_value = one }))
  is_open complete (Some q) is =
      let fact = subst (λ o. IsKept p.election (node_at grows.leaf) o) is grows.held.own.point in
      (fact.3, grows.part q is)

  may_branch : has_cover p.election grows.leaf.start.goal ≡ false → MayBranch p.election grows.leaf
  may_branch complete = record {
    ground = ground;
    featured = featured p.election grows.leaf.start.goal complete grows.no_pair;
    ranges = grows.held.own.ranges;
    part = is_open complete (values_of grows.leaf.point) refl;
  }

  pub may_grow_at : p.budget ≤ MOST_NODES → MayGrowAt p.election grows.leaf (cut_number place tree) tree
  may_grow_at most =
      let cut = cut_of p tree (leaves_of kept) place (leaf_of grows.leaf) running.under_way grows.first in
      record {
        growing = growing;
        plain = grows.held.plain;
        branch = may_branch;
        cut = cut.cut;
        shallow = not_deepest tree (cut_number place tree) grows.leaf.depth cut.deep grows.shallow;
        room = (let room = grows.room in omega (arith, room, most));
      }

  pub place_within : place < cut_count tree
  place_within = (cut_of p tree (leaves_of kept) place (leaf_of grows.leaf) running.under_way grows.first).within

  -- ---- after it

  branch_by : (b : Branching) (o : Option Values) → values_of grows.leaf.point ≡ o → has_cover p.election grows.leaf.start.goal ≡ false → IsBranched p.election grows.leaf o b → CanHalve p.election (node_at grows.leaf) b
      → MayGrow p.election (ByBranch b) (node_at grows.leaf)
  branch_by b None is complete by can = may_branch_in_middle p (laws_of p election known) tree (leaf_of grows.leaf) b goes can.feature is complete by
  branch_by b (Some q) is complete by can = may_branch_at_point p (leaf_of grows.leaf) q b grows.held.own can.feature is (grows.part q is) by

  may_by : (way : Growth) → GrowsBy p.election grows.leaf way → MayGrow p.election way (node_at grows.leaf)
  may_by ByCover by = by
  may_by (ByBranch b) by = branch_by b (values_of grows.leaf.point) refl by.0 by.1 by.2

  kid_number : (way : Growth) → MayGrow p.election way (node_at grows.leaf) → length (kid_nodes p.election way (node_at grows.leaf)) ≡ growth_at p.election (node_at grows.leaf)
  kid_number ByCover may =
      let e = p.election in
      let goal = grows.leaf.start.goal in
      length-map (cover_list e goal) without_limits ∙ sym (ap (λ b. cond b (length (cover_list e goal)) 2) may)
  kid_number (ByBranch b) may = sym (ap (λ c. cond c (length (cover_list p.election grows.leaf.start.goal)) 2) may.0)

  all-put_at : (i : ℕ) (P : KeptLeaf → Type 0) (new xs : List KeptLeaf) → All P new → All P xs → All P (put_at i (λ y. new) xs)
  all-put_at i P new [] all each = each
  all-put_at zero P new (y ∷ ys) all each = All-append P new ys all (All-tail P y ys each)
  all-put_at (suc i) P new (y ∷ ys) all each = All-cons P y (put_at i (λ z. new) ys) (All-head P y ys each) (all-put_at i P new ys all (All-tail P y ys each))

  module _ (after : Plain) (kids now : List KeptLeaf) (are : AreKids p.election grows.leaf (cut_number place tree) tree after kids) (now_is : now ≡ put_at place (λ y. kids) kept) where
    may : MayGrow p.election are.way (node_at grows.leaf)
    may = may_by are.way are.by

    made : AreMade p (leaf_of grows.leaf) (kid_nodes p.election are.way (node_at grows.leaf)) (leaves_of kids)
    made = are.made p refl known

    leaves_are : leaves_of now ≡ put_at place (λ y. leaves_of kids) (leaves_of kept)
    leaves_are = ap leaves_of now_is ∙ map-put_at leaf_of place kids kept

    tree_is : after ≡ grown place (growth_tree are.way (leaves_of kids)) tree
    tree_is = are.tree ∙ grown_at_number place (growth_tree are.way (leaves_of kids)) tree place_within

    sizes : (size (grown place (growth_tree are.way (leaves_of kids)) tree) ≡ size tree + length (leaves_of kids)) × (length (put_at place (λ y. leaves_of kids) (leaves_of kept)) + 1 ≡ length (leaves_of kept) + length (leaves_of kids))
    sizes = size_step p tree (leaves_of kept) place (leaf_of grows.leaf) are.way (leaves_of kids) running.under_way grows.first made

    count : length (leaves_of kids) ≡ growth_at p.election (node_at grows.leaf)
    count = length-made p (leaf_of grows.leaf) (kid_nodes p.election are.way (node_at grows.leaf)) (leaves_of kids) made ∙ kid_number are.way may

    size_after : size after ≡ size tree + length (leaves_of kids)
    size_after = ap size tree_is ∙ sizes.0

    pub still_running : IsRunning p after now
    still_running =
        let s = step p (laws_of p election known) tree (leaves_of kept) place (leaf_of grows.leaf) are.way (leaves_of kids) running.under_way grows.first grows.on.within grows.shallow may made in
        record {
          under_way = subst (λ t. IsUnderWay p t (leaves_of now)) (sym tree_is)
              (subst (λ l. IsUnderWay p (grown place (growth_tree are.way (leaves_of kids)) tree) l) (sym leaves_are) s.0);
          grounds = subst (All (λ (leaf : KeptLeaf). IsGroundIn p.election leaf.start)) (sym now_is) (all-put_at place (λ (leaf : KeptLeaf). IsGroundIn p.election leaf.start) kids kept are.grounds running.grounds);
          within = (let room = grows.room in omega (arith, size_after, count, room));
        }

    pub nearer : distance p.budget after now < distance p.budget tree kept
    nearer =
        let room = grows.room in
        let long = length-map kept leaf_of in
        let longer = length-map now leaf_of in
        let same = ap (λ (l : List Leaf). length l) leaves_are in
        measure_falls p.budget (size tree) (size after) (length kept) (length now) (length (leaves_of kids)) size_after (omega (arith, sizes.1, long, longer, same)) (omega (arith, size_after, count, room))
