-- Where a leaf is branched, from what was found in its numbers; and that its halves keep some value.
use Rattle.std.proofs.Common.{◌≡◌, ℕ, zero, suc, ◌+◌, ◌-◌, ◌*◌, ◌<◌, ◌≤◌, ◌∙◌, List, [], ◌∷◌, All, Option, Some, None, get_or, length, map, refl, sym, ap, subst, arith, inl, inr}
use Rattle.std.specs.Prelude.{Contains, ◌%◌, ◌/◌, slice_get, slice_index}
use Rattle.std.proofs.lemmas.Bool.{cases_lt}
use Rattle.std.proofs.lemmas.List.{get_or_default, length-map}
use Rattle.std.proofs.Math.Nat.{mul-le-mul_right}
use Rattle.std.proofs.lemmas.Nat.{div-add-mod', mod_below}
use Rattle.std.proofs.lemmas.Option.{get_or_from_slice_get, slice_get-get_or, slice_get_within}
use Rattle.ballot_form.specs.declared.limits.TheConstants.{MOST_BALLOTS}
use Rattle.row_program.specs.declared.Feature.{Feature}
use Rattle.row_program.specs.declared.Feature.TheVariants.{From}
use Rattle.row_program.specs.declared.Limit.{Limit}
use Rattle.goal_rows.specs.Cells.{HasFeatures, Variable, high_end, low_end, variables_of}
use Rattle.goal_rows.specs.Elections.{Election, Node}
use Rattle.goal_rows.specs.Nodes.{IsFeatureOf}
use Rattle.goal_rows.specs.Programs.{IsPointOf, arcs_under, costs_of}
use Rattle.goal_rows.specs.Races.{IsGroundIn}
use Rattle.goal_rows.specs.declared.parts.Ground.{Ground}
use Rattle.dual_bound.specs.CellCuts.{features_of}
use Rattle.dual_bound.proofs.CellEnds.{high_below}
use Rattle.dual_bound.proofs.CellVariables.{variables_count}
use Rattle.node_bounds.specs.Ceilings.{ground_at}
use Rattle.node_bounds.proofs.CeilingCuts.{ground_is}
use Rattle.search_theory.specs.Branchings.{Branching, IsFloor, IsLeastOf, IsMiddle, IsWhole, IsWholeAt, Values, variables_at}
use Rattle.search_theory.specs.Leaves.{HasRanges}
use Rattle.search_leaves.specs.Branched.{IsBranched, IsBranchedAt, IsPartAt, IsWide, IsWideAt, MayBranch}
use Rattle.search_leaves.specs.Kept.{CanHalve, node_at, values_of}
use Rattle.search_leaves.specs.declared.leaves.Leaf.{Leaf as KeptLeaf}
use Rattle.search_leaves.proofs.PointRanges.{IsBetween, one_end, point_between}
use Rattle.search_leaves.proofs.VariableFeatures.{is_feature}
use Rattle.search_leaves.proofs.WholeValues.{part_at, whole_at}

-- the feature of a variable
feature_at : (vs : List Variable) (k : ℕ) (v : Variable) → slice_get vs k ≡ Some v → slice_get (map (λ (v : Variable). v.feature) vs) k ≡ Some v.feature
feature_at [] k v is = absurd (let lt = slice_get_within [] k v is in omega (arith, lt))
feature_at (w ∷ vs) zero v is = let same : w ≡ v = (let e = is in cc) in ap (λ (v : Variable). Some v.feature) same
feature_at (w ∷ vs) (suc k) v is = feature_at vs k v is

variable_of : (vs : List Variable) (k : ℕ) (f : Feature) → slice_get (map (λ (v : Variable). v.feature) vs) k ≡ Some f → (v : Variable) × (slice_get vs k ≡ Some v) × (f ≡ v.feature)
variable_of [] k f is = absurd (let lt = slice_get_within [] k f is in omega (arith, lt))
variable_of (w ∷ vs) zero f is = (w, refl, (let e = is in cc))
variable_of (w ∷ vs) (suc k) f is = variable_of vs k f is

there_at : {A : Type 0} (xs : List A) (k : ℕ) (x : A) → slice_get xs k ≡ Some x → Contains xs x
there_at xs k x is = (k, slice_get_within xs k x is, get_or_from_slice_get xs k x x is)

-- ---- halves

-- a value of which one variable has at least as much and less than its most can halve the node there
halves_at : (e : Election) (node : Node) (start : Ground) (b : Branching) (place : ℕ) (v : Variable) → IsGroundIn e start → start ≡ ground_at e node.goal → HasFeatures node.goal → slice_get (variables_at e node) place ≡ Some v
    → b.feature ≡ v.feature → low_end node.limits v.feature ≤ b.value → b.value < high_end node.limits v → CanHalve e node b
halves_at e node start b place v is same has stands feature low high =
    let there : Contains (map (λ (v : Variable). v.feature) (variables_at e node)) b.feature = there_at _ place b.feature (feature_at (variables_at e node) place v stands ∙ ap Some (sym feature)) in
    let goal : node.goal ≡ start.goal = sym (ap (λ (g : Ground). g.goal) same) in
    let inside : Contains (features_of start) b.feature = subst (λ (g : Ground). Contains (features_of g) b.feature) (sym same) there in
    let ends = one_end e start place v is (subst (λ (g : Ground). slice_get (variables_of g) place ≡ Some v) (sym same) stands) in
    record {
      feature = subst (λ g. IsFeatureOf e g b.feature) (sym goal) (is_feature e start b.feature is (subst HasFeatures goal has) inside);
      on_variable = there;
      small = (let most = high_below node.limits v in omega (arith, high, most, ends.most));
      low = subst (λ f. low_end node.limits f ≤ b.value) (sym feature) low;
      high = λ k d lt also.
          let w = get_or (variables_at e node) k d in
          let alone : w ≡ v = subst (λ (g : Ground). k < length (variables_of g) → (get_or (variables_of g) k d).feature ≡ v.feature → get_or (variables_of g) k d ≡ v) same (ends.alone k d) lt (also ∙ feature) in
          subst (λ w. b.value < high_end node.limits w) (sym alone) high;
    }

-- ---- at a point

-- the floor of a number that isn't whole, between two whole ends
record IsInside (low high floor : ℕ) : Type 0 where
  pub low_le : low ≤ floor
  pub below : floor < high

inside : (low high x den : ℕ) → 1 ≤ den → low * den ≤ x → x ≤ high * den → (x % den ≡ 0 → ⊥) → IsInside low high (x / den)
inside low high x den some le most part =
    let is = div-add-mod' x den in
    let small = mod_below x den (omega (arith, some)) in
    record {
      low_le = elim (cases_lt (x / den) low) [
        | inl less ↦ absurd (let up : (x / den + 1) * den ≤ low * den = mul_le (x / den + 1) low den (omega (arith, less)) in omega (arith, is, small, le, up))
        | inr fine ↦ fine
      ];
      below = elim (cases_lt (x / den) high) [
        | inl less ↦ less
        | inr more ↦ absurd (let up : high * den ≤ x / den * den = mul_le high (x / den) den more in part (omega (arith, is, most, up)))
      ];
    }
  where
    mul_le : (a b d : ℕ) → a ≤ b → a * d ≤ b * d
    mul_le a b d le = mul-le-mul_right d le

half_sum : (low high : ℕ) → low < high → low + (high - low) / 2 ≡ (low + high) / 2
half_sum low high lt = omega (arith, lt)

half_inside : (low high value : ℕ) → low < high → value ≡ low + (high - low) / 2 → (low ≤ value) × (value < high)
half_inside low high value lt is = (omega (arith, lt, is), omega (arith, lt, is))

module _ (e : Election) (leaf : KeptLeaf) (b : Branching) (may : MayBranch e leaf) where
  node : Node
  node = node_at leaf

  same : leaf.start ≡ ground_at e leaf.start.goal
  same = ground_is e leaf.start may.ground

  module _ (q : Values) (least : IsLeastOf e (node_at leaf) q) where
    ranges : (k : ℕ) (v : Variable) → slice_get (variables_of leaf.start) k ≡ Some v → IsBetween leaf.limits.items v (slice_index q.whole k) q.den
    ranges =
        let point = subst (λ (g : Ground). IsPointOf g leaf.limits.items q.whole q.den) (sym same) least.point in
        point_between e leaf.start leaf.limits.items q.whole q.den may.ground point

    numbers_long : length q.whole ≡ length (variables_of leaf.start)
    numbers_long = least.point.all_variables ∙ ap (λ (g : Ground). length (costs_of g.classes (arcs_under g.goal))) (sym same) ∙ sym (variables_count leaf.start)

    -- no number is above what there can be of its variable
    pub numbers_small : All (λ n. n ≤ MOST_BALLOTS * q.den) q.whole
    numbers_small = λ k d lt.
        let vs = variables_of leaf.start in
        let within : k < length vs = omega (arith, lt, numbers_long) in
        let v = get_or vs k (record { feature = From 0; end = 0 }) in
        let stands : slice_get vs k ≡ Some v = slice_get-get_or vs k _ within in
        let between = ranges k v stands in
        let end = one_end e leaf.start k v may.ground stands in
        let high = high_below leaf.limits.items v in
        let most = end.most in
        let up : high_end leaf.limits.items v * q.den ≤ MOST_BALLOTS * q.den = mul-le-mul_right q.den (omega (arith, high, most)) in
        let top = between.high in
        let at = get_or_default q.whole k d 0 lt in
        omega (arith, at, top, up)

    numbers_positive : 1 ≤ q.den
    numbers_positive = least.point.positive

  module _ (q : Values) (least : IsLeastOf e (node_at leaf) q) (is : IsPartAt (features_of leaf.start) q.whole q.den b) where
    found : (v : Variable) × (slice_get (variables_of leaf.start) is.place ≡ Some v) × (b.feature ≡ v.feature)
    found = variable_of (variables_of leaf.start) is.place b.feature is.stands

    stands_there : slice_get (variables_at e (node_at leaf)) is.place ≡ Some found.0
    stands_there = subst (λ (g : Ground). slice_get (variables_of g) is.place ≡ Some found.0) same found.1

    pub at_floor : IsFloor e (node_at leaf) q b
    at_floor = record {
      place = is.place;
      variable = found.0;
      stands = stands_there;
      feature = found.2;
      before = λ k lt. whole_at q k (is.before k lt);
      part = part_at q is.place least.point.positive is.part;
      floor = is.floor;
    }

    pub halves_at_floor : CanHalve e (node_at leaf) b
    halves_at_floor =
        let between = ranges q least is.place found.0 found.1 in
        let ends = inside (low_end leaf.limits.items found.0.feature) (high_end leaf.limits.items found.0) (slice_index q.whole is.place) q.den least.point.positive between.low between.high is.part in
        halves_at e (node_at leaf) leaf.start b is.place found.0 may.ground same may.featured stands_there found.2
        (let le = ends.low_le in let floor = is.floor in omega (arith, le, floor)) (let lt = ends.below in let floor = is.floor in omega (arith, lt, floor))

  module _ (is : IsWideAt (variables_of leaf.start) leaf.limits.items b) where
    wide_there : slice_get (variables_at e (node_at leaf)) is.place ≡ Some is.variable
    wide_there = subst (λ (g : Ground). slice_get (variables_of g) is.place ≡ Some is.variable) same is.stands

    pub in_middle : IsMiddle e (node_at leaf) b
    in_middle = record {
      place = is.place;
      variable = is.variable;
      stands = wide_there;
      feature = is.feature;
      before = λ k other lt at. one_value k other lt at;
      wide = is.wide;
      middle = is.middle ∙ half_sum (low_end leaf.limits.items is.variable.feature) (high_end leaf.limits.items is.variable) is.wide;
    }
      where
        one_value : (k : ℕ) (other : Variable) → k < is.place → slice_get (variables_at e (node_at leaf)) k ≡ Some other → low_end leaf.limits.items other.feature ≡ high_end leaf.limits.items other
        one_value k other lt at =
            let none = is.before k other lt (subst (λ (g : Ground). slice_get (variables_of g) k ≡ Some other) (sym same) at) in
            let some = subst (λ (w : Variable). low_end leaf.limits.items w.feature ≤ high_end leaf.limits.items w) (get_or_from_slice_get _ k other other at) (may.ranges.some k other (slice_get_within _ k other at)) in
            elim (cases_lt (low_end leaf.limits.items other.feature) (high_end leaf.limits.items other)) [
              | inl wide ↦ absurd (none wide)
              | inr le ↦ omega (arith, some, le)
            ]

    pub halves_in_middle : CanHalve e (node_at leaf) b
    halves_in_middle =
        let inside = half_inside (low_end leaf.limits.items is.variable.feature) (high_end leaf.limits.items is.variable) b.value is.wide is.middle in
        halves_at e (node_at leaf) leaf.start b is.place is.variable may.ground same may.featured wide_there is.feature inside.0 inside.1
