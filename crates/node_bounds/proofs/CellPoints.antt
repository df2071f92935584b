-- The points of a node lie in the ranges that its limits leave the variables; so a cell has one point at most, and its
-- ceiling is what that costs.
use Rattle.std.proofs.Common.{◌≡◌, ℕ, zero, suc, ◌+◌, ◌-◌, ◌*◌, ◌<◌, ◌≤◌, List, [], ◌∷◌, ◌++◌, true, false, cond, length, get_or, map, refl, sym, ap, subst, ◌∙◌, inl, inr, arith, All}
use Rattle.std.specs.Prelude.{Contains, ℤ, pos, ◌+ℤ◌, ◌-ℤ◌, ◌*ℤ◌, ◌≤ℤ◌}
use Rattle.std.specs.List.{list_any}
use Rattle.std.proofs.Math.IntN.{negsuc}
use Rattle.std.proofs.lemmas.Bool.{cases_Bool, cases_lt}
use Rattle.std.proofs.lemmas.Int.{ints}
use Rattle.std.proofs.lemmas.List.{ext_get_or, get_or-append_right, get_or_append_left, length-append, length-map}
use Rattle.mov_base.specs.Sums.{add_up, sum_z}
use Rattle.mov_base.proofs.Signed.{distrib, sum_z-scale}
use Rattle.row_program.specs.Forms.{empty_row}
use Rattle.row_program.specs.Points.{IsLexAtMost, cost_of, row_value, term_value}
use Rattle.row_program.specs.declared.Feature.{Feature}
use Rattle.row_program.specs.declared.Feature.TheVariants.{From, Arc}
use Rattle.row_program.specs.declared.Limit.{Limit}
use Rattle.row_program.specs.declared.program.Row.{Row}
use Rattle.row_program.specs.declared.program.Term.{Term}
use Rattle.sig_graph.specs.Flows.{flow_at}
use Rattle.sig_graph.specs.Paths.{arcs_of}
use Rattle.sig_graph.proofs.ArcNumbers.{IsArc, arc_of, length-arcs_of}
use Rattle.sig_graph.proofs.Splits.{flow_at-le}
use Rattle.goal_rows.specs.Cells.{IsCell, Variable, cell_values, high_end, low_end, same_feature, variables_of}
use Rattle.goal_rows.specs.Elections.{Election}
use Rattle.goal_rows.specs.Nodes.{node_of}
use Rattle.goal_rows.specs.Programs.{IsPointOf, arcs_under, class_rows_of, costs_of, flow_rows_of, goal_rows_of, limit_rows_of, one_more_in, point_cost_of, program_rows, row_by, value_before}
use Rattle.goal_rows.specs.Races.{IsGroundIn, IsGroundOf}
use Rattle.goal_rows.specs.declared.goals.Goal.{Goal}
use Rattle.goal_rows.specs.declared.goals.Goal.TheVariants.{Root, Suffix, Pair, Cover}
use Rattle.goal_rows.specs.declared.parts.Ground.{Ground}
use Rattle.goal_rows.proofs.SuffixRows.{all_back}
use Rattle.dual_bound.specs.CellCuts.{above_none, features_of, same_limit}
use Rattle.dual_bound.specs.CellParts.{variable}
use Rattle.dual_bound.specs.Sizes.{places_of}
use Rattle.dual_bound.specs.Weighing.{times_all}
use Rattle.dual_bound.proofs.CellBreaks.{times_parts, two_parts}
use Rattle.dual_bound.proofs.CellCovers.{at_of, with_goal}
use Rattle.dual_bound.proofs.CellFeatures.{count, counted_once}
use Rattle.dual_bound.proofs.CellFlows.{any_passes}
use Rattle.dual_bound.proofs.CellHolds.{arc_part, key_part, part_is}
use Rattle.dual_bound.proofs.CellRowValues.{weight_on, weights_are, weights_over}
use Rattle.dual_bound.proofs.CellVariables.{values_count, variables_are, variables_count}
use Rattle.dual_bound.proofs.GivenLimits.{high_or_limit, low_or_limit, same_feature_on, same_limit_is}
use Rattle.dual_bound.proofs.Pairwise.{zip_none}
use Rattle.dual_bound.proofs.SideBySide.{minus_inside, times_same}
use Rattle.node_bounds.specs.Ceilings.{HasNoNodePoint, IsCeiling}
use Rattle.node_bounds.proofs.CeilingCuts.{ground_is}
use Rattle.node_bounds.proofs.CeilingSizes.{all_ballots}
use Rattle.node_bounds.proofs.PointValues.{all_front, apart, cost_is, rest_met}
use Rattle.node_bounds.proofs.RestRows.{IsMetAt, classes_within, rows_make_flow, within_at}
use Rattle.node_bounds.proofs.RowValues.{AreNumbersOf, row_by_value, rows_kept}

-- ---- a row that counts one variable

-- what is counted of one feature
abbrev counted_of : Feature → ℤ → Feature → ℤ
counted_of g c f = cond (same_feature f g) c (pos 0)

none_of : (features : List Feature) (whole : List ℕ) (g : Feature) (c : ℤ) → count features g ≡ 0 → times_all whole (map (counted_of g c) features) ≡ pos 0
none_of [] whole g c none = zip_none (λ v. pos v.0 *ℤ v.1) whole
none_of (f ∷ features) [] g c none = refl
none_of (f ∷ features) (x ∷ whole) g c none = elim (cases_Bool (same_feature f g)) [
  | inl on ↦ absurd (let one = ap {B = ℕ} (λ b. cond b 1 0) on in omega (arith, one, none))
  | inr off ↦
      let no = ap {B = ℕ} (λ b. cond b 1 0) off in
      let rest = none_of features whole g c (omega (arith, no, none)) in
      let here = ap (λ b. pos x *ℤ cond b c (pos 0)) off in
      omega (arith, ints, here, rest)
]

-- a feature that stands somewhere is counted
some_there : (features : List Feature) (g : Feature) (k : ℕ) → k < length features → get_or features k g ≡ g → 1 ≤ count features g
some_there [] g k lt at = absurd (omega (arith, lt))
some_there (f ∷ features) g zero lt at =
    let on = ap {B = ℕ} (λ b. cond b 1 0) (subst (λ h. same_feature h g ≡ true) (sym at) (same_feature_on g)) in
    omega (arith, on)
some_there (f ∷ features) g (suc k) lt at = let rest = some_there features g k (omega (arith, lt)) at in omega (arith, rest)

alone : (features : List Feature) (whole : List ℕ) (g : Feature) (c : ℤ) (k : ℕ) → count features g ≡ 1 → k < length features → get_or features k g ≡ g → length whole ≡ length features
    → times_all whole (map (counted_of g c) features) ≡ pos (get_or whole k 0) *ℤ c
alone [] whole g c k once lt at long = absurd (omega (arith, lt))
alone (f ∷ features) [] g c k once lt at long = absurd (omega (arith, long))
alone (f ∷ features) (x ∷ whole) g c zero once lt at long =
    let on = subst (λ h. same_feature h g ≡ true) (sym at) (same_feature_on g) in
    let one = ap {B = ℕ} (λ b. cond b 1 0) on in
    let rest = none_of features whole g c (omega (arith, one, once)) in
    let here = ap (λ b. pos x *ℤ cond b c (pos 0)) on in
    omega (arith, ints, here, rest)
alone (f ∷ features) (x ∷ whole) g c (suc k) once lt at long = elim (cases_Bool (same_feature f g)) [
  | inl on ↦ absurd (let one = ap {B = ℕ} (λ b. cond b 1 0) on in let some = some_there features g k (omega (arith, lt)) at in omega (arith, one, some, once))
  | inr off ↦
      let no = ap {B = ℕ} (λ b. cond b 1 0) off in
      let rest = alone features whole g c k (omega (arith, no, once)) (omega (arith, lt)) at (omega (arith, long)) in
      let here = ap (λ b. pos x *ℤ cond b c (pos 0)) off in
      omega (arith, ints, here, rest)
]

-- the row of a limit on the variable k
limit_at : (e : Election) (start : Ground) (l : Limit) (whole : List ℕ) (den k : ℕ) → IsGroundOf e start → k < length (features_of start) → get_or (features_of start) k l.feature ≡ l.feature
    → length whole ≡ length (features_of start)
    → row_value (row_by (value_before l) (weights_over start (key_part l) (arc_part l))) whole den ≡ (pos den *ℤ value_before l) +ℤ (pos (get_or whole k 0) *ℤ one_more_in l)
limit_at e start l whole den k values lt at long =
    let features = features_of start in
    let weight = weight_on (key_part l) (arc_part l) in
    let many = length-map features weight in
    ap (λ ws. row_value (row_by (value_before l) ws) whole den) (weights_are (key_part l) (arc_part l) start)
    ∙ row_by_value (value_before l) (map weight features) whole den (omega (arith, many, long))
    ∙ ap (λ z. (pos den *ℤ value_before l) +ℤ z)
    (times_same weight (counted_of l.feature (one_more_in l)) whole features (part_is l)
    ∙ alone features whole l.feature (one_more_in l) k (counted_once e start l.feature values (k, lt, at)) lt at long)

-- ---- the ends without limits

-- no arc has more than are replaced
flow_within : (start : Ground) (goal : Goal) (xs ys : List ℕ) (den u x : ℕ) → AreNumbersOf (with_goal start goal) xs ys → All (IsMetAt (xs ++ ys) den) (flow_rows_of (with_goal start goal))
    → u < x → x ≤ places_of goal → flow_at (places_of goal) ys u x ≤ add_up (λ y. y) xs
flow_within start Root xs ys den u x are met begins ends = absurd (omega (arith, begins, ends))
flow_within start (Suffix suffix) xs ys den u x are met begins ends =
    flow_at-le (length suffix) ys (add_up (λ y. y) xs) (rows_make_flow suffix start.classes xs ys den are met) u x begins ends
flow_within start (Pair g l) xs ys den u x are met begins ends = absurd (omega (arith, begins, ends))
flow_within start (Cover c) xs ys den u x are met begins ends = absurd (omega (arith, begins, ends))

-- the number of an arc, by its place
arc_number : (m : ℕ) (ys : List ℕ) (j n : ℕ) (arc : IsArc m j) → flow_at m ys arc.from arc.to ≤ n → get_or ys j 0 ≤ n
arc_number m ys j n arc le = subst (λ i. get_or ys i 0 ≤ n) arc.is le

module _ (e : Election) (start : Ground) (limits : List Limit) (whole : List ℕ) (den : ℕ) (is : IsGroundIn e start) (point : IsPointOf start limits whole den) where
  ends_met : (k : ℕ) (d : Variable) → k < length (variables_of start) → get_or whole k 0 ≤ (get_or (variables_of start) k d).end * den
  ends_met k d lt =
      let m = places_of start.goal in
      let parts = apart start whole point.all_variables in
      let xs = parts.xs in
      let ys = parts.ys in
      let met = rest_met start limits (xs ++ ys) den (subst (λ w. All (IsMetAt w den) (program_rows start limits)) parts.is point.meets) in
      let class_of : ℕ × ℕ → Variable = λ c. variable (From c.0) c.1 in
      let arc_at : ℕ × ℕ → Variable = λ a. variable (Arc a.0 a.1) start.ballots in
      let front = map class_of start.classes in
      let back = map arc_at (arcs_of m) in
      let long = length-map start.classes class_of in
      let many = length-map (arcs_of m) arc_at in
      let both = length-append front back in
      let count = ap length (variables_are start) in
      let value = ap (λ w. get_or w k 0) parts.is in
      let at = ap (λ vs. get_or vs k d) (variables_are start) in
      elim (cases_lt k (length start.classes)) [
        | inl low ↦
            let within = within_at den start.classes xs k (classes_within start.classes xs ys den met.0) low (omega (arith, low, parts.numbers.of_classes)) in
            let here = get_or_append_left xs ys 0 k (omega (arith, low, parts.numbers.of_classes)) in
            let is_class = at ∙ get_or_append_left front back d k (omega (arith, low, long)) ∙ at_of class_of start.classes k d (0, 0) low in
            let end = ap (λ (v : Variable). v.end) is_class in
            let product = ap (λ n. n * den) end in
            omega (arith, within, here, value, product)
        | inr past ↦
            let j = k - length start.classes in
            let inside : j < length (arcs_of m) = omega (arith, lt, count, both, long, many, past) in
            let all = length-arcs_of m in
            let arc = arc_of m j (omega (arith, inside, all)) in
            let flow = flow_within start start.goal xs ys den arc.from arc.to parts.numbers met.1 arc.begins arc.ends in
            let number = arc_number m ys j (add_up (λ y. y) xs) arc flow in
            let few = all_ballots e start limits whole den is point in
            let cost = ap (point_cost_of start) parts.is ∙ cost_is start xs ys parts.numbers in
            let here = get_or-append_right xs ys (length start.classes) k 0 parts.numbers.of_classes past in
            let is_arc = at ∙ get_or-append_right front back (length start.classes) k d long past ∙ at_of arc_at (arcs_of m) j d (0, 0) inside in
            let end = ap (λ (v : Variable). v.end) is_arc in
            let product = ap (λ n. n * den) (end ∙ is.values.ballots) in
            omega (arith, number, few, cost, here, value, product)
      ]

  -- ---- limits

  limits_met : All (IsMetAt whole den) (limit_rows_of start limits)
  limits_met =
      let met = IsMetAt whole den in
      let kept = all_front met (goal_rows_of start ++ limit_rows_of start limits) (class_rows_of start.classes ++ flow_rows_of start) (subst (All met) (rows_kept start limits) point.meets) in
      all_back met (goal_rows_of start) (limit_rows_of start limits) kept

  limit_met : (l : Limit) → Contains limits l → IsMetAt whole den (row_by (value_before l) (weights_over start (key_part l) (arc_part l)))
  limit_met l there =
      let make : Limit → Row = λ limit. row_by (value_before limit) (weights_over start (key_part limit) (arc_part limit)) in
      let long = length-map limits make in
      let row = at_of make limits there.0 empty_row l there.1 ∙ ap make there.2 in
      subst (IsMetAt whole den) row (limits_met there.0 empty_row (omega (arith, there.1, long)))

  -- a limit that stands is met by the variable that it is on
  standing : (l : Limit) (k : ℕ) → list_any (same_limit l) limits ≡ true → k < length (features_of start) → get_or (features_of start) k l.feature ≡ l.feature
      → pos 0 ≤ℤ ((pos den *ℤ value_before l) +ℤ (pos (get_or whole k 0) *ℤ one_more_in l))
  standing l k on lt at =
      let some = any_passes (same_limit l) limits on in
      let there : Contains limits l = subst (Contains limits) (sym (same_limit_is l some.0 some.2)) some.1 in
      let long = values_long start whole point.all_variables in
      subst (λ z. pos 0 ≤ℤ z) (limit_at e start l whole den k is.values lt at long) (limit_met l there)
    where
      values_long : (start : Ground) (whole : List ℕ) → length whole ≡ length (costs_of start.classes (arcs_under start.goal)) → length whole ≡ length (features_of start)
      values_long start whole all =
          let a = variables_count start in
          let b = length-map (variables_of start) (λ (v : Variable). v.feature) in
          omega (arith, all, a, b)

  -- ---- ranges

  -- the feature of a variable stands at its place
  feature_there : (k : ℕ) (d : Variable) → k < length (variables_of start)
      → (k < length (features_of start)) × (get_or (features_of start) k (get_or (variables_of start) k d).feature ≡ (get_or (variables_of start) k d).feature)
  feature_there k d lt =
      let vs = variables_of start in
      let n = length-map vs (λ (v : Variable). v.feature) in
      (omega (arith, lt, n), at_of (λ (v : Variable). v.feature) vs k (get_or vs k d).feature d lt)

  low_kept : (k : ℕ) (d : Variable) → k < length (variables_of start) → low_end limits (get_or (variables_of start) k d).feature * den ≤ get_or whole k 0
  low_kept k d lt =
      let f = (get_or (variables_of start) k d).feature in
      let at = feature_there k d lt in
      elim (low_or_limit limits f) [
        | inl none ↦ let z = ap (λ n. n * den) none in omega (arith, z)
        | inr on ↦ at_least den (low_end limits f) (get_or whole k 0) (standing (record { feature = f; at_most = false; value = low_end limits f }) k on at.0 at.1)
      ]
    where
      at_least : (den low x : ℕ) → pos 0 ≤ℤ ((pos den *ℤ (pos 0 -ℤ pos low)) +ℤ (pos x *ℤ pos 1)) → low * den ≤ x
      at_least den low x le = let m = minus_inside den (pos 0) (pos low) in omega (arith, ints, le, m)

  high_kept : (k : ℕ) (d : Variable) → k < length (variables_of start) → get_or whole k 0 ≤ high_end limits (get_or (variables_of start) k d) * den
  high_kept k d lt =
      let v = get_or (variables_of start) k d in
      let at = feature_there k d lt in
      elim (high_or_limit limits v) [
        | inl end ↦ let e = ap (λ n. n * den) end in omega (arith, e, ends_met k d lt)
        | inr on ↦ at_most den (high_end limits v) (get_or whole k 0) (standing (record { feature = v.feature; at_most = true; value = high_end limits v }) k on at.0 at.1)
      ]
    where
      at_most : (den high x : ℕ) → pos 0 ≤ℤ ((pos den *ℤ pos high) +ℤ (pos x *ℤ (pos 0 -ℤ pos 1))) → x ≤ high * den
      at_most den high x le = let m = minus_inside x (pos 0) (pos 1) in omega (arith, ints, le, m)

-- the number of a variable lies between the ends that the limits leave it, times the denominator
pub ranges_at : (e : Election) (start : Ground) (limits : List Limit) (whole : List ℕ) (den : ℕ) → IsGroundIn e start → IsPointOf start limits whole den
    → (k : ℕ) (d : Variable) → k < length (variables_of start)
    → (low_end limits (get_or (variables_of start) k d).feature * den ≤ get_or whole k 0) × (get_or whole k 0 ≤ high_end limits (get_or (variables_of start) k d) * den)
ranges_at e start limits whole den is point k d lt = (low_kept e start limits whole den is point k d lt, high_kept e start limits whole den is point k d lt)

times_less : (low high den : ℕ) → 1 ≤ den → low * den ≤ high * den → low ≤ high
times_less low high den some le = elim (cases_lt high low) [
  | inl less ↦
      let whole : low ≡ high + suc (low - suc high) = omega (arith, less) in
      let product : low * den ≡ high * den + (den + (low - suc high) * den) = ap (λ n. n * den) whole ∙ omega arith in
      absurd (omega (arith, product, le, some))
  | inr more ↦ more
]

-- where there is a point, the limits leave each variable a value
pub between_ends : (e : Election) (start : Ground) (limits : List Limit) (whole : List ℕ) (den : ℕ) → IsGroundIn e start → IsPointOf start limits whole den
    → All (λ v. low_end limits v.feature ≤ high_end limits v) (variables_of start)
between_ends e start limits whole den is point k d lt =
    let range = ranges_at e start limits whole den is point k d lt in
    let v = get_or (variables_of start) k d in
    times_less (low_end limits v.feature) (high_end limits v) den point.positive (omega (arith, range.0, range.1))

-- ---- numbers times a denominator

-- the values over 1, over another denominator
abbrev pub scaled : ℕ → List ℕ → List ℕ
scaled den values = map (λ value. value * den) values

pub scaled_at : (den : ℕ) (values : List ℕ) (k : ℕ) → get_or (scaled den values) k 0 ≡ get_or values k 0 * den
scaled_at den [] k = omega arith
scaled_at den (x ∷ values) zero = refl
scaled_at den (x ∷ values) (suc k) = scaled_at den values k

scaled_times : (z : ℤ) (p den : ℕ) → z *ℤ pos (p * den) ≡ pos den *ℤ (z *ℤ pos p)
scaled_times z p den = by (above_none z) (above_none (pos 0 -ℤ z)) (two_parts z)
  where
    by : (r f : ℕ) → z ≡ pos r -ℤ pos f → z *ℤ pos (p * den) ≡ pos den *ℤ (z *ℤ pos p)
    by r f is =
        let one = times_parts z r f (p * den) is in
        let two = ap (λ y. pos den *ℤ y) (times_parts z r f p is) in
        let apart = minus_inside den (pos (r * p)) (pos (f * p)) in
        let rise : r * (p * den) ≡ den * (r * p) = omega arith in
        let fall : f * (p * den) ≡ den * (f * p) = omega arith in
        omega (arith, ints, one, two, apart, rise, fall)

scaled_terms : (den : ℕ) (values : List ℕ) (terms : List Term) → sum_z (term_value (scaled den values)) terms ≡ pos den *ℤ sum_z (term_value values) terms
scaled_terms den values terms = by terms ∙ sum_z-scale den (term_value values) terms
  where
    by : (ts : List Term) → sum_z (term_value (scaled den values)) ts ≡ sum_z (λ t. pos den *ℤ term_value values t) ts
    by [] = refl
    by (t ∷ ts) =
        let here = ap (λ n. t.times *ℤ pos n) (scaled_at den values t.variable) ∙ scaled_times t.times (get_or values t.variable 0) den in
        let rest = by ts in
        omega (arith, ints, here, rest)

-- a row there is its value at the values over 1, times the denominator
pub scaled_row : (den : ℕ) (values : List ℕ) (row : Row) → row_value row (scaled den values) den ≡ pos den *ℤ row_value row values 1
scaled_row den values row =
    let terms = scaled_terms den values row.terms in
    let first = scaled_times row.constant 1 den in
    let one : 1 * den ≡ den = omega arith in
    let constant = ap (λ n. row.constant *ℤ pos n) one in
    let apart = distrib den (row.constant *ℤ pos 1) (sum_z (term_value values) row.terms) in
    omega (arith, ints, terms, first, constant, apart)

-- a number isn't below 0 where so many times it isn't
pub not_below : (den : ℕ) (z : ℤ) → 1 ≤ den → pos 0 ≤ℤ (pos den *ℤ z) → pos 0 ≤ℤ z
not_below den (pos n) some le = omega (arith, ints)
not_below zero (negsuc n) some le = absurd (omega (arith, some))
not_below (suc d) (negsuc n) some le =
    let below : negsuc n ≡ pos 0 -ℤ pos (suc n) = omega (arith, ints) in
    let apart = minus_inside (suc d) (pos 0) (pos (suc n)) in
    let same = ap (λ z. pos (suc d) *ℤ z) below in
    let some_more : suc d * suc n ≡ suc (n + d * suc n) = omega arith in
    absurd (omega (arith, ints, le, same, apart, some_more))

scaled_cost : (den : ℕ) (costs values : List ℕ) → cost_of costs (scaled den values) ≡ cost_of costs values * den
scaled_cost den [] values = omega arith
scaled_cost den (c ∷ costs) [] = omega arith
scaled_cost den (c ∷ costs) (x ∷ values) =
    let rest = scaled_cost den costs values in
    let here : c * (x * den) ≡ c * x * den = omega arith in
    let both : (c * x + cost_of costs values) * den ≡ c * x * den + cost_of costs values * den = omega arith in
    omega (arith, rest, here, both)

-- ---- cells

module _ (e : Election) (start : Ground) (limits : List Limit) (is : IsGroundIn e start) (cell : IsCell start limits) where
  -- the numbers of a cell's point are the values that its limits leave, times the denominator
  pub cell_scaled : (whole : List ℕ) (den : ℕ) → IsPointOf start limits whole den → whole ≡ scaled den (cell_values start limits)
  cell_scaled whole den point =
      let vs = variables_of start in
      let values = cell_values start limits in
      let d = variable (From 0) 0 in
      let n = length-map values (λ value. value * den) in
      let m = variables_count start in
      ext_get_or 0 whole (scaled den values) (omega (arith, n, point.all_variables, values_count start limits)) (λ k within.
      let lt : k < length vs = omega (arith, within, m, point.all_variables) in
      let range = ranges_at e start limits whole den is point k d lt in
      let fixed = ap (λ x. x * den) (cell.one_value k d lt) in
      let value = ap (λ x. x * den) (at_of (λ (v : Variable). low_end limits v.feature) vs k 0 d lt) in
      omega (arith, range.0, range.1, fixed, value, scaled_at den values k))

  -- where it has one, its values are a point
  pub cell_values_met : (whole : List ℕ) (den : ℕ) → IsPointOf start limits whole den → IsPointOf start limits (cell_values start limits) 1
  cell_values_met whole den point = record {
    all_variables = values_count start limits;
    positive = omega arith;
    meets = λ k d lt.
        let values = cell_values start limits in
        let row = get_or (program_rows start limits) k d in
        let there = subst (λ w. pos 0 ≤ℤ row_value row w den) (cell_scaled whole den point) (point.meets k d lt) in
        not_below den (row_value row values 1) point.positive (subst (λ z. pos 0 ≤ℤ z) (scaled_row den values row) there);
  }

  -- each point costs what the values cost, times its denominator
  pub cell_point_cost : (whole : List ℕ) (den : ℕ) → IsPointOf start limits whole den → point_cost_of start whole ≡ point_cost_of start (cell_values start limits) * den
  cell_point_cost whole den point =
      ap (point_cost_of start) (cell_scaled whole den point) ∙ scaled_cost den (costs_of start.classes (arcs_under start.goal)) (cell_values start limits)

  -- and none comes before them
  pub cell_point_first : (whole : List ℕ) (den : ℕ) → IsPointOf start limits whole den → IsLexAtMost (cell_values start limits) 1 whole den
  cell_point_first whole den point = subst (λ w. IsLexAtMost (cell_values start limits) 1 w den) (sym (cell_scaled whole den point)) (by (cell_values start limits))
    where
      by : (xs : List ℕ) → IsLexAtMost xs 1 (scaled den xs) den
      by [] = tt
      by (x ∷ xs) = inr (omega arith, by xs)

  -- ---- its ceiling

  pub ceiling_met : IsPointOf start limits (cell_values start limits) 1 → IsCeiling e (node_of start limits) (point_cost_of start (cell_values start limits))
  ceiling_met met =
      let values = cell_values start limits in
      let same = ground_is e start is in
      let cost : point_cost_of start values ≤ point_cost_of start values * 1 = omega arith in
      record {
        reached = inl (values, 1, subst (λ own. IsPointOf own limits values 1) same met, subst (λ own. point_cost_of own values ≤ point_cost_of start values * 1) same cost);
        least = λ u some.
            let point = subst (λ own. IsPointOf own limits some.0 some.1) (sym same) some.2 in
            let within : point_cost_of start some.0 ≤ u * some.1 = subst (λ own. point_cost_of own some.0 ≤ u * some.1) (sym same) some.3 in
            let whole = cell_point_cost some.0 some.1 point in
            times_less (point_cost_of start values) u some.1 point.positive (omega (arith, within, whole));
      }

  pub ceiling_broken : (IsPointOf start limits (cell_values start limits) 1 → ⊥) → IsCeiling e (node_of start limits) (length e.poll.ballots + 1)
  ceiling_broken never =
      let none : HasNoNodePoint e (node_of start limits) = λ whole den point.
      never (cell_values_met whole den (subst (λ own. IsPointOf own limits whole den) (sym (ground_is e start is)) point)) in
      record { reached = inr (none, refl); least = λ u some. absurd (none some.0 some.1 some.2) }
