-- A cell of a suffix whose values break a row of the flow, and none of the goal: its multipliers cut it at each number.
use Rattle.std.proofs.Common.{◌≡◌, ℕ, zero, suc, ◌+◌, ◌*◌, ◌<◌, ◌≤◌, List, [], ◌∷◌, ◌++◌, Bool, true, false, Some, cond, drop, get_or, length, map, take, ap, refl, subst, sym, ◌∙◌, inl, inr, arith}
use Rattle.std.specs.Prelude.{Contains, ◌==◌, ◌&&◌, ◌||◌, not, nat_lt, int_lt, slice_index, ℤ, pos, ◌+ℤ◌, ◌-ℤ◌, ◌*ℤ◌, ◌≤ℤ◌, ◌<ℤ◌}
use Rattle.std.specs.List.{list_any, range_with_len}
use Rattle.std.proofs.lemmas.Bool.{cases_Bool}
use Rattle.std.proofs.lemmas.Bool.Decides.{nat_tests}
use Rattle.std.proofs.lemmas.Int.{ints}
use Rattle.std.proofs.lemmas.List.{get_or_default, length-map}
use Rattle.std.proofs.lemmas.List.FromFn.{length-range_with_len}
use Rattle.std.proofs.lemmas.List.Quantifiers.{position-Some}
use Rattle.mov_base.specs.Sums.{add_up, sum_z}
use Rattle.mov_base.proofs.Signed.{sum_z-add}
use Rattle.ballot_form.specs.Scores.{is_some_of}
use Rattle.row_program.specs.Forms.{empty_row}
use Rattle.row_program.specs.Points.{row_value}
use Rattle.row_program.specs.declared.Feature.{Feature}
use Rattle.row_program.specs.declared.Feature.TheVariants.{From, Arc}
use Rattle.row_program.specs.declared.Limit.{Limit}
use Rattle.row_program.specs.declared.program.Row.{Row}
use Rattle.row_program.specs.declared.program.Term.{Term}
use Rattle.sig_graph.specs.Paths.{arcs_of, path_arcs}
use Rattle.sig_graph.specs.Rows.{one_where}
use Rattle.goal_rows.specs.Cells.{IsCell, Variable, cell_values, low_end, same_feature, variables_of}
use Rattle.goal_rows.specs.Elections.{Election}
use Rattle.goal_rows.specs.Nodes.{AreLimits, node_of}
use Rattle.goal_rows.specs.Programs.{flow_rows_of, flow_weighings, is_some_weight, program_rows, row_by, term_at, terms_of, weight_of}
use Rattle.goal_rows.specs.Races.{IsGroundIn, key_of, keys_of}
use Rattle.goal_rows.specs.Suffixes.{those}
use Rattle.goal_rows.specs.declared.goals.Goal.TheVariants.{Suffix}
use Rattle.goal_rows.specs.declared.parts.Ground.{Ground}
use Rattle.goal_rows.proofs.Lists.{those_are}
use Rattle.dual_bound.specs.CellCuts.{above_none, case_of, cell_multipliers, classes_in, feature_at, features_of, first_broken, given_each, given_in, has_upper, is_broken, is_unbounded, terms_at, times_on}
use Rattle.dual_bound.specs.CellParts.{IsFixed}
use Rattle.dual_bound.specs.CutTest.{AreMultipliers, IsBound}
use Rattle.dual_bound.specs.declared.cell_cuts.Case.{Case}
use Rattle.dual_bound.specs.declared.cell_cuts.Case.TheVariants.{FlowRow, GoalRow}
use Rattle.dual_bound.specs.Weighing.{base_by, is_arc, is_from, limit_start, limits_bring, of_limits, of_rows, rows_bring, times_all}
use Rattle.dual_bound.proofs.CellBreaks.{at_end, at_none, gain_most, held_base, held_change, is_held_low, is_held_up, left_is, left_on, times_parts, two_parts, weight}
use Rattle.dual_bound.proofs.CellCosts.{AreZeros, by_arc, by_key, cost_none, drop_front, none_times, rows_none, take_front, zeros_times}
use Rattle.dual_bound.proofs.CellCovers.{at_of, below_by, off_row, sums_on, with_goal}
use Rattle.dual_bound.proofs.CellFeatures.{counted_once, key_there}
use Rattle.dual_bound.proofs.CellMultipliers.{row_part}
use Rattle.dual_bound.proofs.CellRowValues.{row_in_cell, sum_z-map, times_are, weight_on, weights_are, weights_over}
use Rattle.dual_bound.proofs.CellSuffixes.{left_cuts, path_brings}
use Rattle.dual_bound.proofs.CellVariables.{on_arc, values_are}
use Rattle.dual_bound.proofs.FlowRows.{IsFlowRow, flow_arc, flow_key, flow_row, flow_row_at, flow_rows_count}
use Rattle.dual_bound.proofs.Exact.{grouped_keys}
use Rattle.dual_bound.proofs.GivenLimits.{and_left, and_right, eq_test, got, kept_at, limits_base, limits_on, lower, upper}
use Rattle.dual_bound.proofs.PathTotals.{path_at_most}

-- ---- sums

-- what is kept of each variable, and what is left of it, is what it brings
held_sum : (kept brings : Feature → ℤ) (left : Feature → ℕ) (vs : List Variable)
    → ((k : ℕ) (d : Variable) → k < length vs → kept (get_or vs k d).feature +ℤ pos (left (get_or vs k d).feature * (get_or vs k d).end) ≡ brings (get_or vs k d).feature)
    → sum_z (λ v. kept v.feature) vs +ℤ pos (add_up (λ v. left v.feature * v.end) vs) ≡ sum_z (λ v. brings v.feature) vs
held_sum kept brings left [] each = omega (arith, ints)
held_sum kept brings left (v ∷ vs) each =
    let here = each 0 v (omega arith) in
    let rest = held_sum kept brings left vs (λ k d lt. each (suc k) d (omega (arith, lt))) in
    omega (arith, ints, here, rest)

-- one that is among them
is_among : (g : Feature → ℕ) (fs : List Feature) (f : Feature) → Contains fs f → g f ≤ add_up g fs
is_among g [] f there = absurd (omega (arith, there.1))
is_among g (h ∷ fs) f (zero, lt, e) = let same = ap g e in omega (arith, same)
is_among g (h ∷ fs) f (suc k, lt, e) = let rest = is_among g fs f (k, omega (arith, lt), e) in omega (arith, rest)

some_times : (r n : ℕ) → 1 ≤ r → n ≤ r * n
some_times zero n some = absurd (omega (arith, some))
some_times (suc r) n some = omega arith

-- ---- one variable

module _ (limits : List Limit) (features : List Feature) (terms : List Term) where
  -- what the second case gives
  abbrev pub second : Bool → Limit → ℕ
  second unbounded = given_in (FlowRow unbounded) features terms

  abbrev pub rise : Feature → ℕ
  rise f = above_none (weight limits features terms f)

  abbrev pub fall : Feature → ℕ
  fall f = above_none (pos 0 -ℤ weight limits features terms f)

  -- its tight lower limit isn't passed over
  abbrev pub is_kept_low : Feature → Bool
  is_kept_low f = is_held_low limits features terms f && not (low_end limits f == 0)

  low_got : (unbounded : Bool) (f : Feature) → got limits (second unbounded) (lower limits (second unbounded) f) [] limits ≡ cond (is_kept_low f) (fall f) 0
  low_got unbounded f = by (is_held_low limits features terms f) (low_end limits f == 0) (fall f)
    where
      by : (b z : Bool) (n : ℕ) → ◌≡◌ {A = ℕ} (cond b (cond z 0 n) 0) (cond (b && not z) n 0)
      by true true n = refl
      by true false n = refl
      by false z n = refl

  none_low : (f : Feature) → is_kept_low f ≡ false → low_end limits f ≡ 0
  none_low f off = elim (cases_Bool (is_held_low limits features terms f)) [
    | inl on ↦ elim (cases_Bool (low_end limits f == 0)) [
      | inl none ↦ eq_test (low_end limits f) 0 none
      | inr some ↦ absurd (let kept : is_kept_low f ≡ true = rw (on, some) refl in let clash : true ≡ false = sym kept ∙ off in cc)
    ]
    | inr out ↦ at_none limits features terms f out
  ]

  -- where upper limits get what the row gives
  base_at : (v : Variable) → IsFixed limits v
      → kept_at limits (second false) [] limits v.feature +ℤ pos (left_on limits features terms v.feature * v.end) ≡ weight limits features terms v.feature *ℤ pos (low_end limits v.feature)
  base_at v fixed =
      let f = v.feature in
      let p = low_end limits f in
      let up = is_held_up limits features terms f in
      let w = weight limits features terms f in
      ap (λ n. (pos (cond up (rise f) 0 * p) -ℤ pos (n * p)) +ℤ pos (cond up 0 (rise f) * v.end)) (low_got false f)
      ∙ held_base up (is_kept_low f) (rise f) (fall f) p v.end w (two_parts w) (at_end limits features terms v fixed) (none_low f)

  change_at : (f : Feature)
      → (weight limits features terms f +ℤ (pos (got limits (second false) (lower limits (second false) f) [] limits) -ℤ pos (got limits (second false) (upper limits (second false) f) [] limits)))
      ≤ℤ pos (left_on limits features terms f)
  change_at f =
      let w = weight limits features terms f in
      let low = low_got false f in
      let change = held_change (is_held_up limits features terms f) (is_kept_low f) (rise f) (fall f) w (two_parts w) in
      omega (arith, ints, low, change)

  -- where they get nothing
  up_none : (f : Feature) → got limits (second true) (upper limits (second true) f) [] limits ≡ 0
  up_none f = by (is_held_up limits features terms f)
    where
      by : (b : Bool) → ◌≡◌ {A = ℕ} (cond b 0 0) 0
      by true = refl
      by false = refl

  low_most : (f : Feature) → got limits (second true) (lower limits (second true) f) [] limits ≤ fall f
  low_most f = let low = low_got true f in let most = by (is_kept_low f) (fall f) in omega (arith, low, most)
    where
      by : (b : Bool) (n : ℕ) → cond b n 0 ≤ n
      by true n = omega arith
      by false n = omega arith

  low_base : (f : Feature) → kept_at limits (second true) [] limits f ≡ pos 0 -ℤ pos (fall f * low_end limits f)
  low_base f =
      let p = low_end limits f in
      ap (λ n. pos (n * p) -ℤ pos (got limits (second true) (lower limits (second true) f) [] limits * p)) (up_none f)
      ∙ ap (λ n. pos (0 * p) -ℤ pos (n * p)) (low_got true f)
      ∙ by (is_kept_low f) (fall f) p (none_low f)
    where
      by : (b : Bool) (n p : ℕ) → (b ≡ false → p ≡ 0) → pos (0 * p) -ℤ pos (cond b n 0 * p) ≡ pos 0 -ℤ pos (n * p)
      by true n p none = omega (arith, ints)
      by false n p none = let z = none refl in let m : n * p ≡ 0 = rw z (omega arith) in omega (arith, ints, m)

  all_low : (fs : List Feature) → sum_z (kept_at limits (second true) [] limits) fs ≡ pos 0 -ℤ pos (add_up (λ f. fall f * low_end limits f) fs)
  all_low [] = refl
  all_low (f ∷ fs) = let here = low_base f in let rest = all_low fs in omega (arith, ints, here, rest)

  -- what the row rises by the values, and what it falls
  both_ways : (fs : List Feature) → sum_z (λ f. weight limits features terms f *ℤ pos (low_end limits f)) fs
      ≡ pos (add_up (λ f. rise f * low_end limits f) fs) -ℤ pos (add_up (λ f. fall f * low_end limits f) fs)
  both_ways [] = refl
  both_ways (f ∷ fs) =
      let w = weight limits features terms f in
      let here = times_parts w (rise f) (fall f) (low_end limits f) (two_parts w) in
      let rest = both_ways fs in
      omega (arith, ints, here, rest)

-- ---- terms

pub any_passes : {A : Type 0} (test : A → Bool) (xs : List A) → list_any test xs ≡ true → (x : A) × Contains xs x × (test x ≡ true)
any_passes test [] on = absurd (let clash : false ≡ true = on in cc)
any_passes test (x ∷ xs) on = elim (cases_Bool (test x)) [
  | inl here ↦ (x, (0, omega arith, refl), here)
  | inr off ↦
      let rest = any_passes test xs (sym (ap (λ b. b || list_any test xs) off) ∙ on) in
      (rest.0, (suc rest.1.0, omega (arith, rest.1.1), rest.1.2), rest.2)
]

-- a term of a row is of a variable, and multiplies it by its weight
term_there : (ws : List ℤ) (t : Term) → Contains (terms_of ws) t → (t.variable < length ws) × (t.times ≡ weight_of ws t.variable)
term_there ws t there =
    let test : ℕ → Bool = λ v. is_some_weight (weight_of ws v) in
    let vs = those (length ws) test in
    let long = length-map vs (term_at ws) in
    let lt : there.0 < length vs = omega (arith, there.1, long) in
    let v = get_or vs there.0 0 in
    let same : term_at ws v ≡ t = sym (at_of (term_at ws) vs there.0 t 0 lt) ∙ there.2 in
    let is = those_are (length ws) v test (there.0, lt, get_or_default vs there.0 v 0 lt) in
    let number : v ≡ t.variable = ap (λ (u : Term). u.variable) same in
    let times : weight_of ws v ≡ t.times = ap (λ (u : Term). u.times) same in
    (omega (arith, is.0, number), sym times ∙ ap (weight_of ws) number)

-- ---- a broken row of the flow

no_row : (r a n : ℕ) → a + n ≤ r → AreZeros (map (λ k. one_where (is_some_of (Some r) k)) (range_with_len a n))
no_row r a zero past = tt
no_row r a (suc n) past = (off_row r a (λ e. omega (arith, e, past)), no_row r (a + 1) n (omega (arith, past)))

case_is : (start : Ground) (limits : List Limit) (r : ℕ) (terms : List Term) → length start.sums ≤ r → case_of start limits (Some r) terms ≡ FlowRow (list_any (is_unbounded start limits) terms)
case_is start limits r terms past =
    let t : nat_lt r (length start.sums) ≡ false = grind (arith, nat_tests) in
    ap (λ b. cond b GoalRow (FlowRow (list_any (is_unbounded start limits) terms))) t

-- a row with these counts
abbrev flow_by : Ground → (ℕ → ℤ) → (ℕ × ℕ → ℤ) → Row
flow_by start key arc = row_by (pos 0) (weights_over start key arc)

module _ (e : Election) (start : Ground) (limits : List Limit) (r : ℕ) (key : ℕ → ℤ) (arc : ℕ × ℕ → ℤ) (is : IsGroundIn e start) (cell : IsCell start limits) (broken : first_broken start limits ≡ Some r) (past : length start.sums ≤ r) (row : get_or (program_rows start limits) r empty_row ≡ flow_by start key arc) where
  abbrev pub row_terms : List Term
  row_terms = terms_at (program_rows start limits) (Some r)

  abbrev pub is_open : Bool
  is_open = list_any (is_unbounded start limits) row_terms

  abbrev pub gives : Bool → Limit → ℕ
  gives unbounded = second limits (features_of start) row_terms unbounded

  parts_are : (unbounded : Bool) → is_open ≡ unbounded → cell_multipliers start limits ≡ row_part (length start.sums) (Some r) ++ given_each limits (gives unbounded) [] limits
  parts_are unbounded on =
      ap (λ o. row_part (length start.sums) o ++ given_each limits (given_in (case_of start limits o (terms_at (program_rows start limits) o)) (features_of start) (terms_at (program_rows start limits) o)) [] limits) broken
      ∙ ap (λ (c : Case). row_part (length start.sums) (Some r) ++ given_each limits (given_in c (features_of start) row_terms) [] limits) (case_is start limits r row_terms past ∙ ap FlowRow on)

  long_part : length (row_part (length start.sums) (Some r)) ≡ length start.sums
  long_part = length-map (range_with_len 0 (length start.sums)) (λ k. one_where (is_some_of (Some r) k)) ∙ length-range_with_len 0 (length start.sums)

  rows_zero : (unbounded : Bool) → is_open ≡ unbounded → AreZeros (of_rows start (cell_multipliers start limits))
  rows_zero unbounded on =
      let front = row_part (length start.sums) (Some r) in
      let are = ap (take (length start.sums)) (parts_are unbounded on) ∙ take_front front (given_each limits (gives unbounded) [] limits) (length start.sums) long_part in
      subst AreZeros (sym are) (no_row r 0 (length start.sums) (omega (arith, past)))

  limits_are : (unbounded : Bool) → is_open ≡ unbounded → of_limits start (cell_multipliers start limits) ≡ given_each limits (gives unbounded) [] limits
  limits_are unbounded on =
      ap (drop (length start.sums)) (parts_are unbounded on) ∙ drop_front (row_part (length start.sums) (Some r)) (given_each limits (gives unbounded) [] limits) (length start.sums) long_part

  terms_are : row_terms ≡ terms_of (map (weight_on key arc) (features_of start))
  terms_are = ap (λ (x : Row). x.terms) row ∙ ap terms_of (weights_are key arc start)

  -- the terms multiply each variable by what the row counts for it
  weight_is : (f : Feature) → Contains (features_of start) f → weight limits (features_of start) row_terms f ≡ weight_on key arc f
  weight_is f there = ap (times_on (features_of start) f) terms_are ∙ times_are (weight_on key arc) (features_of start) f there

  -- the row at the values
  row_low : sum_z (λ f. weight limits (features_of start) row_terms f *ℤ pos (low_end limits f)) (features_of start) <ℤ pos 0
  row_low =
      let features = features_of start in
      let below = below_by (row_value (get_or (program_rows start limits) r empty_row) (cell_values start limits) 1) (position-Some (is_broken (cell_values start limits)) (program_rows start limits) r empty_row broken).1 in
      let value = ap (λ (x : Row). row_value x (cell_values start limits) 1) row ∙ row_in_cell (pos 0) key arc start limits in
      let same = sums_on (λ f. weight limits features row_terms f *ℤ pos (low_end limits f)) (λ f. weight_on key arc f *ℤ pos (low_end limits f)) features (λ f there. ap (λ z. z *ℤ pos (low_end limits f)) (weight_is f there)) in
      omega (arith, ints, below, value, same)

  -- the value before any replacement is what is kept of the variables
  base_is : (unbounded : Bool) → is_open ≡ unbounded → base_by start limits (cell_multipliers start limits) ≡ sum_z (kept_at limits (gives unbounded) [] limits) (features_of start)
  base_is unbounded on =
      let one = zeros_times (λ v. pos v.0 *ℤ v.1) (of_rows start (cell_multipliers start limits)) start.sums none_times (rows_zero unbounded on) in
      let once = λ (k : ℕ) (d : Limit) (lt : k < length limits). counted_once e start (get_or limits k d).feature is.values (cell.on_variables k d lt) in
      let two = ap (λ xs. times_all xs (map limit_start limits)) (limits_are unbounded on) ∙ limits_base limits (gives unbounded) (features_of start) [] limits once in
      omega (arith, ints, one, two)

  -- what a feature brings by the limits
  brings : (unbounded : Bool) → is_open ≡ unbounded → (f : Feature) (test : Feature → Bool) → ((g : Feature) → test g ≡ same_feature f g)
      → limits_bring test (of_limits start (cell_multipliers start limits)) limits
      ≡ pos (got limits (gives unbounded) (lower limits (gives unbounded) f) [] limits) -ℤ pos (got limits (gives unbounded) (upper limits (gives unbounded) f) [] limits)
  brings unbounded on f test same =
      ap (λ xs. limits_bring test xs limits) (limits_are unbounded on) ∙ limits_on limits (gives unbounded) f test same [] limits

  abbrev pub all_left : ℕ
  all_left = add_up (λ v. left_on limits (features_of start) row_terms v.feature * v.end) (variables_of start)

  -- where nothing that comes to the place is unbounded
  base_bounded : is_open ≡ false → (base_by start limits (cell_multipliers start limits) +ℤ pos all_left) <ℤ pos 0
  base_bounded off =
      let features = features_of start in
      let vs = variables_of start in
      let give = gives false in
      let kept = sum_z-map (kept_at limits give [] limits) (λ (v : Variable). v.feature) vs in
      let held = held_sum (kept_at limits give [] limits) (λ f. weight limits features row_terms f *ℤ pos (low_end limits f)) (left_on limits features row_terms) vs
      (λ k d lt. base_at limits features row_terms (get_or vs k d) (cell.one_value k d lt)) in
      let whole = sum_z-map (λ f. weight limits features row_terms f *ℤ pos (low_end limits f)) (λ (v : Variable). v.feature) vs in
      let base = base_is false off in
      let low = row_low in
      omega (arith, ints, base, kept, held, whole, low)

  -- where something is, as much comes as there are ballots
  comes_all : is_open ≡ true → start.ballots ≤ add_up (λ f. rise limits (features_of start) row_terms f * low_end limits f) (features_of start)
  comes_all on =
      let features = features_of start in
      let some = any_passes (is_unbounded start limits) row_terms on in
      let t = some.0 in
      let there = term_there (map (weight_on key arc) features) t (subst (λ (ts : List Term). Contains ts t) terms_are some.1) in
      let long = length-map features (weight_on key arc) in
      let v = t.variable in
      let within : v < length features = omega (arith, there.0, long) in
      let f = get_or features v (From 0) in
      let among : Contains features f = (v, within, get_or_default features v f (From 0) within) in
      let test = int_lt (pos 0) t.times in
      let more = (slice_index (cell_values start limits) v == start.ballots) && not (has_upper limits (feature_at features v)) in
      let positive = and_left test more some.2 in
      let full = eq_test (slice_index (cell_values start limits) v) start.ballots (and_left (slice_index (cell_values start limits) v == start.ballots) (not (has_upper limits (feature_at features v))) (and_right test more some.2)) in
      let value : get_or (cell_values start limits) v 0 ≡ low_end limits f = ap (λ xs. get_or xs v 0) (values_are start limits) ∙ at_of (low_end limits) features v 0 (From 0) within in
      let weighs = there.1 ∙ at_of (weight_on key arc) features v (pos 0) (From 0) within in
      let w = weight_is f among in
      let parts = two_parts (weight limits features row_terms f) in
      let up : 1 ≤ rise limits features row_terms f = omega (arith, ints, positive, weighs, w, parts) in
      let most = is_among (λ g. rise limits features row_terms g * low_end limits g) features f among in
      let times = some_times (rise limits features row_terms f) (low_end limits f) up in
      let n : start.ballots ≡ low_end limits f = sym full ∙ value in
      omega (arith, most, times, n)

  base_open : is_open ≡ true → (base_by start limits (cell_multipliers start limits) +ℤ pos start.ballots) <ℤ pos 0
  base_open on =
      let features = features_of start in
      let base = base_is true on in
      let low = all_low limits features row_terms features in
      let ways = both_ways limits features row_terms features in
      let comes = comes_all on in
      let below = row_low in
      omega (arith, ints, base, low, ways, comes, below)

-- ---- the cut

-- 1 for each ballot
all_ballots : (e : Election) (start : Ground) (suffix : List ℕ) → IsGroundIn e (with_goal start (Suffix suffix))
    → add_up (λ v. classes_in v.feature * v.end) (variables_of (with_goal start (Suffix suffix))) ≡ start.ballots
all_ballots e start suffix is =
    let here = with_goal start (Suffix suffix) in
    let keys = keys_of e (Suffix suffix) in
    let left = left_is here classes_in in
    let grouped = grouped_keys e here is (λ k. 1) in
    let count = length-map e.poll.ballots (key_of e (Suffix suffix)) in
    let n = is.values.ballots in
    let none : start.ballots * add_up (λ a. classes_in (Arc a.0 a.1)) (arcs_of (length suffix)) ≡ 0 = ap (λ k. start.ballots * k) (no_arcs (arcs_of (length suffix))) ∙ omega arith in
    omega (arith, left, grouped, ones keys, count, n, none)
  where
    ones : (ks : List ℕ) → add_up (λ k. 1) ks ≡ length ks
    ones [] = refl
    ones (k ∷ ks) = omega (arith, ones ks)

    no_arcs : (arcs : List (ℕ × ℕ)) → add_up (λ a. classes_in (Arc a.0 a.1)) arcs ≡ 0
    no_arcs [] = refl
    no_arcs (a ∷ arcs) = omega (arith, no_arcs arcs)

module _ (e : Election) (start : Ground) (suffix : List ℕ) (limits : List Limit) (r : ℕ) (key : ℕ → ℤ) (arc : ℕ × ℕ → ℤ) (is : IsGroundIn e (with_goal start (Suffix suffix))) (few : AreLimits e (node_of (with_goal start (Suffix suffix)) limits)) (cell : IsCell (with_goal start (Suffix suffix)) limits) (are : AreMultipliers (with_goal start (Suffix suffix)) limits (cell_multipliers (with_goal start (Suffix suffix)) limits)) (broken : first_broken (with_goal start (Suffix suffix)) limits ≡ Some r) (past : length start.sums ≤ r) (row : get_or (program_rows (with_goal start (Suffix suffix)) limits) r empty_row ≡ flow_by (with_goal start (Suffix suffix)) key arc) (flow : IsFlowRow (length suffix) key arc) where
  abbrev here : Ground
  here = with_goal start (Suffix suffix)

  abbrev m : ℕ
  m = length suffix

  abbrev ls : List ℕ
  ls = cell_multipliers here limits

  abbrev terms : List Term
  terms = row_terms e here limits r key arc is cell broken past row

  abbrev open_end : Bool
  open_end = is_open e here limits r key arc is cell broken past row

  -- what an arc brings
  abbrev arc_brings : ℕ × ℕ → ℤ
  arc_brings a = rows_bring m (of_rows here ls) a +ℤ limits_bring (is_arc a) (of_limits here ls) limits

  bounded_cut : open_end ≡ false → IsBound e (node_of here limits) ls (start.ballots + 1)
  bounded_cut off =
      let features = features_of here in
      let left = left_on limits features terms in
      let zeros = rows_zero e here limits r key arc is cell broken past row false off in
      let each : (u x : ℕ) → u < x → x ≤ m → (arc_brings (u, x) +ℤ arc (u, x)) ≤ℤ pos (left (Arc u x)) =
      λ u x begins ends.
      let none = rows_none m (of_rows here ls) (u, x) zeros in
      let bring = brings e here limits r key arc is cell broken past row false off (Arc u x) (is_arc (u, x)) (by_arc (u, x)) in
      let w = weight_is e here limits r key arc is cell broken past row (Arc u x) ((on_arc here u x).1 (begins, ends)) in
      let change = change_at limits features terms (Arc u x) in
      omega (arith, ints, none, bring, w, change) in
      left_cuts e start suffix limits ls left is few are (base_bounded e here limits r key arc is cell broken past row off)
      (λ k path there path_is.
      let arcs = path_arcs 0 path in
      let none = cost_none here (Suffix suffix) (of_rows here ls) k tt zeros in
      let bring = brings e here limits r key arc is cell broken past row false off (From k) (is_from k) (by_key k) in
      let w = weight_is e here limits r key arc is cell broken past row (From k) (key_there e here is.values k there) in
      let change = change_at limits features terms (From k) in
      let brought = path_brings here limits ls m path path_is in
      let both = sum_z-add arc_brings arc arcs in
      let most = path_at_most m 0 (λ a. arc_brings a +ℤ arc a) (λ a. left (Arc a.0 a.1)) path path_is each in
      let keeps = flow.keeps k path path_is in
      omega (arith, ints, none, bring, w, change, brought, both, most, keeps))

  open_cut : open_end ≡ true → IsBound e (node_of here limits) ls (start.ballots + 1)
  open_cut on =
      let features = features_of here in
      let zeros = rows_zero e here limits r key arc is cell broken past row true on in
      let fall_on : ℕ × ℕ → ℕ = λ a. above_none (pos 0 -ℤ arc a) in
      let each : (u x : ℕ) → u < x → x ≤ m → arc_brings (u, x) ≤ℤ pos (fall_on (u, x)) =
      λ u x begins ends.
      let none = rows_none m (of_rows here ls) (u, x) zeros in
      let bring = brings e here limits r key arc is cell broken past row true on (Arc u x) (is_arc (u, x)) (by_arc (u, x)) in
      let w = ap (λ z. above_none (pos 0 -ℤ z)) (weight_is e here limits r key arc is cell broken past row (Arc u x) ((on_arc here u x).1 (begins, ends))) in
      let low = low_most limits features terms (Arc u x) in
      let up = up_none limits features terms (Arc u x) in
      omega (arith, ints, none, bring, w, low, up) in
      let base = base_open e here limits r key arc is cell broken past row on in
      let all = all_ballots e start suffix is in
      left_cuts e start suffix limits ls classes_in is few are (omega (arith, ints, base, all))
      (λ k path there path_is.
      let none = cost_none here (Suffix suffix) (of_rows here ls) k tt zeros in
      let bring = brings e here limits r key arc is cell broken past row true on (From k) (is_from k) (by_key k) in
      let w = ap (λ z. above_none (pos 0 -ℤ z)) (weight_is e here limits r key arc is cell broken past row (From k) (key_there e here is.values k there)) in
      let rises = flow.rises k in
      let level = gain_most (pos 0) (key k) 0 (omega (arith, ints, rises)) in
      let low = low_most limits features terms (From k) in
      let up = up_none limits features terms (From k) in
      let brought = path_brings here limits ls m path path_is in
      let most = path_at_most m 0 arc_brings fall_on path path_is each in
      let once = flow.falls path path_is in
      omega (arith, ints, none, bring, w, level, low, up, brought, most, once))

  flow_row_cut : IsBound e (node_of here limits) ls (start.ballots + 1)
  flow_row_cut = elim (cases_Bool open_end) [ inl on ↦ open_cut on | inr off ↦ bounded_cut off ]

-- where a row of the flow is broken, and none of the goal
pub flow_cut : (e : Election) (start : Ground) (suffix : List ℕ) (limits : List Limit) (r j : ℕ) → IsGroundIn e (with_goal start (Suffix suffix))
    → AreLimits e (node_of (with_goal start (Suffix suffix)) limits) → IsCell (with_goal start (Suffix suffix)) limits
    → AreMultipliers (with_goal start (Suffix suffix)) limits (cell_multipliers (with_goal start (Suffix suffix)) limits)
    → first_broken (with_goal start (Suffix suffix)) limits ≡ Some r → j < length (flow_rows_of (with_goal start (Suffix suffix))) → length start.sums ≤ r
    → get_or (program_rows (with_goal start (Suffix suffix)) limits) r empty_row ≡ get_or (flow_rows_of (with_goal start (Suffix suffix))) j empty_row
    → IsBound e (node_of (with_goal start (Suffix suffix)) limits) (cell_multipliers (with_goal start (Suffix suffix)) limits) (start.ballots + 1)
flow_cut e start suffix limits r j is few cell are broken lt past same =
    let within : j < length (flow_weighings (Suffix suffix)) = omega (arith, lt, flow_rows_count start suffix) in
    flow_row_cut e start suffix limits r (flow_key suffix j) (flow_arc suffix j) is few cell are broken past (same ∙ flow_row_at start suffix j within) (flow_row suffix j within)
