-- A cell of a cover whose values break a row of the goal is cut at each number.
use Rattle.std.proofs.Common.{◌≡◌, ℕ, zero, suc, ◌+◌, ◌*◌, ◌<◌, ◌≤◌, List, [], ◌∷◌, ◌++◌, true, Some, cond, drop, get_or, length, map, take, ap, refl, sym, ◌∙◌, arith}
use Rattle.std.specs.Prelude.{Contains, ℤ, pos, ◌+ℤ◌, ◌-ℤ◌, ◌*ℤ◌, ◌<ℤ◌, int_lt, nat_lt}
use Rattle.std.specs.List.{list_any, range_with_len}
use Rattle.std.proofs.Math.IntN.{negsuc}
use Rattle.std.proofs.lemmas.Bool.Decides.{nat_tests}
use Rattle.std.proofs.lemmas.Int.{ints}
use Rattle.std.proofs.lemmas.List.{get_or_append_left, length-append, length-map}
use Rattle.std.proofs.lemmas.List.FromFn.{length-range_with_len}
use Rattle.std.proofs.lemmas.List.Quantifiers.{position-Some}
use Rattle.mov_base.specs.Sums.{add_up, sum_z}
use Rattle.ballot_form.specs.Scores.{is_some_of}
use Rattle.irv_count.proofs.Members.{differ_test, same_test}
use Rattle.row_program.specs.Forms.{empty_row}
use Rattle.row_program.specs.Points.{row_value}
use Rattle.row_program.specs.declared.Feature.{Feature}
use Rattle.row_program.specs.declared.Feature.TheVariants.{From}
use Rattle.row_program.specs.declared.Limit.{Limit}
use Rattle.row_program.specs.declared.program.Row.{Row}
use Rattle.row_program.specs.declared.program.Term.{Term}
use Rattle.sig_graph.specs.Rows.{one_where}
use Rattle.goal_rows.specs.Cells.{IsCell, Variable, cell_values, low_end, variables_of}
use Rattle.goal_rows.specs.Elections.{Election}
use Rattle.goal_rows.specs.Nodes.{AreLimits, node_of}
use Rattle.goal_rows.specs.Programs.{arc_weight, goal_rows_of, key_weight, limit_rows_of, class_rows_of, flow_rows_of, program_rows, row_by, terms_of, weighings_of}
use Rattle.goal_rows.specs.Races.{IsGroundIn, keys_of}
use Rattle.goal_rows.specs.Suffixes.{others}
use Rattle.goal_rows.specs.declared.goals.Goal.{Goal}
use Rattle.goal_rows.specs.declared.goals.Goal.TheVariants.{Cover}
use Rattle.goal_rows.specs.declared.parts.Ground.{Ground}
use Rattle.goal_rows.proofs.GroundSizes.{goal_rows_count, weighings_count}
use Rattle.dual_bound.specs.CellCuts.{case_of, cell_multipliers, features_of, first_broken, given_each, given_in, is_broken, is_unbounded, terms_at, times_on}
use Rattle.dual_bound.specs.CutTest.{AreMultipliers, IsBound}
use Rattle.dual_bound.specs.declared.cell_cuts.Case.TheVariants.{GoalRow, FlowRow}
use Rattle.dual_bound.specs.Weighing.{IsBestNew, base_by, cost_by, gain_by, is_from, limit_start, limits_bring, of_limits, of_rows, over_weight, times_all}
use Rattle.dual_bound.proofs.CellBreaks.{all_base, cut_beyond, gain_most, left_is, left_on, one_change, weight}
use Rattle.dual_bound.proofs.CellCosts.{by_key, drop_front, take_front}
use Rattle.dual_bound.proofs.CellFeatures.{counted_once, key_there}
use Rattle.dual_bound.proofs.CellMultipliers.{row_part}
use Rattle.dual_bound.proofs.CellRowValues.{row_in_cell, row_of_items, sum_z-map, times_are, weight_on, weights_are, weights_over}
use Rattle.dual_bound.proofs.CellVariables.{map_twice}
use Rattle.dual_bound.proofs.Exact.{bound_is_exact, grouped_keys}
use Rattle.dual_bound.proofs.GivenLimits.{kept_at, limits_base, limits_on}

-- ---- one row with the multiplier 1

none_more : (z : ℤ) → pos 0 *ℤ z ≡ pos 0
none_more (pos n) = omega (arith, ints)
none_more (negsuc n) = omega (arith, ints)

one_more : (z : ℤ) → pos 1 *ℤ z ≡ z
one_more (pos n) = omega (arith, ints)
one_more (negsuc n) = omega (arith, ints)

on_row : (r k : ℕ) → r ≡ k → one_where (is_some_of (Some r) k) ≡ 1
on_row r k same = rw (same_test r k same) refl

pub off_row : (r k : ℕ) → (r ≡ k → ⊥) → one_where (is_some_of (Some r) k) ≡ 0
off_row r k differ = rw (differ_test r k differ) refl

past_row : (r a n : ℕ) (vs : List ℤ) → r < a → times_all (map (λ k. one_where (is_some_of (Some r) k)) (range_with_len a n)) vs ≡ pos 0
past_row r a zero vs lt = refl
past_row r a (suc n) [] lt = refl
past_row r a (suc n) (v ∷ vs) lt =
    let off = off_row r a (λ e. omega (arith, e, lt)) in
    let here = ap (λ k. pos k *ℤ v) off ∙ none_more v in
    let rest = past_row r (a + 1) n vs (omega (arith, lt)) in
    omega (arith, ints, here, rest)

pub unit_times : (r a n i : ℕ) (vs : List ℤ) → a + i ≡ r → i < n → i < length vs → times_all (map (λ k. one_where (is_some_of (Some r) k)) (range_with_len a n)) vs ≡ get_or vs i (pos 0)
unit_times r a zero i vs at low within = absurd (omega (arith, low))
unit_times r a (suc n) i [] at low within = absurd (omega (arith, within))
unit_times r a (suc n) zero (v ∷ vs) at low within =
    let on = on_row r a (omega (arith, at)) in
    let here = ap (λ k. pos k *ℤ v) on ∙ one_more v in
    let rest = past_row r (a + 1) n vs (omega (arith, at)) in
    omega (arith, ints, here, rest)
unit_times r a (suc n) (suc i) (v ∷ vs) at low within =
    let off = off_row r a (λ e. omega (arith, e, at)) in
    let here = ap (λ k. pos k *ℤ v) off ∙ none_more v in
    let rest = unit_times r (a + 1) n i vs (omega (arith, at)) (omega (arith, low)) (omega (arith, within)) in
    omega (arith, ints, here, rest)

past_sum : (r a n : ℕ) → r < a → add_up (λ l. l) (map (λ k. one_where (is_some_of (Some r) k)) (range_with_len a n)) ≡ 0
past_sum r a zero lt = refl
past_sum r a (suc n) lt = let off = off_row r a (λ e. omega (arith, e, lt)) in omega (arith, off, past_sum r (a + 1) n (omega (arith, lt)))

pub unit_sum : (r a n i : ℕ) → a + i ≡ r → i < n → add_up (λ l. l) (map (λ k. one_where (is_some_of (Some r) k)) (range_with_len a n)) ≡ 1
unit_sum r a zero i at low = absurd (omega (arith, low))
unit_sum r a (suc n) zero at low = let on = on_row r a (omega (arith, at)) in omega (arith, on, past_sum r (a + 1) n (omega (arith, at)))
unit_sum r a (suc n) (suc i) at low =
    let off = off_row r a (λ e. omega (arith, e, at)) in
    omega (arith, off, unit_sum r (a + 1) n i (omega (arith, at)) (omega (arith, low)))

-- ---- the broken row

pub at_of : {A B : Type 0} (f : A → B) (xs : List A) (k : ℕ) (d : B) (a : A) → k < length xs → get_or (map f xs) k d ≡ f (get_or xs k a)
at_of f [] k d a lt = absurd (omega (arith, lt))
at_of f (x ∷ xs) zero d a lt = refl
at_of f (x ∷ xs) (suc k) d a lt = at_of f xs k d a (omega (arith, lt))

-- what the row r of the goal counts for keys, and for arcs
abbrev pub key_at : Ground → ℕ → ℕ → ℤ
key_at start r = get_or (map key_weight (weighings_of start)) r (λ k. pos 0)

abbrev pub arc_weight_at : Ground → ℕ → ℕ × ℕ → ℤ
arc_weight_at start r = get_or (map arc_weight (weighings_of start)) r (λ a. pos 0)

pub goal_row_at : (e : Election) (start : Ground) (limits : List Limit) (r : ℕ) → IsGroundIn e start → r < length start.sums
    → get_or (program_rows start limits) r empty_row ≡ row_by (get_or start.sums r (pos 0)) (weights_over start (key_at start r) (arc_weight_at start r))
goal_row_at e start limits r is low =
    let count = goal_rows_count start (e, is) in
    let w = weighings_count start (e, is) in
    front (goal_rows_of start) (limit_rows_of start limits) (class_rows_of start.classes) (flow_rows_of start) (omega (arith, low, count))
    ∙ row_of_items key_weight arc_weight start start.sums (weighings_of start) r low (omega (arith, low, w))
  where
    front : (a b c d : List Row) → r < length a → get_or (a ++ b ++ c ++ d) r empty_row ≡ get_or a r empty_row
    front a b c d lt =
        let one = length-append a b in
        let two = length-append (a ++ b) c in
        get_or_append_left (a ++ b ++ c) d empty_row r (omega (arith, lt, one, two)) ∙ get_or_append_left (a ++ b) c empty_row r (omega (arith, lt, one)) ∙ get_or_append_left a b empty_row r lt

-- a number below 0 by the test
pub below_by : (z : ℤ) → int_lt z (pos 0) ≡ true → z <ℤ pos 0
below_by z on = omega (arith, ints, on)

pub sums_on : (f g : Feature → ℤ) (fs : List Feature) → ((h : Feature) → Contains fs h → f h ≡ g h) → sum_z f fs ≡ sum_z g fs
sums_on f g [] same = refl
sums_on f g (h ∷ fs) same =
    let here = same h (0, omega arith, refl) in
    let rest = sums_on f g fs (λ k there. same k (suc there.0, omega (arith, there.1), there.2)) in
    omega (arith, ints, here, rest)

pub made_most : (f g : ℕ → ℕ) (keys : List ℕ) → ((k : ℕ) → Contains keys k → f k ≤ g k) → add_up (λ x. x) (map f keys) ≤ add_up g keys
made_most f g [] le = omega arith
made_most f g (k ∷ keys) le =
    omega (arith, le k (0, omega arith, refl), made_most f g keys (λ j there. le j (suc there.0, omega (arith, there.1), there.2)))

case_is : (start : Ground) (limits : List Limit) (r : ℕ) (terms : List Term) → r < length start.sums → case_of start limits (Some r) terms ≡ GoalRow
case_is start limits r terms low =
    let t : nat_lt r (length start.sums) ≡ true = grind (arith, nat_tests) in
    ap (λ b. cond b GoalRow (FlowRow (list_any (is_unbounded start limits) terms))) t

-- ---- what holds of both goals

module _ (e : Election) (start : Ground) (limits : List Limit) (r : ℕ) (is : IsGroundIn e start) (cell : IsCell start limits) (broken : first_broken start limits ≡ Some r) (low : r < length start.sums) where
  abbrev pub broken_terms : List Term
  broken_terms = terms_at (program_rows start limits) (Some r)

  abbrev pub gives : Limit → ℕ
  gives = given_in GoalRow (features_of start) broken_terms

  pub parts_are : cell_multipliers start limits ≡ row_part (length start.sums) (Some r) ++ given_each limits gives [] limits
  parts_are =
      ap (λ o. row_part (length start.sums) o ++ given_each limits (given_in (case_of start limits o (terms_at (program_rows start limits) o)) (features_of start) (terms_at (program_rows start limits) o)) [] limits) broken
      ∙ ap (λ c. row_part (length start.sums) (Some r) ++ given_each limits (given_in c (features_of start) broken_terms) [] limits) (case_is start limits r broken_terms low)

  long_part : length (row_part (length start.sums) (Some r)) ≡ length start.sums
  long_part = length-map (range_with_len 0 (length start.sums)) (λ k. one_where (is_some_of (Some r) k)) ∙ length-range_with_len 0 (length start.sums)

  pub rows_are : of_rows start (cell_multipliers start limits) ≡ row_part (length start.sums) (Some r)
  rows_are = ap (take (length start.sums)) parts_are ∙ take_front (row_part (length start.sums) (Some r)) (given_each limits gives [] limits) (length start.sums) long_part

  pub limits_are : of_limits start (cell_multipliers start limits) ≡ given_each limits gives [] limits
  limits_are = ap (drop (length start.sums)) parts_are ∙ drop_front (row_part (length start.sums) (Some r)) (given_each limits gives [] limits) (length start.sums) long_part

  -- the terms multiply each variable by what the row counts for it
  pub weight_is : (f : Feature) → Contains (features_of start) f → weight limits (features_of start) broken_terms f ≡ weight_on (key_at start r) (arc_weight_at start r) f
  weight_is f there =
      ap (λ (row : Row). times_on (features_of start) f row.terms) (goal_row_at e start limits r is low)
      ∙ ap (λ ws. times_on (features_of start) f (terms_of ws)) (weights_are (key_at start r) (arc_weight_at start r) start)
      ∙ times_are (weight_on (key_at start r) (arc_weight_at start r)) (features_of start) f there

  -- what is left of the row's rise on all variables
  abbrev pub all_left : ℕ
  all_left = add_up (λ v. left_on limits (features_of start) broken_terms v.feature * v.end) (variables_of start)

  row_below : row_value (get_or (program_rows start limits) r empty_row) (cell_values start limits) 1 <ℤ pos 0
  row_below = below_by (row_value (get_or (program_rows start limits) r empty_row) (cell_values start limits) 1) (position-Some (is_broken (cell_values start limits)) (program_rows start limits) r empty_row broken).1

  pub base_low : (base_by start limits (cell_multipliers start limits) +ℤ pos all_left) <ℤ pos 0
  base_low =
      let features = features_of start in
      let n = length start.sums in
      let w = weight limits features broken_terms in
      let one = ap (λ xs. times_all xs start.sums) rows_are ∙ unit_times r 0 n r start.sums (omega arith) low low in
      let once = λ (k : ℕ) (d : Limit) (lt : k < length limits). counted_once e start (get_or limits k d).feature is.values (cell.on_variables k d lt) in
      let two = ap (λ xs. times_all xs (map limit_start limits)) limits_are ∙ limits_base limits gives features [] limits once
      ∙ sum_z-map (kept_at limits gives [] limits) (λ (v : Variable). v.feature) (variables_of start) in
      let held = all_base limits features broken_terms (variables_of start) cell.one_value in
      let sum = sym (sum_z-map (λ f. w f *ℤ pos (low_end limits f)) (λ (v : Variable). v.feature) (variables_of start))
      ∙ sums_on (λ f. w f *ℤ pos (low_end limits f)) (λ f. weight_on (key_at start r) (arc_weight_at start r) f *ℤ pos (low_end limits f)) features (λ f there. ap (λ z. z *ℤ pos (low_end limits f)) (weight_is f there)) in
      let value = ap (λ row. row_value row (cell_values start limits) 1) (goal_row_at e start limits r is low) ∙ row_in_cell (get_or start.sums r (pos 0)) (key_at start r) (arc_weight_at start r) start limits in
      let neg = row_below in
      omega (arith, ints, one, two, held, sum, value, neg)

  -- the classes' part of what is left
  pub class_left : add_up (λ c. c.1 * left_on limits (features_of start) broken_terms (From c.0)) start.classes ≤ all_left
  class_left = omega (arith, left_is start (left_on limits (features_of start) broken_terms))

-- ---- covers

abbrev pub with_goal : Ground → Goal → Ground
with_goal start goal = record { goal = goal; classes = start.classes; sums = start.sums; ballots = start.ballots; lone = start.lone }

pub cover_cut : (e : Election) (start : Ground) (x : ℕ) (limits : List Limit) (r : ℕ) → IsGroundIn e (with_goal start (Cover x)) → AreLimits e (node_of (with_goal start (Cover x)) limits)
    → IsCell (with_goal start (Cover x)) limits → AreMultipliers (with_goal start (Cover x)) limits (cell_multipliers (with_goal start (Cover x)) limits)
    → first_broken (with_goal start (Cover x)) limits ≡ Some r → r < length start.sums
    → IsBound e (node_of (with_goal start (Cover x)) limits) (cell_multipliers (with_goal start (Cover x)) limits) (start.ballots + 1)
cover_cut e start x limits r is few cell are broken low =
    let here = with_goal start (Cover x) in
    let ls = cell_multipliers here limits in
    let features = features_of here in
    let n = length start.sums in
    let js = others (n + 1) x in
    let rows = rows_are e here limits r is cell broken low in
    let more = limits_are e here limits r is cell broken low in
    let left = left_on limits features (broken_terms e here limits r is cell broken low) in
    let count : length js ≡ n = sym (length-map js _) ∙ weighings_count here (e, is) in
    let best : IsBestNew here limits ls (pos 1) = sym (ap (λ xs. pos (add_up (λ l. l) xs)) rows ∙ ap (λ k. pos k) (unit_sum r 0 n r (omega arith) low)) in
    let gain : (k : ℕ) → Contains (keys_of e (Cover x)) k → gain_by (pos 1) (cost_by here limits ls) k ≤ left (From k) =
    λ k there.
    let m = length-map js (over_weight x k) in
    let row = ap (λ xs. times_all xs (map (over_weight x k) js)) rows
    ∙ unit_times r 0 n r (map (over_weight x k) js) (omega arith) low (omega (arith, m, count, low))
    ∙ at_of (over_weight x k) js r (pos 0) 0 (omega (arith, count, low)) in
    let bring = ap (λ xs. limits_bring (is_from k) xs limits) more ∙ limits_on limits (gives e here limits r is cell broken low) (From k) (is_from k) (by_key k) [] limits in
    let w = weight_is e here limits r is cell broken low (From k) (key_there e here is.values k there) in
    let over : key_at here r k ≡ pos 1 -ℤ over_weight x k (get_or js r 0) =
    ap (λ (f : ℕ → ℤ). f k) (ap (λ (fs : List (ℕ → ℤ)). get_or fs r (λ k. pos 0)) (map_twice key_weight _ js) ∙ at_of (λ j k. pos 1 -ℤ over_weight x k j) js r (λ k. pos 0) 0 (omega (arith, count, low))) in
    let change = one_change limits features (broken_terms e here limits r is cell broken low) (From k) in
    gain_most (pos 1) (cost_by here limits ls k) (left (From k)) (omega (arith, ints, row, bring, w, over, change)) in
    let keys = keys_of e (Cover x) in
    let g = gain_by (pos 1) (cost_by here limits ls) in
    let most = made_most g (λ k. left (From k)) keys gain in
    let grouped = grouped_keys e here is (λ k. left (From k)) in
    let all = class_left e here limits r is cell broken low in
    bound_is_exact e here limits ls (pos 1) (start.ballots + 1) is few are best
    (cut_beyond (base_by here limits ls) (map g keys) (start.ballots + 1) (all_left e here limits r is cell broken low) (base_low e here limits r is cell broken low) (omega (arith, most, grouped, all)))
