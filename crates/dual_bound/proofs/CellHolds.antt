-- The values of a cell keep its limits, and are no more than the classes have: the rows that they break are others.
use Rattle.std.proofs.Common.{◌≡◌, ◌⊎◌, ℕ, zero, suc, ◌+◌, ◌-◌, ◌<◌, ◌≤◌, List, [], ◌∷◌, ◌++◌, Bool, true, false, Option, Some, None, cond, get_or, length, map, ap, refl, subst, sym, ◌∙◌, inl, inr, arith}
use Rattle.std.specs.Prelude.{Contains, max, min, nat_lt, int_lt, ℤ, pos, ◌+ℤ◌, ◌-ℤ◌, ◌*ℤ◌, ◌≤ℤ◌}
use Rattle.std.specs.List.{position_or_len, range_with_len}
use Rattle.std.proofs.lemmas.Bool.{cases_lt}
use Rattle.std.proofs.lemmas.Bool.Decides.{nat_tests}
use Rattle.std.proofs.lemmas.Int.{ints}
use Rattle.std.proofs.lemmas.List.{get_or-append_right, get_or_append_left, length-append, length-map}
use Rattle.std.proofs.lemmas.List.FromFn.{length-range_with_len}
use Rattle.std.proofs.lemmas.List.Quantifiers.{position-Some}
use Rattle.std.proofs.lemmas.List.Sums.{fails_before_first}
use Rattle.mov_base.specs.Sums.{sum_z}
use Rattle.row_program.specs.Forms.{empty_row}
use Rattle.row_program.specs.Points.{row_value}
use Rattle.row_program.specs.declared.Feature.{Feature}
use Rattle.row_program.specs.declared.Feature.TheVariants.{From, Arc}
use Rattle.row_program.specs.declared.Limit.{Limit}
use Rattle.row_program.specs.declared.program.Row.{Row}
use Rattle.goal_rows.specs.Cells.{IsCell, Variable, cell_values, high_end, low_end, same_feature, variables_of}
use Rattle.goal_rows.specs.Elections.{Election}
use Rattle.goal_rows.specs.Programs.{IsPointOf, class_row, class_rows_of, flow_rows_of, goal_rows_of, has_ends, has_key, limit_rows_of, one_more_in, program_rows, row_by, value_before}
use Rattle.goal_rows.specs.Races.{IsGroundIn}
use Rattle.goal_rows.specs.declared.parts.Ground.{Ground}
use Rattle.goal_rows.proofs.GroundSizes.{goal_rows_count}
use Rattle.dual_bound.specs.CellCuts.{features_of, first_broken, is_broken}
use Rattle.dual_bound.specs.CellParts.{variable}
use Rattle.dual_bound.proofs.CellBreaks.{times_parts}
use Rattle.dual_bound.proofs.CellCosts.{arc_values, class_values}
use Rattle.dual_bound.proofs.CellCovers.{at_of}
use Rattle.dual_bound.proofs.CellEnds.{high_below}
use Rattle.dual_bound.proofs.CellFeatures.{counted_once}
use Rattle.dual_bound.proofs.CellRowValues.{row_in_cell, weight_on, weights_over}
use Rattle.dual_bound.proofs.CellVariables.{fixed_classes, values_count}
use Rattle.dual_bound.proofs.GivenLimits.{each_time, one_time, same_feature_is, same_feature_on}

-- ---- limits

upper_bounds : (ls : List Limit) (v : Variable) (k : ℕ) (d : Limit) → k < length ls → (get_or ls k d).at_most ≡ true → same_feature v.feature (get_or ls k d).feature ≡ true
    → high_end ls v ≤ (get_or ls k d).value
upper_bounds [] v k d lt up on = absurd (omega (arith, lt))
upper_bounds (l ∷ ls) v zero d lt up on = rw (up, on) (omega arith)
upper_bounds (l ∷ ls) v (suc k) d lt up on = by l.at_most (same_feature v.feature l.feature) (upper_bounds ls v k d (omega (arith, lt)) up on)
  where
    by : (a t : Bool) → high_end ls v ≤ (get_or ls k d).value → cond a (cond t (min l.value (high_end ls v)) (high_end ls v)) (high_end ls v) ≤ (get_or ls k d).value
    by true true le = omega (arith, le)
    by true false le = le
    by false t le = le

lower_bounds : (ls : List Limit) (f : Feature) (k : ℕ) (d : Limit) → k < length ls → (get_or ls k d).at_most ≡ false → same_feature f (get_or ls k d).feature ≡ true
    → (get_or ls k d).value ≤ low_end ls f
lower_bounds [] f k d lt low on = absurd (omega (arith, lt))
lower_bounds (l ∷ ls) f zero d lt low on = rw (low, on) (omega arith)
lower_bounds (l ∷ ls) f (suc k) d lt low on = by l.at_most (same_feature f l.feature) (lower_bounds ls f k d (omega (arith, lt)) low on)
  where
    by : (a t : Bool) → (get_or ls k d).value ≤ low_end ls f → (get_or ls k d).value ≤ cond a (low_end ls f) (cond t (max l.value (low_end ls f)) (low_end ls f))
    by true t le = le
    by false true le = omega (arith, le)
    by false false le = le

-- the value of a feature that some variable has is at most each upper limit
low_is_high : (start : Ground) (limits : List Limit) (f : Feature) → IsCell start limits → Contains (features_of start) f → (n : ℕ)
    → ((v : Variable) → v.feature ≡ f → high_end limits v ≤ n) → low_end limits f ≤ n
low_is_high start limits f cell there n below =
    let vs = variables_of start in
    let m = length-map vs (λ (v : Variable). v.feature) in
    let d = variable f 0 in
    let lt : there.0 < length vs = omega (arith, there.1, m) in
    let v = get_or vs there.0 d in
    let is : v.feature ≡ f = sym (at_of (λ (v : Variable). v.feature) vs there.0 f d lt) ∙ there.2 in
    let fixed = cell.one_value there.0 d lt in
    let high = below v is in
    let same = ap (low_end limits) is in
    omega (arith, fixed, high, same)

sums_same : (f g : Feature → ℤ) (xs : List Feature) → ((x : Feature) → f x ≡ g x) → sum_z f xs ≡ sum_z g xs
sums_same f g [] same = refl
sums_same f g (x ∷ xs) same = let h = same x in let r = sums_same f g xs same in omega (arith, ints, h, r)

-- what a limit's row counts for keys and arcs
abbrev pub key_part : Limit → ℕ → ℤ
key_part l k = cond (has_key k l.feature) (one_more_in l) (pos 0)

abbrev pub arc_part : Limit → ℕ × ℕ → ℤ
arc_part l a = cond (has_ends a l.feature) (one_more_in l) (pos 0)

pub part_is : (l : Limit) (f : Feature) → weight_on (key_part l) (arc_part l) f ≡ cond (same_feature f l.feature) (one_more_in l) (pos 0)
part_is l (From k) = refl
part_is l (Arc u p) = refl

none_by : (n : ℕ) → pos 0 *ℤ pos n ≡ pos 0
none_by n = omega (arith, ints)

-- its row at the values
limit_value : (e : Election) (start : Ground) (limits : List Limit) (l : Limit) → IsGroundIn e start → Contains (features_of start) l.feature
    → row_value (row_by (value_before l) (weights_over start (key_part l) (arc_part l))) (cell_values start limits) 1
    ≡ value_before l +ℤ (one_more_in l *ℤ pos (low_end limits l.feature))
limit_value e start limits l is there =
    let g = l.feature in
    let z = one_more_in l *ℤ pos (low_end limits g) in
    let features = features_of start in
    let one : (f : Feature) → weight_on (key_part l) (arc_part l) f *ℤ pos (low_end limits f) ≡ cond (same_feature f g) z (pos 0) =
    λ f. ap (λ w. w *ℤ pos (low_end limits f)) (part_is l f) ∙ by f (same_feature f g) refl in
    let all = sums_same (λ f. weight_on (key_part l) (arc_part l) f *ℤ pos (low_end limits f)) (λ f. cond (same_feature f g) z (pos 0)) features one in
    let each = each_time limits (λ m. 0) features g z ∙ one_time limits (λ m. 0) z _ (counted_once e start g is.values there) in
    row_in_cell (value_before l) (key_part l) (arc_part l) start limits ∙ ap (λ y. value_before l +ℤ y) (all ∙ each)
  where
    by : (f : Feature) (b : Bool) → same_feature f l.feature ≡ b
        → cond b (one_more_in l) (pos 0) *ℤ pos (low_end limits f) ≡ cond b (one_more_in l *ℤ pos (low_end limits l.feature)) (pos 0)
    by f true on = ap (λ h. one_more_in l *ℤ pos (low_end limits h)) (same_feature_is f l.feature on)
    by f false off = none_by (low_end limits f)

limit_kept : (a : Bool) (value p : ℕ) → (a ≡ true → p ≤ value) → (a ≡ false → value ≤ p)
    → pos 0 ≤ℤ (cond a (pos value) (pos 0 -ℤ pos value) +ℤ (cond a (pos 0 -ℤ pos 1) (pos 1) *ℤ pos p))
limit_kept true value p up low = let le = up refl in let m = times_parts (pos 0 -ℤ pos 1) 0 1 p refl in omega (arith, ints, le, m)
limit_kept false value p up low = let le = low refl in omega (arith, ints, le)

limit_holds : (e : Election) (start : Ground) (limits : List Limit) (k : ℕ) → IsGroundIn e start → IsCell start limits → k < length limits
    → pos 0 ≤ℤ row_value (get_or (limit_rows_of start limits) k empty_row) (cell_values start limits) 1
limit_holds e start limits k is cell lt =
    let d : Limit = record { feature = From 0; at_most = true; value = 0 } in
    let l = get_or limits k d in
    let there : Contains (features_of start) l.feature = cell.on_variables k d lt in
    let row : get_or (limit_rows_of start limits) k empty_row ≡ row_by (value_before l) (weights_over start (key_part l) (arc_part l)) = at_of _ limits k empty_row d lt in
    let value = ap (λ r. row_value r (cell_values start limits) 1) row ∙ limit_value e start limits l is there in
    let up : l.at_most ≡ true → low_end limits l.feature ≤ l.value =
    λ at_most. low_is_high start limits l.feature cell there l.value
    (λ v same. upper_bounds limits v k d lt at_most (subst (λ f. same_feature f l.feature ≡ true) (sym same) (same_feature_on l.feature))) in
    let low : l.at_most ≡ false → l.value ≤ low_end limits l.feature = λ at_least. lower_bounds limits l.feature k d lt at_least (same_feature_on l.feature) in
    let kept = limit_kept l.at_most l.value (low_end limits l.feature) up low in
    subst (λ z. pos 0 ≤ℤ z) (sym value) kept

-- ---- classes

class_value_at : (low : ℕ → ℕ) (cs : List (ℕ × ℕ)) (rest : List ℕ) (k : ℕ) → k < length cs → get_or (map (λ c. low c.0) cs ++ rest) k 0 ≡ low (get_or cs k (0, 0)).0
class_value_at low [] rest k lt = absurd (omega (arith, lt))
class_value_at low (c ∷ cs) rest zero lt = refl
class_value_at low (c ∷ cs) rest (suc k) lt = class_value_at low cs rest k (omega (arith, lt))

pub range_at : (a n k d : ℕ) → k < n → get_or (range_with_len a n) k d ≡ a + k
range_at a zero k d lt = absurd (omega (arith, lt))
range_at a (suc n) zero d lt = omega arith
range_at a (suc n) (suc k) d lt = let h = range_at (a + 1) n k d (omega (arith, lt)) in omega (arith, h)

class_kept : (n p : ℕ) → p ≤ n → pos 0 ≤ℤ (pos n *ℤ pos 1 +ℤ (((pos 0 -ℤ pos 1) *ℤ pos p) +ℤ pos 0))
class_kept n p le = let m = times_parts (pos 0 -ℤ pos 1) 0 1 p refl in omega (arith, ints, le, m)

class_holds : (start : Ground) (limits : List Limit) (k : ℕ) → IsCell start limits → k < length start.classes
    → pos 0 ≤ℤ row_value (get_or (class_rows_of start.classes) k empty_row) (cell_values start limits) 1
class_holds start limits k cell lt =
    let n = length start.classes in
    let c = get_or start.classes k (0, 0) in
    let long = length-range_with_len 0 n in
    let row : get_or (class_rows_of start.classes) k empty_row ≡ class_row k c.1 =
    at_of (λ j. class_row j (get_or start.classes j (0, 0)).1) (range_with_len 0 n) k empty_row 0 (omega (arith, lt, long))
    ∙ ap (λ j. class_row j (get_or start.classes j (0, 0)).1) (range_at 0 n k 0 lt ∙ omega arith) in
    let value : get_or (cell_values start limits) k 0 ≡ low_end limits (From c.0) =
    ap (λ xs. get_or xs k 0) (class_values start limits) ∙ class_value_at (λ key. low_end limits (From key)) start.classes (arc_values start limits) k lt in
    let fixed = fixed_classes start limits cell.one_value k (0, 0) lt in
    let high = high_below limits (variable (From c.0) c.1) in
    let kept = class_kept c.1 (get_or (cell_values start limits) k 0) (omega (arith, value, fixed, high)) in
    subst (λ r. pos 0 ≤ℤ row_value r (cell_values start limits) 1) (sym row) kept

-- ---- rows that are broken

not_broken : (z : ℤ) → int_lt z (pos 0) ≡ true → pos 0 ≤ℤ z → ⊥
not_broken z on le = omega (arith, ints, on, le)

limit_count : (start : Ground) (limits : List Limit) → length (limit_rows_of start limits) ≡ length limits
limit_count start limits = length-map limits _

class_count : (cs : List (ℕ × ℕ)) → length (class_rows_of cs) ≡ length cs
class_count cs = length-map (range_with_len 0 (length cs)) _ ∙ length-range_with_len 0 (length cs)

-- a broken row is one of the goal, or stands behind those of the classes
pub broken_where : (e : Election) (start : Ground) (limits : List Limit) (r : ℕ) → IsGroundIn e start → IsCell start limits → first_broken start limits ≡ Some r
    → (r < length start.sums)
    ⊎ ((j : ℕ) × (j < length (flow_rows_of start)) × (length start.sums ≤ r) × (get_or (program_rows start limits) r empty_row ≡ get_or (flow_rows_of start) j empty_row))
broken_where e start limits r is cell broken =
    let at = position-Some (is_broken (cell_values start limits)) (program_rows start limits) r empty_row broken in
    by (goal_rows_of start) (limit_rows_of start limits) (class_rows_of start.classes) (flow_rows_of start) (goal_rows_count start (e, is)) at.0 at.1
    (λ k lt. limit_holds e start limits k is cell (omega (arith, lt, limit_count start limits)))
    (λ k lt. class_holds start limits k cell (omega (arith, lt, class_count start.classes)))
  where
    by : (a b c d : List Row) → length a ≡ length start.sums → r < length (a ++ b ++ c ++ d) → is_broken (cell_values start limits) (get_or (a ++ b ++ c ++ d) r empty_row) ≡ true
        → ((k : ℕ) → k < length b → pos 0 ≤ℤ row_value (get_or b k empty_row) (cell_values start limits) 1)
        → ((k : ℕ) → k < length c → pos 0 ≤ℤ row_value (get_or c k empty_row) (cell_values start limits) 1)
        → (r < length start.sums) ⊎ ((j : ℕ) × (j < length d) × (length start.sums ≤ r) × (get_or (a ++ b ++ c ++ d) r empty_row ≡ get_or d j empty_row))
    by a b c d count lt on limits_hold classes_hold =
        let one = length-append a b in
        let two = length-append (a ++ b) c in
        let three = length-append (a ++ b ++ c) d in
        elim (cases_lt r (length a)) [
          | inl goal ↦ inl (omega (arith, goal, count))
          | inr past ↦ elim (cases_lt r (length (a ++ b))) [
            | inl limit ↦
                let e1 = get_or_append_left (a ++ b ++ c) d empty_row r (omega (arith, limit, two)) in
                let e2 = get_or_append_left (a ++ b) c empty_row r limit in
                let e3 = get_or-append_right a b (length a) r empty_row refl past in
                let there = subst (λ row. is_broken (cell_values start limits) row ≡ true) (e1 ∙ e2 ∙ e3) on in
                absurd (not_broken (row_value (get_or b (r - length a) empty_row) (cell_values start limits) 1) there (limits_hold (r - length a) (omega (arith, limit, past, one))))
            | inr further ↦ elim (cases_lt r (length (a ++ b ++ c))) [
              | inl class ↦
                  let e1 = get_or_append_left (a ++ b ++ c) d empty_row r class in
                  let e2 = get_or-append_right (a ++ b) c (length (a ++ b)) r empty_row refl further in
                  let there = subst (λ row. is_broken (cell_values start limits) row ≡ true) (e1 ∙ e2) on in
                  absurd (not_broken (row_value (get_or c (r - length (a ++ b)) empty_row) (cell_values start limits) 1) there (classes_hold (r - length (a ++ b)) (omega (arith, class, further, two))))
              | inr flow ↦
                  let e1 = get_or-append_right (a ++ b ++ c) d (length (a ++ b ++ c)) r empty_row refl flow in
                  inr (r - length (a ++ b ++ c), omega (arith, lt, flow, three), omega (arith, flow, one, two, count), e1)
            ]
          ]
        ]

-- values that break none meet all rows
pub point_where_none : (start : Ground) (limits : List Limit) → first_broken start limits ≡ None → IsPointOf start limits (cell_values start limits) 1
point_where_none start limits none = record {
  all_variables = values_count start limits;
  positive = omega arith;
  meets = λ k d lt. by (row_value (get_or (program_rows start limits) k d) (cell_values start limits) 1) (fails k d lt);
}
  where
    by : (z : ℤ) → int_lt z (pos 0) ≡ false → pos 0 ≤ℤ z
    by z off = omega (arith, ints, off)

    all_fail : (n m : ℕ) → cond (nat_lt n m) (Some n) None ≡ None → m ≤ n
    all_fail n m e = elim (cases_lt n m) [
      | inl less ↦ absurd (let t : nat_lt n m ≡ true = grind (arith, nat_tests) in let h = rw t at e in let clash : Some n ≡ None = h in cc)
      | inr le ↦ le
    ]

    fails : (k : ℕ) (d : Row) → k < length (program_rows start limits) → is_broken (cell_values start limits) (get_or (program_rows start limits) k d) ≡ false
    fails k d lt =
        let p = is_broken (cell_values start limits) in
        let rows = program_rows start limits in
        let le = all_fail (position_or_len p rows) (length rows) none in
        fails_before_first p rows k d (omega (arith, lt, le))

pub some_broken : (start : Ground) (limits : List Limit) → (IsPointOf start limits (cell_values start limits) 1 → ⊥) → (r : ℕ) × (first_broken start limits ≡ Some r)
some_broken start limits never = by (first_broken start limits) refl
  where
    by : (o : Option ℕ) → first_broken start limits ≡ o → (r : ℕ) × (first_broken start limits ≡ Some r)
    by None e = absurd (never (point_where_none start limits e))
    by (Some r) e = (r, e)
