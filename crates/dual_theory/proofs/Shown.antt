-- What the multipliers show, and that no point is left where nothing enters.
use Rattle.std.proofs.Common.{ℕ, zero, suc, ◌≡◌, ◌≢◌, ◌<◌, ◌≤◌, ◌+◌, ◌-◌, ◌*◌, ◌/◌, arith, refl, ap, sym, ◌∙◌, inl, inr, ◌⊎◌, ⊎_elim, subst, List, [], ◌∷◌, length, get_or, map, Some, None}
use Rattle.std.specs.Prelude.{ℤ, pos, negsuc, ◌*ℤ◌, ◌<ℤ◌, ◌≤ℤ◌, unsigned_abs}
use lib.IntN.{neg_ℤ}
use Prim.Native.Nat.{◌∣◌}
use Rattle.std.specs.List.{All, fold}
use Rattle.std.proofs.lemmas.Int.{ints}
use Rattle.std.proofs.lemmas.Bool.{cases_eq}
use Rattle.std.proofs.lemmas.List.{length-map, get_or_default}
use Rattle.std.proofs.lemmas.List.FromFn.{length-map-range_with_len, get_or-map-range_with_len}
use Rattle.std.proofs.lemmas.Nat.Gcd.{dvd-zero}
use Rattle.std.proofs.Math.Nat.{mul-dvd-mul_right, zero-div, eq-zero_of_zero-dvd}
use Rattle.std.proofs.Math.ListN.{get_or-map}
use Rattle.row_program.specs.Sums.{sum_from, LexPositive}
use Rattle.row_program.specs.Forms.{Table, Tableau, entry, right_side, basic_of, tableau, empty_row, Holds, IsNonbasic}
use Rattle.row_program.specs.Method.{row_of_basic, column, column_in, leaving, entering, IsBest}
use Rattle.row_program.specs.Points.{row_value, IsPoint, cost_of}
use Rattle.row_program.specs.declared.program.Row.{Row}
use Rattle.row_program.specs.declared.program.Program.{Program}
use Rattle.exact_num.specs.Divisors.{gcd_of, gcd_with}
use Rattle.exact_num.proofs.Divisors.{fold_divides, fold_greatest, one_left}
use Rattle.exact_num.proofs.Ring.{leaf, times, opposite, same}
use Rattle.pivot_form.proofs.Sums.{positive_product, sum_from-same, sum_from-scale}
use Rattle.dual_theory.proofs.FormValues.{value_of, IsRun}
use Rattle.dual_theory.specs.Multipliers.{weighted, BoundsCost, RulesOut, divisor_of, lowest, IsLowest, slack_sizes, multipliers_of}
use Rattle.dual_theory.proofs.Sums.{sum_from-split, sum_from-nonneg, sum_from-neg, kept_below}
use Rattle.dual_theory.proofs.Directions.{find_row}
use Rattle.dual_theory.proofs.Found.{row_of_is}
use Rattle.dual_theory.proofs.Chosen.{leaving_negative, leaving_row, entering_none}
use Rattle.dual_theory.proofs.First.{sum_shift}
use Rattle.dual_theory.proofs.Rising.{column_positive}
use Rattle.dual_theory.proofs.Multiples.{exact_quotient}
use Rattle.dual_theory.proofs.Bridges.{as_values, value_cost_is, value_slack_is, point_above, rest_above}
use Rattle.dual_theory.proofs.Best.{nonnegative_product}
use Rattle.dual_theory.proofs.Unique.{carried}

-- a row with a negative right side and no negative product among those that aren't kept
pub never_kept : (t : Tableau) (r low kept more : ℕ) (y : ℕ → ℤ) (d : ℤ) → t.width ≡ low + kept + more → Holds t y d → r < t.height → (t.right r *ℤ d) <ℤ pos 0
    → ((u : ℕ) → u < low → pos 0 ≤ℤ (t.at r u *ℤ y u)) → ((u : ℕ) → low + kept ≤ u → u < low + kept + more → pos 0 ≤ℤ (t.at r u *ℤ y u)) → sum_from kept low (λ u. t.at r u *ℤ y u) <ℤ pos 0
never_kept t r low kept more y d width holds within negative h k =
    let e = holds r within in
    let x = ap (λ (n : ℕ). sum_from n 0 (λ j. t.at r j *ℤ y j)) width in
    let b = kept_below low kept more (λ u. t.at r u *ℤ y u) h k in
    omega (arith, ints, e, x, b, negative)

-- the row of the cost: no product but that of the cost is positive, away from the kept ones
pub best_kept : (t : Tableau) (low kept more : ℕ) (y : ℕ → ℤ) (d : ℤ) → t.width ≡ suc low + kept + more → Holds t y d → 0 < t.height
    → ((u : ℕ) → 0 < u → u < suc low → (t.at 0 u *ℤ y u) ≤ℤ pos 0) → ((u : ℕ) → suc low + kept ≤ u → u < suc low + kept + more → (t.at 0 u *ℤ y u) ≤ℤ pos 0)
    → sum_from kept (suc low) (λ u. t.at 0 u *ℤ y u) ≤ℤ pos 0 → (t.right 0 *ℤ d) ≤ℤ (t.at 0 0 *ℤ y 0)
best_kept t low kept more y d width holds within h k s =
    let e = holds 0 within in
    let x = ap (λ (n : ℕ). sum_from n 0 (λ j. t.at 0 j *ℤ y j)) (width ∙ count) in
    let m = sum_from-split low kept 1 (λ j. t.at 0 j *ℤ y j) in
    let n = sum_from-split (low + kept) more 1 (λ j. t.at 0 j *ℤ y j) in
    let mid = ap (λ (u : ℕ). sum_from kept u (λ j. t.at 0 j *ℤ y j)) one in
    let a = nonpositive low 1 (λ j. t.at 0 j *ℤ y j) (λ u i j. h u (omega (arith, i)) (omega (arith, j))) in
    let b = nonpositive more (1 + (low + kept)) (λ j. t.at 0 j *ℤ y j) (λ u i j. k u (omega (arith, i)) (omega (arith, j))) in
    omega (arith, ints, e, x, m, n, mid, a, b, s)
  where
    count : suc low + kept + more ≡ suc ((low + kept) + more)
    count = omega arith

    one : 1 + low ≡ suc low
    one = omega arith

    nonpositive : (n v : ℕ) (f : ℕ → ℤ) → ((u : ℕ) → v ≤ u → u < v + n → f u ≤ℤ pos 0) → sum_from n v f ≤ℤ pos 0
    nonpositive zero v f h = omega (arith, ints)
    nonpositive (suc n) v f h = let x = h v (omega arith) (omega arith) in let y = nonpositive n (suc v) f (λ u a b. h u (omega (arith, a)) (omega (arith, b))) in omega (arith, ints, x, y)

-- ---- the greatest common divisor of a list
fold_is : (g : ℕ) (xs : List ℕ) → fold gcd_of g xs ≡ fold gcd_with g (map pos xs)
fold_is g [] = refl
fold_is g (x ∷ xs) = fold_is (gcd_of g x) xs

entry_pos : (xs : List ℕ) (k : ℕ) → get_or (map pos xs) k (pos 0) ≡ pos (get_or xs k 0)
entry_pos xs k = get_or-map pos xs k 0

pub divisor_divides : (xs : List ℕ) (k : ℕ) → k < length xs → divisor_of xs ∣ get_or xs k 0
divisor_divides xs k h =
    subst (λ (z : ℤ). divisor_of xs ∣ unsigned_abs z) (entry_pos xs k)
    (subst (λ (g : ℕ). g ∣ unsigned_abs (get_or (map pos xs) k (pos 0))) (sym (fold_is 0 xs)) ((fold_divides 0 (map pos xs)).1 k (pos 0) (omega (arith, h, length-map xs pos))))

pub divisor_greatest : (d : ℕ) (xs : List ℕ) → ((k : ℕ) → k < length xs → d ∣ get_or xs k 0) → d ∣ divisor_of xs
divisor_greatest d xs h =
    subst (λ (g : ℕ). d ∣ g) (sym (fold_is 0 xs))
    (fold_greatest d 0 (map pos xs) (dvd-zero d) (λ k e l. at k e l (omega (arith, l, length-map xs pos))))
  where
    at : (k : ℕ) (e : ℤ) → k < length (map pos xs) → k < length xs → d ∣ unsigned_abs (get_or (map pos xs) k e)
    at k e l m = subst (λ (z : ℤ). d ∣ unsigned_abs z) (sym (default k e l ∙ entry_pos xs k)) (h k m)
      where
        default : (k : ℕ) (e : ℤ) → k < length (map pos xs) → get_or (map pos xs) k e ≡ get_or (map pos xs) k (pos 0)
        default k e l = get_or_default (map pos xs) k e (pos 0) l

lowest_at : (xs : List ℕ) (k : ℕ) → k < length xs → get_or (lowest xs) k 0 ≡ get_or xs k 0 / divisor_of xs
lowest_at xs k h = get_or_default (lowest xs) k 0 (0 / divisor_of xs) (omega (arith, h, length-map xs (λ x. x / divisor_of xs))) ∙ get_or-map (λ x. x / divisor_of xs) xs k 0

pub lowest_back : (xs : List ℕ) (k : ℕ) → k < length xs → get_or (lowest xs) k 0 * divisor_of xs ≡ get_or xs k 0
lowest_back xs k h = ap (λ (m : ℕ). m * divisor_of xs) (lowest_at xs k h) ∙ exact_quotient (get_or xs k 0) (divisor_of xs) (divisor_divides xs k h)

pub lowest_is : (xs : List ℕ) → IsLowest (lowest xs)
lowest_is xs = ⊎_elim (λ z. inr (all_zero z)) (λ apart. inl (one_left (divisor_of (lowest xs)) (divisor_of xs) (omega (arith, apart)) (divisor_greatest (divisor_of (lowest xs) * divisor_of xs) xs (λ k h. subst (λ (m : ℕ). divisor_of (lowest xs) * divisor_of xs ∣ m) (lowest_back xs k h) (mul-dvd-mul_right (divisor_of (lowest xs)) (divisor_divides (lowest xs) k (omega (arith, h, length-map xs (λ x. x / divisor_of xs)))) (divisor_of xs)))))) (cases_eq (divisor_of xs) 0)
  where
    all_zero : divisor_of xs ≡ 0 → All (λ x. x ≡ 0) (lowest xs)
    all_zero z k d h =
        let l : k < length xs = omega (arith, h, length-map xs (λ x. x / divisor_of xs)) in
        let none : get_or xs k 0 ≡ 0 = eq-zero_of_zero-dvd (subst (λ (g : ℕ). g ∣ get_or xs k 0) z (divisor_divides xs k l)) in
        get_or_default (lowest xs) k d 0 h ∙ lowest_at xs k l ∙ ap (λ (m : ℕ). m / divisor_of xs) none ∙ zero-div (divisor_of xs)

-- ---- sums of multiples of rows
weighted_is : (ms : List ℕ) (rows : List Row) (whole : List ℕ) (den : ℕ) → length ms ≤ length rows → weighted ms rows whole den ≡ sum_from (length ms) 0 (λ i. pos (get_or ms i 0) *ℤ row_value (get_or rows i empty_row) whole den)
weighted_is [] rows whole den h = refl
weighted_is (m ∷ ms) [] whole den h = absurd (omega (arith, h))
weighted_is (m ∷ ms) (row ∷ rows) whole den h =
    let shift = sum_shift (length ms) 0 (λ i. pos (get_or (m ∷ ms) i 0) *ℤ row_value (get_or (row ∷ rows) i empty_row) whole den) in
    let rest = weighted_is ms rows whole den (omega (arith, h)) in
    omega (arith, ints, shift, rest)

sum_move : (n low v : ℕ) (f : ℕ → ℤ) → sum_from n (low + v) f ≡ sum_from n v (λ i. f (low + i))
sum_move zero low v f = refl
sum_move (suc n) low v f =
    let e : suc (low + v) ≡ low + suc v = omega arith in
    let more = ap (λ (u : ℕ). sum_from n u f) e in
    omega (arith, ints, more, sum_move n low (suc v) f)

-- the multipliers, times their divisor, are the sizes of the entries
module _ (p : Program) (t : Table) (r : ℕ) (whole : List ℕ) (den : ℕ) where
  abbrev low : ℕ
  low = 1 + length p.costs

  abbrev sizes : List ℕ
  sizes = slack_sizes p t r

  abbrev y : ℕ → ℤ
  y = value_of p (as_values whole) (pos den)

  size_at : (i : ℕ) → i < p.kept → get_or sizes i 0 ≡ unsigned_abs (entry t r (low + i))
  size_at i h = get_or-map-range_with_len (λ k. unsigned_abs (entry t r (1 + length p.costs + k))) 0 p.kept i i 0 h (omega arith)

  sizes_length : length sizes ≡ p.kept
  sizes_length = length-map-range_with_len (λ k. unsigned_abs (entry t r (1 + length p.costs + k))) 0 p.kept

  few : p.kept ≤ length p.rows
  few = p.bounds.few_kept

  pub kept_sum : pos (divisor_of sizes) *ℤ weighted (multipliers_of p t r) p.rows whole den ≡ sum_from p.kept 0 (λ i. pos (unsigned_abs (entry t r (low + i))) *ℤ y (low + i))
  kept_sum =
      let long : length (lowest sizes) ≡ p.kept = length-map sizes (λ x. x / divisor_of sizes) ∙ sizes_length in
      ap (λ (z : ℤ). pos (divisor_of sizes) *ℤ z) (weighted_is (lowest sizes) p.rows whole den (omega (arith, long, few)) ∙ ap (λ (k : ℕ). sum_from k 0 (λ i. pos (get_or (lowest sizes) i 0) *ℤ row_value (get_or p.rows i empty_row) whole den)) long)
      ∙ sym (sum_from-scale p.kept 0 (pos (divisor_of sizes)) (λ i. pos (get_or (lowest sizes) i 0) *ℤ row_value (get_or p.rows i empty_row) whole den))
      ∙ sum_from-same p.kept 0 (λ i. pos (divisor_of sizes) *ℤ (pos (get_or (lowest sizes) i 0) *ℤ row_value (get_or p.rows i empty_row) whole den)) (λ i. pos (unsigned_abs (entry t r (low + i))) *ℤ y (low + i)) (λ i a h. one i (omega (arith, h)))
    where
      one : (i : ℕ) → i < p.kept → pos (divisor_of sizes) *ℤ (pos (get_or (lowest sizes) i 0) *ℤ row_value (get_or p.rows i empty_row) whole den) ≡ pos (unsigned_abs (entry t r (low + i))) *ℤ y (low + i)
      one i h =
          let back = lowest_back sizes i (omega (arith, h, sizes_length)) ∙ size_at i h in
          let value = value_slack_is p whole den i (omega (arith, h, few)) in
          product (divisor_of sizes) (get_or (lowest sizes) i 0) (unsigned_abs (entry t r (low + i))) (row_value (get_or p.rows i empty_row) whole den) back ∙ ap (λ (z : ℤ). pos (unsigned_abs (entry t r (low + i))) *ℤ z) (sym value)
        where
          product : (g m s : ℕ) (z : ℤ) → m * g ≡ s → pos g *ℤ (pos m *ℤ z) ≡ pos s *ℤ z
          product g m s z e =
              let q : pos m *ℤ pos g ≡ pos s = omega (arith, ints, e) in
              same (times (leaf (pos g)) (times (leaf (pos m)) (leaf z))) (times (times (leaf (pos m)) (leaf (pos g))) (leaf z)) (omega arith) ∙ ap (λ (w : ℤ). w *ℤ z) q

-- ---- at Never
pub negative_product : (a : ℤ) (d : ℕ) → a <ℤ pos 0 → 1 ≤ d → (a *ℤ pos d) <ℤ pos 0
negative_product a d h k =
    let q = positive_product (neg_ℤ a) (pos d) (omega (arith, ints, h)) (omega (arith, ints, k)) in
    let ring : neg_ℤ a *ℤ pos d ≡ neg_ℤ (a *ℤ pos d) = same (times (opposite (leaf a)) (leaf (pos d))) (opposite (times (leaf a) (leaf (pos d)))) (omega arith) in
    omega (arith, ints, q, ring)

pub never_point : (p : Program) (t : Table) (r : ℕ) → IsRun p t → leaving t ≡ Some r → entering t r ≡ None → (whole : List ℕ) (den : ℕ) → IsPoint p whole den → ⊥
never_point p t r run leaves none whole den point =
    let within = leaving_row t r run.shape.basics leaves in
    let holds = run.sound (as_values whole) (pos den) r within in
    let above = sum_from-nonneg t.variables 0 (λ j. entry t r j *ℤ value_of p (as_values whole) (pos den) j) (λ j a l. nonnegative_product (entry t r j) (value_of p (as_values whole) (pos den) j) (entering_none t r j none (omega (arith, l))) (point_above p whole den point j (omega (arith, l, run.variables)))) in
    let below = negative_product (right_side t r) den (leaving_negative t r leaves) point.positive in
    omega (arith, ints, holds, above, below)

size_of_above : (x : ℤ) → pos 0 ≤ℤ x → pos (unsigned_abs x) ≡ x
size_of_above x h = omega (arith, ints, h)

size_of_below : (x : ℤ) → x ≤ℤ pos 0 → pos (unsigned_abs x) ≡ neg_ℤ x
size_of_below x h = omega (arith, ints, h)

below_factor : (g : ℕ) (s : ℤ) → (pos g *ℤ s) <ℤ pos 0 → s <ℤ pos 0
below_factor g (pos s) h = absurd (omega (arith, ints, h))
below_factor g (negsuc s) h = omega (arith, ints)

pub never_shown : (p : Program) (t : Table) (r : ℕ) → IsRun p t → leaving t ≡ Some r → entering t r ≡ None → RulesOut p (multipliers_of p t r)
never_shown p t r run leaves none whole den meets =
    below_factor (divisor_of (slack_sizes p t r)) (weighted (multipliers_of p t r) p.rows whole den)
    (subst (λ (z : ℤ). z <ℤ pos 0) (sym (kept_sum p t r whole den ∙ sum_from-same p.kept 0 (λ i. pos (unsigned_abs (entry t r (low + i))) *ℤ y (low + i)) (λ i. entry t r (low + i) *ℤ y (low + i)) (λ i a h. ap (λ (z : ℤ). z *ℤ y (low + i)) (size_of_above (entry t r (low + i)) (entry_above (low + i) (omega (arith, h, few, run.variables))))) ∙ moved))
    (never_kept (tableau t) r low p.kept more y (pos den) width (run.sound (as_values whole) (pos den)) within (negative_product (right_side t r) den (leaving_negative t r leaves) meets.positive) (λ u h. above u (omega (arith, h, run.variables)) (inl h)) (λ u h l. above u (omega (arith, l, few, run.variables)) (inr h))))
  where
    low : ℕ
    low = 1 + length p.costs

    more : ℕ
    more = length p.rows - p.kept

    y : ℕ → ℤ
    y = value_of p (as_values whole) (pos den)

    few : p.kept ≤ length p.rows
    few = p.bounds.few_kept

    width : t.variables ≡ low + p.kept + more
    width = let f = few in omega (arith, run.variables, f)

    within : r < length t.rows
    within = leaving_row t r run.shape.basics leaves

    entry_above : (j : ℕ) → j < t.variables → pos 0 ≤ℤ entry t r j
    entry_above j h = entering_none t r j none h

    above : (u : ℕ) → u < t.variables → (u < low) ⊎ (low + p.kept ≤ u) → pos 0 ≤ℤ (entry t r u *ℤ y u)
    above u h where_is = nonnegative_product (entry t r u) (y u) (entry_above u h) (rest_above p whole den meets u (omega (arith, h, run.variables)) where_is)

    moved : sum_from p.kept 0 (λ i. entry t r (low + i) *ℤ y (low + i)) ≡ sum_from p.kept low (λ u. entry t r u *ℤ y u)
    moved = sym (sum_move p.kept low 0 (λ u. entry t r u *ℤ y u)) ∙ (let e : low + 0 ≡ low = omega arith in ap (λ (v : ℕ). sum_from p.kept v (λ u. entry t r u *ℤ y u)) e)

-- ---- at Best
-- no entry but the cost's own is positive in the equation of the cost
cost_row_below : (p : Program) (t : Table) (j : ℕ) → IsRun p t → j < t.variables → j ≢ 0 → entry t 0 j ≤ℤ pos 0
cost_row_below p t j run h apart =
    ⊎_elim
    (λ found. let z : entry t 0 j ≡ pos 0 = subst (λ (b : ℕ). entry t 0 b ≡ pos 0) found.2 (run.shape.solved.clear found.0 0 found.1 top (λ e. apart (sym found.2 ∙ ap (basic_of t) (sym e) ∙ run.cost_first))) in omega (arith, ints, z))
    (λ free. of_column (length p.costs) (column t j) (column_positive p t j run h free) (own free))
    (find_row (length t.rows) (basic_of t) j)
  where
    top : 0 < length t.rows
    top = omega (arith, run.height)

    own : IsNonbasic (tableau t) j → column t j 0 ≡ neg_ℤ (entry t 0 j)
    own free = ap (column_in t j 0) (ap (row_of_basic t) (sym run.cost_first) ∙ row_of_is t 0 run.shape top)

    of_column : (n : ℕ) (f : ℕ → ℤ) → LexPositive (1 + n) 0 f → f 0 ≡ neg_ℤ (entry t 0 j) → entry t 0 j ≤ℤ pos 0
    of_column n f h e = by_case n f (let k : 1 + n ≡ suc n = omega arith in subst (λ (m : ℕ). LexPositive m 0 f) k h) e
      where
        by_case : (n : ℕ) (f : ℕ → ℤ) → LexPositive (suc n) 0 f → f 0 ≡ neg_ℤ (entry t 0 j) → entry t 0 j ≤ℤ pos 0
        by_case n f (inl q) e = omega (arith, ints, q, e)
        by_case n f (inr q) e = let z = q.0 in omega (arith, ints, z, e)

pub best_shown : (p : Program) (t : Table) → IsRun p t → IsBest t → BoundsCost p (multipliers_of p t 0) (right_side t 0) (entry t 0 0)
best_shown p t run best whole den meets above_sum =
    let shown = best_kept (tableau t) (length p.costs) p.kept more y (pos den) width (run.sound (as_values whole) (pos den)) top
    (λ u a h. below u (omega (arith, h, run.variables)) (omega (arith, a)) (inl (omega (arith, h))))
    (λ u h l. below u (omega (arith, l, few, run.variables)) (omega (arith, h)) (inr (omega (arith, h))))
    kept_low in
    let cost = value_cost_is p whole den meets.all_variables in
    let turn : entry t 0 0 *ℤ y 0 ≡ pos (cost_of p.costs whole) *ℤ entry t 0 0 = ap (λ (z : ℤ). entry t 0 0 *ℤ z) cost ∙ same (times (leaf (entry t 0 0)) (leaf (pos (cost_of p.costs whole)))) (times (leaf (pos (cost_of p.costs whole))) (leaf (entry t 0 0))) (omega arith) in
    omega (arith, ints, shown, turn)
  where
    more : ℕ
    more = length p.rows - p.kept

    low : ℕ
    low = 1 + length p.costs

    y : ℕ → ℤ
    y = value_of p (as_values whole) (pos den)

    few : p.kept ≤ length p.rows
    few = p.bounds.few_kept

    top : 0 < length t.rows
    top = omega (arith, run.height)

    width : t.variables ≡ suc (length p.costs) + p.kept + more
    width = let f = few in omega (arith, run.variables, f)

    below : (u : ℕ) → u < t.variables → u ≢ 0 → (u < low) ⊎ (low + p.kept ≤ u) → (entry t 0 u *ℤ y u) ≤ℤ pos 0
    below u h apart where_is =
        let e = cost_row_below p t u run h apart in
        let q = nonnegative_product (neg_ℤ (entry t 0 u)) (y u) (omega (arith, ints, e)) (rest_above p whole den meets u (omega (arith, h, run.variables)) where_is) in
        let ring : neg_ℤ (entry t 0 u) *ℤ y u ≡ neg_ℤ (entry t 0 u *ℤ y u) = same (times (opposite (leaf (entry t 0 u))) (leaf (y u))) (opposite (times (leaf (entry t 0 u)) (leaf (y u)))) (omega arith) in
        omega (arith, ints, q, ring)

    negated : sum_from p.kept 0 (λ i. pos (unsigned_abs (entry t 0 (low + i))) *ℤ y (low + i)) ≡ neg_ℤ (sum_from p.kept 0 (λ i. entry t 0 (low + i) *ℤ y (low + i)))
    negated =
        sum_from-same p.kept 0 (λ i. pos (unsigned_abs (entry t 0 (low + i))) *ℤ y (low + i)) (λ i. neg_ℤ (entry t 0 (low + i) *ℤ y (low + i))) (λ i a h. ap (λ (z : ℤ). z *ℤ y (low + i)) (size_of_below (entry t 0 (low + i)) (cost_row_below p t (low + i) run (omega (arith, h, few, run.variables)) (omega arith))) ∙ same (times (opposite (leaf (entry t 0 (low + i)))) (leaf (y (low + i)))) (opposite (times (leaf (entry t 0 (low + i))) (leaf (y (low + i))))) (omega arith))
        ∙ sum_from-neg p.kept 0 (λ i. entry t 0 (low + i) *ℤ y (low + i)) (λ i. neg_ℤ (entry t 0 (low + i) *ℤ y (low + i))) (λ i. refl)

    moved : sum_from p.kept 0 (λ i. entry t 0 (low + i) *ℤ y (low + i)) ≡ sum_from p.kept (suc (length p.costs)) (λ u. entry t 0 u *ℤ y u)
    moved = sym (sum_move p.kept low 0 (λ u. entry t 0 u *ℤ y u)) ∙ (let e : low + 0 ≡ suc (length p.costs) = omega arith in ap (λ (v : ℕ). sum_from p.kept v (λ u. entry t 0 u *ℤ y u)) e)

    kept_low : sum_from p.kept (suc (length p.costs)) (λ u. entry t 0 u *ℤ y u) ≤ℤ pos 0
    kept_low =
        let sum = kept_sum p t 0 whole den in
        let q = nonnegative_product (pos (divisor_of (slack_sizes p t 0))) (weighted (multipliers_of p t 0) p.rows whole den) (omega (arith, ints)) above_sum in
        let n = negated in
        let m = moved in
        omega (arith, ints, sum, q, n, m)

pub same_bound : (p : Program) (ms : List ℕ) (num den a b : ℤ) → BoundsCost p ms num den → pos 0 <ℤ den → pos 0 <ℤ b → a *ℤ den ≡ num *ℤ b → BoundsCost p ms a b
same_bound p ms num den a b bounds h i e whole d meets above = carried num den a b (pos (cost_of p.costs whole)) (pos d) h i e (bounds whole d meets above)
