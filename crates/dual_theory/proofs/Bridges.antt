-- Points, which are lists, as values of all variables.
use Rattle.std.proofs.Common.{ℕ, zero, suc, ◌≡◌, ◌≢◌, ◌<◌, ◌≤◌, ◌+◌, ◌-◌, arith, refl, ap, sym, ◌∙◌, inl, inr, ◌⊎◌, ⊎_elim, subst, List, [], ◌∷◌, length, get_or, drop, cond, eqb}
use Rattle.std.specs.Prelude.{ℤ, pos, ◌+ℤ◌, ◌*ℤ◌, ◌≤ℤ◌, slice_index_or}
use Rattle.std.specs.List.{All}
use Rattle.std.proofs.lemmas.Int.{ints}
use Rattle.std.proofs.lemmas.Bool.{cases_lt}
use Rattle.std.proofs.lemmas.Bool.Decides.{nat_tests}
use Rattle.std.proofs.lemmas.List.{length-drop, get_or-drop}
use Rattle.mov_base.specs.Sums.{sum_z}
use Rattle.row_program.specs.Bounds.{IsRow}
use Rattle.row_program.specs.Sums.{sum_from}
use Rattle.row_program.specs.Forms.{coefficient, empty_row, variable_count}
use Rattle.row_program.specs.Points.{term_value, row_value, IsPoint, cost_of}
use Rattle.row_program.specs.declared.program.Term.{Term}
use Rattle.row_program.specs.declared.program.Row.{Row}
use Rattle.row_program.specs.declared.program.Program.{Program}
use Rattle.exact_num.proofs.Ring.{leaf, plus, times, same}
use Rattle.pivot_form.proofs.Sums.{sum_from-same}
use Rattle.dual_theory.proofs.FormValues.{row_at, value_of}
use Rattle.dual_theory.specs.Multipliers.{MeetsRest}
use Rattle.dual_theory.proofs.Sums.{sum_from-zero, sum_from-one, sum_from-nonneg}
use Rattle.dual_theory.proofs.Directions.{combined}
use Rattle.dual_theory.proofs.Values.{value_cost, value_own, value_slack, by_kind, linear}
use Rattle.dual_theory.proofs.First.{sum_shift, above_product}

abbrev pub as_values : List ℕ → ℕ → ℤ
as_values whole v = pos (get_or whole v 0)

-- ---- the cost
pub cost_is : (costs whole : List ℕ) → length whole ≡ length costs → sum_from (length costs) 0 (λ v. pos (get_or costs v 0) *ℤ as_values whole v) ≡ pos (cost_of costs whole)
cost_is [] whole h = refl
cost_is (c ∷ costs) [] h = absurd (omega (arith, h))
cost_is (c ∷ costs) (x ∷ whole) h =
    let shift = sum_shift (length costs) 0 (λ v. pos (get_or (c ∷ costs) v 0) *ℤ as_values (x ∷ whole) v) in
    let rest = cost_is costs whole (omega (arith, h)) in
    omega (arith, ints, shift, rest)

-- ---- rows
sum_add : (n v : ℕ) (f g h : ℕ → ℤ) → ((u : ℕ) → h u ≡ f u +ℤ g u) → sum_from n v h ≡ sum_from n v f +ℤ sum_from n v g
sum_add zero v f g h e = omega (arith, ints)
sum_add (suc n) v f g h e = omega (arith, ints, e v, sum_add n (suc v) f g h e)

term_split : (a b x : ℤ) → (a +ℤ b) *ℤ x ≡ a *ℤ x +ℤ b *ℤ x
term_split a b x = same (times (plus (leaf a) (leaf b)) (leaf x)) (plus (times (leaf a) (leaf x)) (times (leaf b) (leaf x))) (omega arith)

pub terms_are : (n : ℕ) (terms : List Term) (whole : List ℕ) → All (λ t. t.variable < n) terms → sum_from n 0 (λ v. coefficient terms v *ℤ as_values whole v) ≡ sum_z (term_value whole) terms
terms_are n [] whole a = sum_from-zero n 0 (λ v. coefficient [] v *ℤ as_values whole v) (λ u h l. zero_front (as_values whole u))
  where
    zero_front : (z : ℤ) → pos 0 *ℤ z ≡ pos 0
    zero_front z = omega (arith, ints)
terms_are n (t ∷ terms) whole a =
    let rest = terms_are n terms whole (λ k d h. a (suc k) d (omega (arith, h))) in
    let low : t.variable < n = a zero t (omega arith) in
    let split = sum_add n 0 first (λ v. coefficient terms v *ℤ as_values whole v) (λ v. coefficient (t ∷ terms) v *ℤ as_values whole v) (λ u. term_split (cond (eqb t.variable u) t.times (pos 0)) (coefficient terms u) (as_values whole u)) in
    let alone : sum_from n 0 first ≡ first t.variable = sum_from-one n 0 first t.variable (omega arith) (omega (arith, low)) (λ u h l apart. ap (λ (z : ℤ). z *ℤ as_values whole u) (test_off u apart) ∙ zero_front (as_values whole u)) in
    let own : first t.variable ≡ term_value whole t = ap (λ (z : ℤ). z *ℤ as_values whole t.variable) test_on in
    omega (arith, ints, rest, split, alone, own)
  where
    first : ℕ → ℤ
    first v = cond (eqb t.variable v) t.times (pos 0) *ℤ as_values whole v

    zero_front : (z : ℤ) → pos 0 *ℤ z ≡ pos 0
    zero_front z = omega (arith, ints)

    test_off : (u : ℕ) → u ≢ t.variable → cond (eqb t.variable u) t.times (pos 0) ≡ pos 0
    test_off u apart = grind (arith, nat_tests)

    test_on : cond (eqb t.variable t.variable) t.times (pos 0) ≡ t.times
    test_on = grind (arith, nat_tests)

pub row_is : (p : Program) (i : ℕ) (whole : List ℕ) (den : ℕ) → i < length p.rows → row_at (length p.costs) (slice_index_or p.rows i empty_row) (as_values whole) (pos den) ≡ row_value (slice_index_or p.rows i empty_row) whole den
row_is p i whole den h =
    let row = slice_index_or p.rows i empty_row in
    let good : IsRow (length p.costs) row = p.bounds.good_rows i empty_row h in
    let terms = terms_are (length p.costs) row.terms whole good.within in
    ap (λ (z : ℤ). row.constant *ℤ pos den +ℤ z) terms

-- ---- the values at a point
pub value_cost_is : (p : Program) (whole : List ℕ) (den : ℕ) → length whole ≡ length p.costs → value_of p (as_values whole) (pos den) 0 ≡ pos (cost_of p.costs whole)
value_cost_is p whole den h = value_cost p (as_values whole) (pos den) 0 refl ∙ cost_is p.costs whole h

pub value_own_is : (p : Program) (whole : List ℕ) (den v : ℕ) → v < length p.costs → value_of p (as_values whole) (pos den) (suc v) ≡ pos (get_or whole v 0)
value_own_is p whole den v l = value_own p (as_values whole) (pos den) (suc v) (omega arith) (omega (arith, l)) ∙ (let e : suc v - 1 ≡ v = omega arith in ap (as_values whole) e)

pub value_slack_is : (p : Program) (whole : List ℕ) (den i : ℕ) → i < length p.rows → value_of p (as_values whole) (pos den) (1 + length p.costs + i) ≡ row_value (slice_index_or p.rows i empty_row) whole den
value_slack_is p whole den i h =
    let back : 1 + length p.costs + i - (1 + length p.costs) ≡ i = omega arith in
    value_slack p (as_values whole) (pos den) (1 + length p.costs + i) (omega arith) ∙ ap (λ (k : ℕ). row_at (length p.costs) (slice_index_or p.rows k empty_row) (as_values whole) (pos den)) back ∙ row_is p i whole den h

-- ---- which values are not negative
front_above : (p : Program) (whole : List ℕ) (den j : ℕ) → j ≤ length p.costs → pos 0 ≤ℤ value_of p (as_values whole) (pos den) j
front_above p whole den j h =
    by_kind (length p.costs) j
    (λ e. let is = value_cost p (as_values whole) (pos den) j e in let sum = sum_from-nonneg (length p.costs) 0 (λ v. pos (get_or p.costs v 0) *ℤ as_values whole v) (λ u a l. above_product (get_or p.costs u 0) (as_values whole u) (omega (arith, ints))) in omega (arith, ints, is, sum))
    (λ k l. let is = value_own p (as_values whole) (pos den) j k l in omega (arith, ints, is))
    (λ k. absurd (omega (arith, k, h)))

slack_at : (p : Program) (whole : List ℕ) (den j : ℕ) → length p.costs < j → j < variable_count p → pos 0 ≤ℤ row_value (slice_index_or p.rows (j - (1 + length p.costs)) empty_row) whole den → pos 0 ≤ℤ value_of p (as_values whole) (pos den) j
slack_at p whole den j h l above =
    let i = j - (1 + length p.costs) in
    let back : 1 + length p.costs + i ≡ j = omega (arith, h) in
    let is : value_of p (as_values whole) (pos den) j ≡ row_value (slice_index_or p.rows i empty_row) whole den = ap (value_of p (as_values whole) (pos den)) (sym back) ∙ value_slack_is p whole den i (omega (arith, h, l)) in
    omega (arith, ints, is, above)

-- at a point all are
pub point_above : (p : Program) (whole : List ℕ) (den : ℕ) → IsPoint p whole den → (j : ℕ) → j < variable_count p → pos 0 ≤ℤ value_of p (as_values whole) (pos den) j
point_above p whole den point j l =
    ⊎_elim
    (λ (past : length p.costs < j). slack_at p whole den j past l (point.meets (j - (1 + length p.costs)) empty_row (omega (arith, past, l))))
    (λ low. front_above p whole den j low)
    (cases_lt (length p.costs) j)

-- where the rows that aren't kept hold, all but the kept slacks are
pub rest_above : (p : Program) (whole : List ℕ) (den : ℕ) → MeetsRest p whole den → (j : ℕ) → j < variable_count p → (j < 1 + length p.costs) ⊎ (1 + length p.costs + p.kept ≤ j) → pos 0 ≤ℤ value_of p (as_values whole) (pos den) j
rest_above p whole den meets j l (inl low) = front_above p whole den j (omega (arith, low))
rest_above p whole den meets j l (inr high) =
    let i = j - (1 + length p.costs) in
    let k = i - p.kept in
    let back : p.kept + k ≡ i = omega (arith, high) in
    let inside : k < length (drop p.kept p.rows) = omega (arith, length-drop p.kept p.rows, high, l) in
    let there : get_or (drop p.kept p.rows) k empty_row ≡ slice_index_or p.rows i empty_row = get_or-drop p.kept p.rows k empty_row ∙ ap (λ (m : ℕ). get_or p.rows m empty_row) back in
    slack_at p whole den j (omega (arith, high)) l (subst (λ (row : Row). pos 0 ≤ℤ row_value row whole den) there (meets.meets k empty_row inside))

-- ---- values in proportion
value_ext : (p : Program) (x z : ℕ → ℤ) (d : ℤ) (j : ℕ) → ((v : ℕ) → v < length p.costs → x v ≡ z v) → value_of p x d j ≡ value_of p z d j
value_ext p x z d j h =
    by_kind (length p.costs) j
    (λ e. value_cost p x d j e ∙ sum_from-same (length p.costs) 0 (λ v. pos (get_or p.costs v 0) *ℤ x v) (λ v. pos (get_or p.costs v 0) *ℤ z v) (λ u a l. ap (λ (y : ℤ). pos (get_or p.costs u 0) *ℤ y) (h u (omega (arith, l)))) ∙ sym (value_cost p z d j e))
    (λ k l. value_own p x d j k l ∙ h (j - 1) (omega (arith, k, l)) ∙ sym (value_own p z d j k l))
    (λ k. value_slack p x d j k ∙ row_ext (slice_index_or p.rows (j - (1 + length p.costs)) empty_row) ∙ sym (value_slack p z d j k))
  where
    row_ext : (row : Row) → row_at (length p.costs) row x d ≡ row_at (length p.costs) row z d
    row_ext row = ap (λ (y : ℤ). row.constant *ℤ d +ℤ y) (sum_from-same (length p.costs) 0 (λ v. coefficient row.terms v *ℤ x v) (λ v. coefficient row.terms v *ℤ z v) (λ u a l. ap (λ (y : ℤ). coefficient row.terms u *ℤ y) (h u (omega (arith, l)))))

scaled : (p : Program) (x : ℕ → ℤ) (a d : ℤ) (j : ℕ) → value_of p (λ v. a *ℤ x v) (a *ℤ d) j ≡ a *ℤ value_of p x d j
scaled p x a d j =
    value_ext p (λ v. a *ℤ x v) (combined a x (pos 0) x) (a *ℤ d) j (λ v l. more (a *ℤ x v) (x v))
    ∙ ap (λ (e : ℤ). value_of p (combined a x (pos 0) x) e j) (more (a *ℤ d) d)
    ∙ linear p x x a (pos 0) d d j
    ∙ sym (more (a *ℤ value_of p x d j) (value_of p x d j))
  where
    more : (m n : ℤ) → m ≡ m +ℤ pos 0 *ℤ n
    more m n = omega (arith, ints)

pub in_proportion : (p : Program) (x z : ℕ → ℤ) (d e : ℤ) → ((v : ℕ) → v < length p.costs → e *ℤ x v ≡ d *ℤ z v) → (j : ℕ) → e *ℤ value_of p x d j ≡ d *ℤ value_of p z e j
in_proportion p x z d e h j =
    sym (scaled p x e d j)
    ∙ value_ext p (λ v. e *ℤ x v) (λ v. d *ℤ z v) (e *ℤ d) j h
    ∙ ap (λ (f : ℤ). value_of p (λ v. d *ℤ z v) f j) (same (times (leaf e) (leaf d)) (times (leaf d) (leaf e)) (omega arith))
    ∙ scaled p z d e j
