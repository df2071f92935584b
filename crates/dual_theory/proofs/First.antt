-- The first form of a program keeps what every form of its run keeps.
use Rattle.std.proofs.Common.{ℕ, zero, suc, ◌≡◌, ◌≢◌, ◌<◌, ◌≤◌, ◌+◌, ◌-◌, arith, refl, ap, sym, ◌∙◌, inl, inr, ⊎_elim, [], length, get_or, cond, eqb}
use Rattle.std.specs.Prelude.{ℤ, pos, negsuc, ◌+ℤ◌, ◌*ℤ◌, ◌<ℤ◌, ◌≤ℤ◌, slice_index_or}
use lib.IntN.{neg_ℤ}
use Rattle.std.proofs.lemmas.Int.{ints}
use Rattle.std.proofs.lemmas.Bool.{cases_eq, cases_lt}
use Rattle.std.proofs.lemmas.Bool.Decides.{nat_tests}
use Rattle.row_program.specs.Sums.{sum_from, LexPositive}
use Rattle.row_program.specs.Forms.{entry, tableau, first_form, first_entry, variable_count, coefficient, empty_row, Holds, IsNonbasic}
use Rattle.row_program.specs.declared.program.Row.{Row}
use Rattle.row_program.specs.declared.program.Program.{Program}
use Rattle.pivot_form.proofs.Sums.{sum_from-same}
use Rattle.pivot_form.proofs.FirstForm.{first_at, basic_at, height_is, first_is_form, first_reduced, cost_own, cost_at, cost_past, slack_first, slack_variable, slack_constant, slack_own, slack_other}
use Rattle.pivot_form.proofs.NextForm.{shape_of}
use Rattle.dual_theory.proofs.FormValues.{row_at, value_of, HasDirection, HasBase, IsRun}
use Rattle.dual_theory.proofs.Sums.{sum_from-zero, sum_from-one, sum_from-split, sum_from-neg, sum_from-nonneg}
use Rattle.dual_theory.proofs.Directions.{neg_mul}
use Rattle.dual_theory.proofs.Values.{value_cost, value_own, value_slack, by_kind}

pub sum_shift : (n v : ℕ) (f : ℕ → ℤ) → sum_from n (suc v) f ≡ sum_from n v (λ u. f (suc u))
sum_shift zero v f = refl
sum_shift (suc n) v f = omega (arith, ints, sum_shift n (suc v) f)

-- a sum over the cost, the program's variables and the slacks
pub sum_parts : (n m : ℕ) (f : ℕ → ℤ) → sum_from (1 + n + m) 0 f ≡ f 0 +ℤ sum_from n 0 (λ v. f (suc v)) +ℤ sum_from m (1 + n) f
sum_parts n m f =
    let count : 1 + n + m ≡ suc (n + m) = omega arith in
    let whole : sum_from (1 + n + m) 0 f ≡ f 0 +ℤ sum_from (n + m) 1 f = ap (λ (k : ℕ). sum_from k 0 f) count in
    let split = sum_from-split n m 1 f in
    let shift = sum_shift n 0 f in
    omega (arith, ints, whole, split, shift)

one_times : (x : ℤ) → pos 1 *ℤ x ≡ x
one_times x = omega (arith, ints)

-- ---- all values of the program's variables give a solution
module _ (p : Program) (x : ℕ → ℤ) (d : ℤ) where
  term : (i j : ℕ) → i < length p.rows + 1 → j < variable_count p → entry (first_form p) i j *ℤ value_of p x d j ≡ first_entry p i j *ℤ value_of p x d j
  term i j h l = ap (λ (e : ℤ). e *ℤ value_of p x d j) (first_at p i j h (omega (arith, l)))

  own_back : (v : ℕ) → v < length p.costs → value_of p x d (suc v) ≡ x v
  own_back v l = value_own p x d (suc v) (omega arith) (omega (arith, l)) ∙ (let e : suc v - 1 ≡ v = omega arith in ap x e)

  cost_sum : sum_from (variable_count p) 0 (λ j. first_entry p 0 j *ℤ value_of p x d j) ≡ pos 0
  cost_sum =
      let parts = sum_parts (length p.costs) (length p.rows) (λ j. first_entry p 0 j *ℤ value_of p x d j) in
      let own : first_entry p 0 0 *ℤ value_of p x d 0 ≡ value_of p x d 0 = ap (λ (e : ℤ). e *ℤ value_of p x d 0) (cost_own p.costs 0 refl) ∙ one_times (value_of p x d 0) in
      let is = value_cost p x d 0 refl in
      let middle : sum_from (length p.costs) 0 (λ v. first_entry p 0 (suc v) *ℤ value_of p x d (suc v)) ≡ sum_from (length p.costs) 0 (λ v. neg_ℤ (pos (get_or p.costs v 0) *ℤ x v)) = sum_from-same (length p.costs) 0 (λ v. first_entry p 0 (suc v) *ℤ value_of p x d (suc v)) (λ v. neg_ℤ (pos (get_or p.costs v 0) *ℤ x v)) (λ v a l. one v (omega (arith, l))) in
      let negated = sum_from-neg (length p.costs) 0 (λ v. pos (get_or p.costs v 0) *ℤ x v) (λ v. neg_ℤ (pos (get_or p.costs v 0) *ℤ x v)) (λ v. refl) in
      let rest = sum_from-zero (length p.rows) (1 + length p.costs) (λ j. first_entry p 0 j *ℤ value_of p x d j) (λ u a l. ap (λ (e : ℤ). e *ℤ value_of p x d u) (cost_past p.costs u (omega (arith, a))) ∙ zero_front (value_of p x d u)) in
      omega (arith, ints, parts, own, is, middle, negated, rest)
    where
      zero_front : (z : ℤ) → pos 0 *ℤ z ≡ pos 0
      zero_front z = omega (arith, ints)

      one : (v : ℕ) → v < length p.costs → first_entry p 0 (suc v) *ℤ value_of p x d (suc v) ≡ neg_ℤ (pos (get_or p.costs v 0) *ℤ x v)
      one v l =
          let back : suc v - 1 ≡ v = omega arith in
          let e : first_entry p 0 (suc v) ≡ neg_ℤ (pos (get_or p.costs v 0)) = cost_at p.costs (suc v) (omega arith) ∙ ap (λ (u : ℕ). neg_ℤ (pos (get_or p.costs u 0))) back in
          ap (λ (z : ℤ). z *ℤ value_of p x d (suc v)) e ∙ ap (λ (z : ℤ). neg_ℤ (pos (get_or p.costs v 0)) *ℤ z) (own_back v l) ∙ neg_mul (pos (get_or p.costs v 0)) (x v)

  slack_sum : (i : ℕ) → i < length p.rows → sum_from (variable_count p) 0 (λ j. first_entry p (suc i) j *ℤ value_of p x d j) ≡ (slice_index_or p.rows i empty_row).constant *ℤ d
  slack_sum i h =
      let parts = sum_parts n m f in
      let first : f 0 ≡ pos 0 = ap (λ (e : ℤ). e *ℤ value_of p x d 0) (slack_first n m i row 0 refl) ∙ zero_front (value_of p x d 0) in
      let middle : sum_from n 0 (λ v. f (suc v)) ≡ sum_from n 0 (λ v. neg_ℤ (coefficient row.terms v *ℤ x v)) = sum_from-same n 0 (λ v. f (suc v)) (λ v. neg_ℤ (coefficient row.terms v *ℤ x v)) (λ v a l. one v (omega (arith, l))) in
      let negated = sum_from-neg n 0 (λ v. coefficient row.terms v *ℤ x v) (λ v. neg_ℤ (coefficient row.terms v *ℤ x v)) (λ v. refl) in
      let alone : sum_from m (1 + n) f ≡ f (1 + n + i) = sum_from-one m (1 + n) f (1 + n + i) (omega arith) (omega (arith, h)) (λ u a l apart. ap (λ (e : ℤ). e *ℤ value_of p x d u) (slack_other n m i row u (omega (arith, a)) (λ e. absurd (omega (arith, e, l))) apart) ∙ zero_front (value_of p x d u)) in
      let own : f (1 + n + i) ≡ value_of p x d (1 + n + i) = ap (λ (e : ℤ). e *ℤ value_of p x d (1 + n + i)) (slack_own n m i row (1 + n + i) h refl) ∙ one_times (value_of p x d (1 + n + i)) in
      let back : 1 + n + i - (1 + n) ≡ i = omega arith in
      let is : value_of p x d (1 + n + i) ≡ row_at n row x d = value_slack p x d (1 + n + i) (omega arith) ∙ ap (λ (k : ℕ). row_at n (slice_index_or p.rows k empty_row) x d) back in
      omega (arith, ints, parts, first, middle, negated, alone, own, is)
    where
      n : ℕ
      n = length p.costs

      m : ℕ
      m = length p.rows

      row : Row
      row = slice_index_or p.rows i empty_row

      f : ℕ → ℤ
      f j = first_entry p (suc i) j *ℤ value_of p x d j

      zero_front : (z : ℤ) → pos 0 *ℤ z ≡ pos 0
      zero_front z = omega (arith, ints)

      one : (v : ℕ) → v < n → f (suc v) ≡ neg_ℤ (coefficient row.terms v *ℤ x v)
      one v l =
          let back : suc v - 1 ≡ v = omega arith in
          let e : first_entry p (suc i) (suc v) ≡ neg_ℤ (coefficient row.terms v) = slack_variable n m i row (suc v) (omega arith) (omega (arith, l)) ∙ ap (λ (u : ℕ). neg_ℤ (coefficient row.terms u)) back in
          ap (λ (z : ℤ). z *ℤ value_of p x d (suc v)) e ∙ ap (λ (z : ℤ). neg_ℤ (coefficient row.terms v) *ℤ z) (own_back v l) ∙ neg_mul (coefficient row.terms v) (x v)

  first_side : (i : ℕ) → i < length p.rows + 1 → sum_from (variable_count p) 0 (λ j. first_entry p i j *ℤ value_of p x d j) ≡ first_entry p i (variable_count p) *ℤ d
  first_side zero h =
      let z : first_entry p 0 (variable_count p) ≡ pos 0 = cost_past p.costs (variable_count p) (omega arith) in
      cost_sum ∙ sym (ap (λ (e : ℤ). e *ℤ d) z ∙ (let none : pos 0 *ℤ d ≡ pos 0 = omega (arith, ints) in none))
  first_side (suc i) h =
      slack_sum i (omega (arith, h)) ∙ sym (ap (λ (e : ℤ). e *ℤ d) (slack_constant (length p.costs) (length p.rows) i (slice_index_or p.rows i empty_row) (variable_count p) refl))

  pub first_sound : Holds (tableau (first_form p)) (value_of p x d) d
  first_sound i h =
      let l : i < length p.rows + 1 = omega (arith, h, height_is p) in
      sum_from-same (variable_count p) 0 (λ j. entry (first_form p) i j *ℤ value_of p x d j) (λ j. first_entry p i j *ℤ value_of p x d j) (λ j a b. term i j l (omega (arith, b)))
      ∙ first_side i l ∙ sym (ap (λ (e : ℤ). e *ℤ d) (first_at p i (variable_count p) l (omega arith)))

-- ---- the nonbasic variables are those of the program
pub first_free : (p : Program) (j : ℕ) → j < variable_count p → IsNonbasic (tableau (first_form p)) j → (0 < j) × (j ≤ length p.costs)
first_free p j l free =
    ⊎_elim
    (λ (e : j ≡ 0). absurd (free 0 (omega (arith, height_is p)) (basic_at p 0 (omega arith) ∙ sym e)))
    (λ apart. ⊎_elim
    (λ (past : length p.costs < j).
    let i = j - (1 + length p.costs) in
    let own : 1 + length p.costs + i ≡ j = omega (arith, past) in
    let low : suc i < length p.rows + 1 = omega (arith, past, l) in
    absurd (free (suc i) (omega (arith, low, height_is p)) (basic_at p (suc i) low ∙ own)))
    (λ low. (omega (arith, apart), low))
    (cases_lt (length p.costs) j))
    (cases_eq j 0)

-- 1 for one variable of the program, 0 for the others
abbrev pub unit : ℕ → ℕ → ℤ
unit j v = cond (eqb v (j - 1)) (pos 1) (pos 0)

unit_own : (j v : ℕ) → v ≡ j - 1 → unit j v ≡ pos 1
unit_own j v e = grind (arith, nat_tests)

unit_other : (j v : ℕ) → v ≢ j - 1 → unit j v ≡ pos 0
unit_other j v e = grind (arith, nat_tests)

unit_above : (j v : ℕ) → pos 0 ≤ℤ unit j v
unit_above j v = ⊎_elim (λ e. let z = unit_own j v e in omega (arith, ints, z)) (λ f. let z = unit_other j v f in omega (arith, ints, z)) (cases_eq v (j - 1))

pub above_product : (a : ℕ) (b : ℤ) → pos 0 ≤ℤ b → pos 0 ≤ℤ (pos a *ℤ b)
above_product a (pos b) h = omega (arith, ints)
above_product a (negsuc b) h = absurd (omega (arith, ints, h))

-- none is negative and one is positive
pub lex_from_one : (n v k : ℕ) (f : ℕ → ℤ) → ((u : ℕ) → v ≤ u → u < v + n → pos 0 ≤ℤ f u) → v ≤ k → k < v + n → pos 0 <ℤ f k → LexPositive n v f
lex_from_one zero v k f h i l p = absurd (omega (arith, i, l))
lex_from_one (suc n) v k f h i l p = split (f v) refl (λ z. lex_from_one n (suc v) k f (λ u a b. h u (omega (arith, a)) (omega (arith, b))) (later z) (omega (arith, l)) p)
  where
    later : f v ≡ pos 0 → suc v ≤ k
    later z = ⊎_elim (λ (e : k ≡ v). let q : f k ≡ pos 0 = ap f e ∙ z in absurd (omega (arith, ints, p, q))) (λ apart. omega (arith, i, apart)) (cases_eq k v)

    split : (y : ℤ) → f v ≡ y → (f v ≡ pos 0 → LexPositive n (suc v) f) → LexPositive (suc n) v f
    split (pos zero) e rest = inr (e, rest e)
    split (pos (suc a)) e rest = inl (omega (arith, ints, e))
    split (negsuc a) e rest = let q = h v (omega arith) (omega arith) in absurd (omega (arith, ints, e, q))

first_direction : (p : Program) (j : ℕ) → j < variable_count p → IsNonbasic (tableau (first_form p)) j → HasDirection p (first_form p) j
first_direction p j l free = record {
  x = unit j;
  direction = record { holds = first_sound p (unit j) (pos 0); rises = own; alone = λ k h off apart. other k h off apart };
  positive = lex_from_one (1 + length p.costs) 0 j (value_of p (unit j) (pos 0)) (λ u a b. above u (omega (arith, b))) (omega arith) (omega (arith, both.1)) own;
}
  where
    both : (0 < j) × (j ≤ length p.costs)
    both = first_free p j l free

    own : pos 0 <ℤ value_of p (unit j) (pos 0) j
    own = let e = value_own p (unit j) (pos 0) j both.0 both.1 in let f = unit_own j (j - 1) refl in omega (arith, ints, e, f)

    other : (k : ℕ) → k < variable_count p → IsNonbasic (tableau (first_form p)) k → k ≢ j → value_of p (unit j) (pos 0) k ≡ pos 0
    other k h off apart =
        let of = first_free p k h off in
        value_own p (unit j) (pos 0) k of.0 of.1 ∙ unit_other j (k - 1) (λ e. apart (omega (arith, e, of.0, both.0)))

    above : (u : ℕ) → u ≤ length p.costs → pos 0 ≤ℤ value_of p (unit j) (pos 0) u
    above u b =
        by_kind (length p.costs) u
        (λ e. let is = value_cost p (unit j) (pos 0) u e in let sum = sum_from-nonneg (length p.costs) 0 (λ v. pos (get_or p.costs v 0) *ℤ unit j v) (λ v c h. above_product (get_or p.costs v 0) (unit j v) (unit_above j v)) in omega (arith, ints, is, sum))
        (λ h k. let is = value_own p (unit j) (pos 0) u h k in let low = unit_above j (u - 1) in omega (arith, ints, is, low))
        (λ h. absurd (omega (arith, h, b)))

first_base : (p : Program) → HasBase p (first_form p)
first_base p = record {
  x = λ v. pos 0;
  d = pos 1;
  base = record {
    holds = first_sound p (λ v. pos 0) (pos 1);
    positive = omega (arith, ints);
    rests = λ k l free. let of = first_free p k l free in value_own p (λ v. pos 0) (pos 1) k of.0 of.1;
  };
}

pub first_kept : (p : Program) → IsRun p (first_form p)
first_kept p = record {
  variables = refl;
  height = height_is p;
  shape = shape_of (first_form p) (first_is_form p);
  reduced = λ i h. let both = first_reduced p i [] h in both.1;
  cost_first = basic_at p 0 (omega arith);
  cost_above = let e = first_at p 0 (variable_count p) (omega arith) (omega arith) in let z : first_entry p 0 (variable_count p) ≡ pos 0 = cost_past p.costs (variable_count p) (omega arith) in omega (arith, ints, e, z);
  sound = λ x d. first_sound p x d;
  directions = λ j l free. first_direction p j l free;
  base = first_base p;
}
