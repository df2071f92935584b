-- What every form of a run keeps, each step keeps.
use Rattle.std.proofs.Common.{ℕ, zero, suc, ◌≡◌, ◌≢◌, ◌<◌, ◌≤◌, ◌+◌, arith, ap, sym, ◌∙◌, inl, inr, ◌⊎◌, ⊎_elim, subst, [], length, get_or, Some}
use Rattle.std.specs.Prelude.{ℤ, pos, negsuc, ◌*ℤ◌, ◌-ℤ◌, ◌<ℤ◌, ◌≤ℤ◌}
use lib.IntN.{neg_ℤ}
use Rattle.std.proofs.lemmas.Int.{ints}
use Rattle.std.proofs.lemmas.List.{length-set}
use Rattle.row_program.specs.Sums.{LexPositive}
use Rattle.row_program.specs.Forms.{Table, entry, right_side, basic_of, row_of, tableau, next_form, next_row, IsNonbasic}
use Rattle.row_program.specs.Method.{value_count, column, difference, leaving, entering, step, run_of}
use Rattle.row_program.specs.declared.program.Program.{Program}
use Rattle.exact_num.specs.Divisors.{row_gcd}
use Rattle.exact_num.proofs.Ring.{leaf, times, opposite, same}
use Rattle.pivot_form.proofs.NextForm.{IsShaped}
use Rattle.pivot_form.proofs.Sums.{positive_product}
use Rattle.pivot_form.proofs.Equations.{turned_over, IsTurned, length-map_from}
use Rattle.pivot_form.proofs.Pivots.{IsPivot, next_holds, next_solved}
use Rattle.pivot_form.proofs.NextForm.{is_pivot, is_reduced, lead_of, mixed}
use Rattle.dual_theory.proofs.FormValues.{value_of, IsDirection, IsBase, HasDirection, IsRun}
use Rattle.dual_theory.proofs.Lex.{LexNonnegative}
use Rattle.dual_theory.proofs.Directions.{row_link, combined, next_nonbasic, next_direction_leaving, next_direction_other}
use Rattle.dual_theory.proofs.Orders.{other_rising, other_candidate, next_base, base_rises}
use Rattle.dual_theory.proofs.Found.{one_row}
use Rattle.dual_theory.proofs.Chosen.{leaving_negative, leaving_row, entering_column, entering_negative, entering_least, entering_free, is_column, step_is_next, goes_on}
use Rattle.dual_theory.proofs.Values.{linear_direction, linear_base, not_all_zero}
use Rattle.dual_theory.proofs.First.{first_kept}

pub value_count_is : (p : Program) (t : Table) → IsRun p t → value_count t ≡ 1 + length p.costs
value_count_is p t run = omega (arith, run.variables, run.height)

-- the cost never leaves
pub leaving_not_cost : (p : Program) (t : Table) (r : ℕ) → IsRun p t → leaving t ≡ Some r → (r ≢ 0) × (basic_of t r ≢ 0)
leaving_not_cost p t r run e = (apart, λ f. apart (sym (one_row (tableau t) 0 r run.shape.solved (omega (arith, run.height)) (leaving_row t r run.shape.basics e) (run.cost_first ∙ sym f))))
  where
    apart : r ≢ 0
    apart f =
        let negative = leaving_negative t r e in
        let same_side : right_side t r ≡ right_side t 0 = ap (right_side t) f in
        let above = run.cost_above in
        absurd (omega (arith, ints, negative, same_side, above))

-- ---- one step
module _ (p : Program) (t : Table) (r c : ℕ) (run : IsRun p t) (leaves : leaving t ≡ Some r) (enters : entering t r ≡ Some c) where
  within : r < length t.rows
  within = leaving_row t r run.shape.basics leaves

  pub lt : c < t.variables
  lt = entering_column t r c enters

  pub low : entry t r c <ℤ pos 0
  low = entering_negative t r c enters

  pub negative : right_side t r <ℤ pos 0
  negative = leaving_negative t r leaves

  pub free : IsNonbasic (tableau t) c
  free = entering_free t r c run.shape.solved within low

  is : IsTurned c (row_of t r) (negsuc 0)
  is = turned_over c (row_of t r) low

  above : pos 0 <ℤ get_or (lead_of t r c) c (pos 0)
  above = let e = is.entries c in let l = low in omega (arith, ints, e, l)

  abbrev lead : ℕ → ℤ
  lead j = get_or (lead_of t r c) j (pos 0)

  abbrev last : ℤ
  last = get_or (lead_of t r c) t.variables (pos 0)

  abbrev divisors : ℕ → ℤ
  divisors i = pos (row_gcd (mixed t r c i))

  pivot : IsPivot (tableau t) (tableau (next_form t r c)) r c lead last (negsuc 0) divisors
  pivot = is_pivot t r c run.shape within lt (negsuc 0) is above

  next_shape : IsShaped (next_form t r c)
  next_shape = record {
    widths = λ i h. let both = is_reduced t r c run.shape within lt (negsuc 0) is above (run.reduced r within) i [] h in both.0;
    basics = length-set t.basis r c ∙ run.shape.basics ∙ sym (length-map_from (next_row r c (lead_of t r c)) 0 t.rows);
    solved = next_solved (tableau t) (tableau (next_form t r c)) r c lead last (negsuc 0) divisors pivot run.shape.solved lt within;
  }

  height_kept : length (next_form t r c).rows ≡ length t.rows
  height_kept = length-map_from (next_row r c (lead_of t r c)) 0 t.rows

  -- the direction of the variable that enters
  pub enters_by : HasDirection p t c
  enters_by = run.directions c lt free

  pub steps_up : ℤ
  steps_up = neg_ℤ (entry t r c) *ℤ value_of p enters_by.x (pos 0) c

  -- the right side of the cost is never negative
  cost_kept : pos 0 ≤ℤ right_side (next_form t r c) 0
  cost_kept =
      let apart = leaving_not_cost p t r run leaves in
      let away : 0 ≢ r = λ e. apart.0 (sym e) in
      let top : 0 < length t.rows = omega (arith, run.height) in
      let e = pivot.right 0 top away in
      let link = row_link (tableau t) c (value_of p enters_by.x (pos 0)) run.shape.solved enters_by.direction free lt 0 top in
      let link0 : entry t 0 0 *ℤ value_of p enters_by.x (pos 0) 0 ≡ neg_ℤ (entry t 0 c *ℤ value_of p enters_by.x (pos 0) c) = subst (λ (b : ℕ). entry t 0 b *ℤ value_of p enters_by.x (pos 0) b ≡ neg_ℤ (entry t 0 c *ℤ value_of p enters_by.x (pos 0) c)) run.cost_first link in
      let own : pos 0 <ℤ entry t 0 0 = subst (λ (b : ℕ). pos 0 <ℤ entry t 0 b) run.cost_first (run.shape.solved.positive 0 top) in
      let entry_low : entry t 0 c ≤ℤ pos 0 = low_factor (entry t 0 0) (value_of p enters_by.x (pos 0) 0) (entry t 0 c) (value_of p enters_by.x (pos 0) c) own (first_above (length p.costs) (value_of p enters_by.x (pos 0)) enters_by.positive) enters_by.direction.rises link0 in
      let last_is : last ≡ negsuc 0 *ℤ right_side t r = is.entries t.variables in
      let under = negative in
      let last_above : pos 0 <ℤ last = omega (arith, ints, last_is, under) in
      let x : pos 0 ≤ℤ (lead c *ℤ right_side t 0) = nonnegative (lead c) (right_side t 0) above run.cost_above in
      let y : pos 0 ≤ℤ neg_ℤ (entry t 0 c *ℤ last) = opposite_product (entry t 0 c) last entry_low last_above in
      let g : pos 0 <ℤ divisors 0 = pivot.divisor 0 top away in
      keep (divisors 0) (right_side (next_form t r c) 0) g (omega (arith, ints, e, x, y))
    where
      first_above : (n : ℕ) (f : ℕ → ℤ) → LexPositive (1 + n) 0 f → pos 0 ≤ℤ f 0
      first_above n f h = of_suc n f (let e : 1 + n ≡ suc n = omega arith in subst (λ (k : ℕ). LexPositive k 0 f) e h)
        where
          of_suc : (n : ℕ) (f : ℕ → ℤ) → LexPositive (suc n) 0 f → pos 0 ≤ℤ f 0
          of_suc n f (inl q) = omega (arith, ints, q)
          of_suc n f (inr q) = let z = q.0 in omega (arith, ints, z)

      nonnegative : (a b : ℤ) → pos 0 <ℤ a → pos 0 ≤ℤ b → pos 0 ≤ℤ (a *ℤ b)
      nonnegative a (pos zero) h k = omega (arith, ints)
      nonnegative a (pos (suc b)) h k = let q = positive_product a (pos (suc b)) h (omega (arith, ints)) in omega (arith, ints, q)
      nonnegative a (negsuc b) h k = absurd (omega (arith, ints, k))

      opposite_product : (a b : ℤ) → a ≤ℤ pos 0 → pos 0 <ℤ b → pos 0 ≤ℤ neg_ℤ (a *ℤ b)
      opposite_product a b h k =
          let q = nonnegative b (neg_ℤ a) k (omega (arith, ints, h)) in
          let ring : b *ℤ neg_ℤ a ≡ neg_ℤ (a *ℤ b) = same (times (leaf b) (opposite (leaf a))) (opposite (times (leaf a) (leaf b))) (omega arith) in
          omega (arith, ints, q, ring)

      keep : (g b : ℤ) → pos 0 <ℤ g → pos 0 ≤ℤ (g *ℤ b) → pos 0 ≤ℤ b
      keep g (pos b) h k = omega (arith, ints)
      keep g (negsuc b) h k = let q = positive_product g (neg_ℤ (negsuc b)) h (omega (arith, ints)) in
          let ring : g *ℤ neg_ℤ (negsuc b) ≡ neg_ℤ (g *ℤ negsuc b) = same (times (leaf g) (opposite (leaf (negsuc b)))) (opposite (times (leaf g) (leaf (negsuc b)))) (omega arith) in
          absurd (omega (arith, ints, q, ring, k))

      low_factor : (e y f z : ℤ) → pos 0 <ℤ e → pos 0 ≤ℤ y → pos 0 <ℤ z → e *ℤ y ≡ neg_ℤ (f *ℤ z) → f ≤ℤ pos 0
      low_factor e y (pos zero) z h k l m = omega (arith, ints)
      low_factor e y (pos (suc f)) z h k l m = let q = positive_product (pos (suc f)) z (omega (arith, ints)) l in let o = nonnegative e y h k in absurd (omega (arith, ints, q, o, m))
      low_factor e y (negsuc f) z h k l m = omega (arith, ints)

  -- the direction of a variable that isn't basic in the next form
  other_direction : (j : ℕ) → j < t.variables → IsNonbasic (tableau t) j → j ≢ c → HasDirection p (next_form t r c) j
  other_direction j lj fj apart = record {
    x = combined a y.x b z.x;
    direction = subst (IsDirection (tableau (next_form t r c)) j) (sym form) (next_direction_other (tableau t) (tableau (next_form t r c)) r c j lead last (negsuc 0) divisors (value_of p y.x (pos 0)) (value_of p z.x (pos 0)) pivot run.shape.solved y.direction z.direction fj free apart lj lt within low);
    positive = subst (LexPositive (1 + length p.costs) 0) (sym form) rising;
  }
    where
      y : HasDirection p t j
      y = run.directions j lj fj

      z : HasDirection p t c
      z = enters_by

      a : ℤ
      a = neg_ℤ (entry t r c) *ℤ value_of p z.x (pos 0) c

      b : ℤ
      b = entry t r j *ℤ value_of p y.x (pos 0) j

      form : value_of p (combined a y.x b z.x) (pos 0) ≡ combined a (value_of p y.x (pos 0)) b (value_of p z.x (pos 0))
      form = linear_direction p y.x z.x a b

      moves : ((v : ℕ) → 0 ≤ v → v < 0 + (1 + length p.costs) → combined a (value_of p y.x (pos 0)) b (value_of p z.x (pos 0)) v ≡ pos 0) → ⊥
      moves all = not_all_zero p (combined a y.x b z.x) j (subst (λ (f : ℕ → ℤ). pos 0 <ℤ f j) (sym form) rises) (λ v k l. subst (λ (f : ℕ → ℤ). f v ≡ pos 0) (sym form) (all v k l))
        where
          rises : pos 0 <ℤ combined a (value_of p y.x (pos 0)) b (value_of p z.x (pos 0)) j
          rises = let of = next_direction_other (tableau t) (tableau (next_form t r c)) r c j lead last (negsuc 0) divisors (value_of p y.x (pos 0)) (value_of p z.x (pos 0)) pivot run.shape.solved y.direction z.direction fj free apart lj lt within low in of.rises

      rising : LexPositive (1 + length p.costs) 0 (combined a (value_of p y.x (pos 0)) b (value_of p z.x (pos 0)))
      rising =
          ⊎_elim
          (λ (under : entry t r j <ℤ pos 0).
          other_candidate (tableau t) j c r (value_of p y.x (pos 0)) (value_of p z.x (pos 0)) (column t j) (column t c) (1 + length p.costs) run.shape.solved y.direction z.direction fj free lj lt (omega (arith, run.variables)) (is_column t j run.shape fj) (is_column t c run.shape free)
          (subst (λ (n : ℕ). LexNonnegative n 0 (difference (column t j) (neg_ℤ (entry t r j)) (column t c) (neg_ℤ (entry t r c)))) (value_count_is p t run) (entering_least t r c enters j lj under)) moves)
          (λ (over : pos 0 ≤ℤ entry t r j). other_rising (tableau t) j c r (value_of p y.x (pos 0)) (value_of p z.x (pos 0)) (1 + length p.costs) y.direction z.direction low over y.positive z.positive)
          (sign (entry t r j))
        where
          sign : (e : ℤ) → (e <ℤ pos 0) ⊎ (pos 0 ≤ℤ e)
          sign (pos n) = inr (omega (arith, ints))
          sign (negsuc n) = inl (omega (arith, ints))

  leaving_direction : HasDirection p (next_form t r c) (basic_of t r)
  leaving_direction = record {
    x = enters_by.x;
    direction = next_direction_leaving (tableau t) (tableau (next_form t r c)) r c lead last (negsuc 0) divisors (value_of p enters_by.x (pos 0)) pivot run.shape.solved enters_by.direction free lt within low;
    positive = enters_by.positive;
  }

  next_directions : (j : ℕ) → j < t.variables → IsNonbasic (tableau (next_form t r c)) j → HasDirection p (next_form t r c) j
  next_directions j lj fj =
      let both = next_nonbasic (tableau t) (tableau (next_form t r c)) r c lead last (negsuc 0) divisors pivot within j fj in
      ⊎_elim (λ (e : j ≡ basic_of t r). subst (HasDirection p (next_form t r c)) (sym e) leaving_direction) (λ was. other_direction j lj was both.0) both.1

  -- the base of the next form
  abbrev pub up : ℤ
  up = neg_ℤ (entry t r c) *ℤ value_of p enters_by.x (pos 0) c

  abbrev pub over : ℤ
  over = neg_ℤ (right_side t r) *ℤ run.base.d

  abbrev pub next_x : ℕ → ℤ
  next_x = combined up run.base.x over enters_by.x

  pub base_next : IsBase (tableau (next_form t r c)) (value_of p next_x (up *ℤ run.base.d)) (up *ℤ run.base.d)
  base_next = subst (λ (y : ℕ → ℤ). IsBase (tableau (next_form t r c)) y (up *ℤ run.base.d)) (sym (linear_base p run.base.x enters_by.x up over run.base.d)) (next_base (tableau t) (tableau (next_form t r c)) r c lead last (negsuc 0) divisors (value_of p run.base.x run.base.d) (value_of p enters_by.x (pos 0)) run.base.d pivot run.shape.solved run.base.base enters_by.direction free lt within low)

  -- its values are above
  pub base_above : LexPositive (1 + length p.costs) 0 (λ v. run.base.d *ℤ value_of p next_x (up *ℤ run.base.d) v -ℤ (up *ℤ run.base.d) *ℤ value_of p run.base.x run.base.d v)
  base_above =
      let d = run.base.d in
      let under = negative in
      let d_above : pos 0 <ℤ d = run.base.base.positive in
      let over_above : pos 0 <ℤ over = positive_product (neg_ℤ (right_side t r)) d (omega (arith, ints, under)) d_above in
      subst (λ (w : ℕ → ℤ). LexPositive (1 + length p.costs) 0 (λ v. d *ℤ w v -ℤ (up *ℤ d) *ℤ value_of p run.base.x d v)) (sym (linear_base p run.base.x enters_by.x up over d))
      (base_rises (1 + length p.costs) (value_of p run.base.x d) (value_of p enters_by.x (pos 0)) up over d d_above over_above enters_by.positive)

  pub next_kept : IsRun p (next_form t r c)
  next_kept = record {
    variables = run.variables;
    height = height_kept ∙ run.height;
    shape = next_shape;
    reduced = λ i h. let both = is_reduced t r c run.shape within lt (negsuc 0) is above (run.reduced r within) i [] h in both.1;
    cost_first = pivot.basic 0 (omega (arith, run.height)) (λ e. (leaving_not_cost p t r run leaves).0 (sym e)) ∙ run.cost_first;
    cost_above = cost_kept;
    sound = λ x d. next_holds (tableau t) (tableau (next_form t r c)) r c lead last (negsuc 0) divisors (value_of p x d) d pivot within (run.sound x d);
    directions = next_directions;
    base = record { x = next_x; d = up *ℤ run.base.d; base = base_next };
  }

-- ---- the run
pub step_kept : (p : Program) (t : Table) → IsRun p t → IsRun p (step t)
step_kept p t run = ⊎_elim (λ goes. subst (IsRun p) (sym (step_is_next t goes.0 goes.1 goes.2 goes.3)) (next_kept p t goes.0 goes.1 run goes.2 goes.3)) (λ stays. subst (IsRun p) (sym stays) run) (goes_on t)

pub run_kept : (p : Program) (k : ℕ) → IsRun p (run_of p k)
run_kept p zero = first_kept p
run_kept p (suc k) = step_kept p (run_of p k) (run_kept p k)
