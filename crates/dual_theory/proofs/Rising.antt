-- The values rise strictly along a run.
use Rattle.std.proofs.Common.{ℕ, zero, suc, ◌≡◌, ◌<◌, ◌+◌, arith, ap, sym, ◌∙◌, inl, inr, ⊎_elim, subst, length, Some}
use Rattle.std.specs.Prelude.{ℤ, pos, ◌+ℤ◌, ◌*ℤ◌, ◌-ℤ◌, ◌<ℤ◌}
use Rattle.std.proofs.lemmas.Int.{ints}
use Rattle.std.proofs.lemmas.Bool.{cases_eq}
use Rattle.row_program.specs.Sums.{LexPositive}
use Rattle.row_program.specs.Forms.{Table, entry, right_side, tableau, next_form, IsNonbasic}
use Rattle.row_program.specs.Method.{row_of_basic, value_count, column, leaving, entering, step, run_of}
use Rattle.row_program.specs.declared.program.Program.{Program}
use Rattle.exact_num.proofs.Ring.{leaf, plus, minus, times, same}
use Rattle.pivot_form.proofs.NextForm.{IsShaped}
use Rattle.pivot_form.proofs.Sums.{positive_product, positive_factor, zero_factor, zero_times}
use Rattle.dual_theory.proofs.FormValues.{value_of, IsBase, HasDirection, IsRun}
use Rattle.dual_theory.specs.Runs.{num_in, den_in, value_num, value_den, gain, IsAbove, GoesOn, Rises, NoneTwice, ColumnsPositive}
use Rattle.dual_theory.proofs.Directions.{find_row}
use Rattle.dual_theory.proofs.Orders.{base_value, scale, scale_positive, scale_column}
use Rattle.dual_theory.proofs.Found.{option_cases, row_of_some, row_of_none}
use Rattle.dual_theory.proofs.Chosen.{is_column, step_is_next, goes_on}
use Rattle.dual_theory.proofs.Runs.{value_count_is, next_kept, up, next_x, base_next, base_above, run_kept}

-- ---- the values of a form
pub value_den_positive : (t : Table) (v : ℕ) → IsShaped t → pos 0 <ℤ value_den t v
value_den_positive t v shape =
    ⊎_elim
    (λ none. subst (λ (x : ℤ). pos 0 <ℤ x) (sym (ap (den_in t v) none)) (omega (arith, ints)))
    (λ some. let found = row_of_some t v some.0 shape.basics some.1 in
    subst (λ (x : ℤ). pos 0 <ℤ x) (sym (ap (den_in t v) some.1)) (subst (λ (u : ℕ). pos 0 <ℤ entry t some.0 u) found.1 (shape.solved.positive some.0 found.0)))
    (option_cases (row_of_basic t v))

pub value_at_base : (t : Table) (y : ℕ → ℤ) (d : ℤ) (v : ℕ) → IsShaped t → IsBase (tableau t) y d → v < t.variables → value_den t v *ℤ y v ≡ value_num t v *ℤ d
value_at_base t y d v shape base l =
    ⊎_elim
    (λ none.
    let rests : y v ≡ pos 0 = base.rests v l (row_of_none t v shape.basics none) in
    ap (λ (e : ℤ). e *ℤ y v) (ap (den_in t v) none) ∙ zero_times (pos 1) (y v) rests ∙ sym (ap (λ (e : ℤ). e *ℤ d) (ap (num_in t) none) ∙ zero_front d))
    (λ some.
    let found = row_of_some t v some.0 shape.basics some.1 in
    let there : entry t some.0 v *ℤ y v ≡ right_side t some.0 *ℤ d = subst (λ (u : ℕ). entry t some.0 u *ℤ y u ≡ right_side t some.0 *ℤ d) found.1 (base_value (tableau t) y d shape.solved base some.0 found.0) in
    ap (λ (e : ℤ). e *ℤ y v) (ap (den_in t v) some.1) ∙ there ∙ sym (ap (λ (e : ℤ). e *ℤ d) (ap (num_in t) some.1)))
    (option_cases (row_of_basic t v))
  where
    zero_front : (z : ℤ) → pos 0 *ℤ z ≡ pos 0
    zero_front z = omega (arith, ints)

-- ---- positive factors of two orders
pub LexPositive-signs : (s k : ℕ → ℤ) (n v : ℕ) (f g : ℕ → ℤ) → ((u : ℕ) → u < v + n → (pos 0 <ℤ s u) × (pos 0 <ℤ k u) × (s u *ℤ f u ≡ k u *ℤ g u)) → LexPositive n v f → LexPositive n v g
LexPositive-signs s k zero v f g h p = p
LexPositive-signs s k (suc n) v f g h (inl p) =
    let here = h v (omega arith) in
    let q = positive_product (s v) (f v) here.0 p in
    let e = here.2 in
    inl (positive_factor (k v) (g v) here.1 (omega (arith, ints, q, e)))
LexPositive-signs s k (suc n) v f g h (inr r) =
    let here = h v (omega arith) in
    inr (zero_factor (k v) (g v) here.1 (sym here.2 ∙ zero_times (s v) (f v) r.0), LexPositive-signs s k n (suc v) f g (λ u l. h u (omega (arith, l))) r.1)

-- a rise and a rise are a rise
pub LexPositive-both : (a b c : ℕ → ℤ) (n v : ℕ) (f g h : ℕ → ℤ) → ((u : ℕ) → u < v + n → (pos 0 <ℤ a u) × (pos 0 <ℤ b u) × (pos 0 <ℤ c u) × (a u *ℤ f u +ℤ b u *ℤ g u ≡ c u *ℤ h u)) → LexPositive n v f → LexPositive n v g → LexPositive n v h
LexPositive-both a b c zero v f g h e p q = p
LexPositive-both a b c (suc n) v f g h e (inl p) (inl q) =
    let here = e v (omega arith) in let x = positive_product (a v) (f v) here.0 p in let y = positive_product (b v) (g v) here.1 q in let z = here.3 in
    inl (positive_factor (c v) (h v) here.2 (omega (arith, ints, x, y, z)))
LexPositive-both a b c (suc n) v f g h e (inl p) (inr q) =
    let here = e v (omega arith) in let x = positive_product (a v) (f v) here.0 p in let y = zero_times (b v) (g v) q.0 in let z = here.3 in
    inl (positive_factor (c v) (h v) here.2 (omega (arith, ints, x, y, z)))
LexPositive-both a b c (suc n) v f g h e (inr p) (inl q) =
    let here = e v (omega arith) in let x = zero_times (a v) (f v) p.0 in let y = positive_product (b v) (g v) here.1 q in let z = here.3 in
    inl (positive_factor (c v) (h v) here.2 (omega (arith, ints, x, y, z)))
LexPositive-both a b c (suc n) v f g h e (inr p) (inr q) =
    let here = e v (omega arith) in let x = zero_times (a v) (f v) p.0 in let y = zero_times (b v) (g v) q.0 in let z = here.3 in
    inr (zero_factor (c v) (h v) here.2 (omega (arith, ints, x, y, z)), LexPositive-both a b c n (suc v) f g h (λ u l. e u (omega (arith, l))) p.1 q.1)

LexPositive-none : (n v : ℕ) (f : ℕ → ℤ) → ((u : ℕ) → f u ≡ pos 0) → LexPositive n v f → ⊥
LexPositive-none zero v f z p = p
LexPositive-none (suc n) v f z (inl p) = let e = z v in omega (arith, ints, p, e)
LexPositive-none (suc n) v f z (inr r) = LexPositive-none n (suc v) f z r.1

-- ---- one step
rise_identity : (m n m2 n2 d d2 y w : ℤ) → n *ℤ y ≡ m *ℤ d → n2 *ℤ w ≡ m2 *ℤ d2 → (n2 *ℤ n) *ℤ (d *ℤ w -ℤ d2 *ℤ y) ≡ (d *ℤ d2) *ℤ (m2 *ℤ n -ℤ m *ℤ n2)
rise_identity m n m2 n2 d d2 y w e f =
    let M = leaf m in let N = leaf n in let O = leaf m2 in let Q = leaf n2 in let D = leaf d in let E = leaf d2 in let Y = leaf y in let W = leaf w in
    let left : (n2 *ℤ n) *ℤ (d *ℤ w -ℤ d2 *ℤ y) ≡ (n *ℤ d) *ℤ (n2 *ℤ w) -ℤ (n2 *ℤ d2) *ℤ (n *ℤ y) = same (times (times Q N) (minus (times D W) (times E Y))) (minus (times (times N D) (times Q W)) (times (times Q E) (times N Y))) (omega arith) in
    let put : (n *ℤ d) *ℤ (n2 *ℤ w) -ℤ (n2 *ℤ d2) *ℤ (n *ℤ y) ≡ (n *ℤ d) *ℤ (m2 *ℤ d2) -ℤ (n2 *ℤ d2) *ℤ (m *ℤ d) = cc in
    left ∙ put ∙ same (minus (times (times N D) (times O E)) (times (times Q E) (times M D))) (times (times D E) (minus (times O N) (times M Q))) (omega arith)

pub next_above : (p : Program) (t : Table) (r c : ℕ) → IsRun p t → leaving t ≡ Some r → entering t r ≡ Some c → IsAbove t (next_form t r c)
next_above p t r c run leaves enters =
    subst (λ (n : ℕ). LexPositive n 0 (gain t u)) (sym (value_count_is p t run))
    (LexPositive-signs (λ v. value_den u v *ℤ value_den t v) (λ v. d *ℤ d2) (1 + length p.costs) 0 (λ v. d *ℤ value_of p (next_x p t r c run leaves enters) d2 v -ℤ d2 *ℤ value_of p run.base.x d v) (gain t u)
    (λ v l. (
      positive_product (value_den u v) (value_den t v) (value_den_positive u v kept.shape) (value_den_positive t v run.shape),
      positive_product d d2 run.base.base.positive (base_next p t r c run leaves enters).positive,
      rise_identity (value_num t v) (value_den t v) (value_num u v) (value_den u v) d d2 (value_of p run.base.x d v) (value_of p (next_x p t r c run leaves enters) d2 v)
          (value_at_base t (value_of p run.base.x d) d v run.shape run.base.base (omega (arith, l, run.variables)))
          (value_at_base u (value_of p (next_x p t r c run leaves enters) d2) d2 v kept.shape (base_next p t r c run leaves enters) (omega (arith, l, run.variables))),
    ))
    (base_above p t r c run leaves enters))
  where
    u : Table
    u = next_form t r c

    kept : IsRun p u
    kept = next_kept p t r c run leaves enters

    d : ℤ
    d = run.base.d

    d2 : ℤ
    d2 = up p t r c run leaves enters *ℤ run.base.d

-- ---- the run
trans_identity : (a b c d e f : ℤ) → f *ℤ (c *ℤ b -ℤ a *ℤ d) +ℤ b *ℤ (e *ℤ d -ℤ c *ℤ f) ≡ d *ℤ (e *ℤ b -ℤ a *ℤ f)
trans_identity a b c d e f =
    let A = leaf a in let B = leaf b in let C = leaf c in let D = leaf d in let E = leaf e in let F = leaf f in
    same (plus (times F (minus (times C B) (times A D))) (times B (minus (times E D) (times C F)))) (times D (minus (times E B) (times A F))) (omega arith)

pub above_trans : (p : Program) (t u w : Table) → IsRun p t → IsRun p u → IsRun p w → IsAbove t u → IsAbove u w → IsAbove t w
above_trans p t u w rt ru rw f g =
    LexPositive-both (λ v. value_den w v) (λ v. value_den t v) (λ v. value_den u v) (value_count t) 0 (gain t u) (gain u w) (gain t w)
    (λ v l. (value_den_positive w v rw.shape, value_den_positive t v rt.shape, value_den_positive u v ru.shape, trans_identity (value_num t v) (value_den t v) (value_num u v) (value_den u v) (value_num w v) (value_den w v)))
    f (subst (λ (n : ℕ). LexPositive n 0 (gain u w)) (value_count_is p u ru ∙ sym (value_count_is p t rt)) g)

pub step_above : (p : Program) (t : Table) → IsRun p t → GoesOn t → IsAbove t (step t)
step_above p t run goes = subst (IsAbove t) (sym (step_is_next t goes.0 goes.1 goes.2 goes.3)) (next_above p t goes.0 goes.1 run goes.2 goes.3)

pub rises : (p : Program) → Rises p
rises p j zero l goes = absurd (omega (arith, l))
rises p j (suc k) l goes =
    ⊎_elim
    (λ (e : j ≡ k). subst (λ (m : ℕ). IsAbove (run_of p j) (step (run_of p m))) e (step_above p (run_of p j) (run_kept p j) goes))
    (λ apart.
    let before : IsAbove (run_of p j) (run_of p k) = rises p j k (omega (arith, l, apart)) goes in
    ⊎_elim
    (λ on. above_trans p (run_of p j) (run_of p k) (step (run_of p k)) (run_kept p j) (run_kept p k) (run_kept p (suc k)) before (step_above p (run_of p k) (run_kept p k) on))
    (λ stays. subst (IsAbove (run_of p j)) (sym stays) before)
    (goes_on (run_of p k)))
    (cases_eq j k)

pub none_twice : (p : Program) → NoneTwice p
none_twice p j k l goes e =
    LexPositive-none (value_count (run_of p j)) 0 (gain (run_of p j) (run_of p j)) (λ u. omega (arith, ints)) (subst (IsAbove (run_of p j)) (sym e) (rises p j k l goes))

-- ---- columns
-- a column is lexicographically positive with its direction
pub column_positive : (p : Program) (t : Table) (j : ℕ) → IsRun p t → j < t.variables → IsNonbasic (tableau t) j → LexPositive (1 + length p.costs) 0 (column t j)
column_positive p t j run l free =
    LexPositive-signs (λ v. scale (tableau t) v (find_row (length t.rows) (tableau t).basic v)) (λ v. y j) (1 + length p.costs) 0 y (column t j)
    (λ v h. (scale_positive (tableau t) v run.shape.solved (find_row (length t.rows) (tableau t).basic v), way.direction.rises, swap v (scale_column (tableau t) j v y (column t j) run.shape.solved way.direction free l (is_column t j run.shape free) (omega (arith, h, run.variables)) (find_row (length t.rows) (tableau t).basic v))))
    way.positive
  where
    way : HasDirection p t j
    way = run.directions j l free

    y : ℕ → ℤ
    y = value_of p way.x (pos 0)

    swap : (v : ℕ) {z : ℤ} → z ≡ column t j v *ℤ y j → z ≡ y j *ℤ column t j v
    swap v e = e ∙ same (times (leaf (column t j v)) (leaf (y j))) (times (leaf (y j)) (leaf (column t j v))) (omega arith)

pub columns_positive : (p : Program) → ColumnsPositive p
columns_positive p k j l free = subst (λ (n : ℕ). LexPositive n 0 (column (run_of p k) j)) (sym (value_count_is p (run_of p k) (run_kept p k))) (column_positive p (run_of p k) j (run_kept p k) l free)
