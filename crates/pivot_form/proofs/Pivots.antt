-- A pivot, of forms as functions: what it keeps.
use Rattle.std.proofs.Common.{ℕ, ◌≡◌, ◌≢◌, ◌<◌, arith, ap, sym, ◌∙◌, ◌⊎◌, ⊎_elim, subst}
use Rattle.std.specs.Prelude.{ℤ, pos, negsuc, ◌*ℤ◌, ◌-ℤ◌, ◌<ℤ◌}
use Rattle.std.proofs.lemmas.Int.{ints}
use Rattle.std.proofs.lemmas.Bool.{cases_eq}
use Rattle.exact_num.proofs.Ring.{leaf, minus, times, same}
use Rattle.row_program.specs.Sums.{sum_from}
use Rattle.row_program.specs.Forms.{Tableau, IsSolved, Holds}
use Rattle.pivot_form.proofs.Sums.{positive_product, positive_factor, zero_factor, zero_times, cancel, sum_from-combine, sum_from-same, sum_from-scale}

-- the form u is t after the pivot at row r and column c: the lead is row r times the sign s, and row i was divided by g i
pub record IsPivot (t u : Tableau) (r c : ℕ) (lead : ℕ → ℤ) (last s : ℤ) (g : ℕ → ℤ) : Type 0 where
  pub height : u.height ≡ t.height
  pub width : u.width ≡ t.width
  pub sign : (s ≡ pos 1) ⊎ (s ≡ negsuc 0)
  pub lead_is : (j : ℕ) → lead j ≡ s *ℤ t.at r j
  pub last_is : last ≡ s *ℤ t.right r
  pub lead_positive : pos 0 <ℤ lead c
  pub pivot_row : (j : ℕ) → u.at r j ≡ lead j
  pub pivot_right : u.right r ≡ last
  pub pivot_basic : u.basic r ≡ c
  pub divisor : (i : ℕ) → i < t.height → i ≢ r → pos 0 <ℤ g i
  pub row : (i j : ℕ) → i < t.height → j < t.width → i ≢ r → g i *ℤ u.at i j ≡ lead c *ℤ t.at i j -ℤ t.at i c *ℤ lead j
  pub right : (i : ℕ) → i < t.height → i ≢ r → g i *ℤ u.right i ≡ lead c *ℤ t.right i -ℤ t.at i c *ℤ last
  pub basic : (i : ℕ) → i < t.height → i ≢ r → u.basic i ≡ t.basic i

-- a sign undoes itself
pub signed_back : (s x y : ℤ) → (s ≡ pos 1) ⊎ (s ≡ negsuc 0) → x ≡ s *ℤ y → y ≡ s *ℤ x
signed_back s x y sign e =
    ⊎_elim
    (λ one. let a : s *ℤ y ≡ pos 1 *ℤ y = ap (λ (z : ℤ). z *ℤ y) one in let b : s *ℤ x ≡ pos 1 *ℤ x = ap (λ (z : ℤ). z *ℤ x) one in omega (arith, ints, e, a, b))
    (λ minus_one. let a : s *ℤ y ≡ negsuc 0 *ℤ y = ap (λ (z : ℤ). z *ℤ y) minus_one in let b : s *ℤ x ≡ negsuc 0 *ℤ x = ap (λ (z : ℤ). z *ℤ x) minus_one in omega (arith, ints, e, a, b))
    sign

spread : (g x p a q b y : ℤ) → g *ℤ x ≡ p *ℤ a -ℤ q *ℤ b → g *ℤ (x *ℤ y) ≡ p *ℤ (a *ℤ y) -ℤ q *ℤ (b *ℤ y)
spread g x p a q b y e =
    let P = leaf p in let A = leaf a in let Q = leaf q in let B = leaf b in let Y = leaf y in
    same (times (leaf g) (times (leaf x) Y)) (times (times (leaf g) (leaf x)) Y) (omega arith)
    ∙ ap (λ (w : ℤ). w *ℤ y) e
    ∙ same (times (minus (times P A) (times Q B)) Y) (minus (times P (times A Y)) (times Q (times B Y))) (omega arith)

assoc : (s a y : ℤ) → (s *ℤ a) *ℤ y ≡ s *ℤ (a *ℤ y)
assoc s a y = same (times (times (leaf s) (leaf a)) (leaf y)) (times (leaf s) (times (leaf a) (leaf y))) (omega arith)

-- the sum of the lead at values is the sign times that of its row
lead_sum : (t u : Tableau) (r c : ℕ) (lead : ℕ → ℤ) (last s : ℤ) (g y : ℕ → ℤ) → IsPivot t u r c lead last s g → sum_from t.width 0 (λ j. lead j *ℤ y j) ≡ s *ℤ sum_from t.width 0 (λ j. t.at r j *ℤ y j)
lead_sum t u r c lead last s g y pivot =
    sum_from-same t.width 0 (λ j. lead j *ℤ y j) (λ j. s *ℤ (t.at r j *ℤ y j)) (λ j a b. ap (λ (x : ℤ). x *ℤ y j) (pivot.lead_is j) ∙ assoc s (t.at r j) (y j))
    ∙ sum_from-scale t.width 0 s (λ j. t.at r j *ℤ y j)

-- the sum of another row of the next form
row_sum : (t u : Tableau) (r c : ℕ) (lead : ℕ → ℤ) (last s : ℤ) (g y : ℕ → ℤ) → IsPivot t u r c lead last s g → (k : ℕ) → k < t.height → k ≢ r
    → g k *ℤ sum_from t.width 0 (λ j. u.at k j *ℤ y j) ≡ lead c *ℤ sum_from t.width 0 (λ j. t.at k j *ℤ y j) -ℤ t.at k c *ℤ sum_from t.width 0 (λ j. lead j *ℤ y j)
row_sum t u r c lead last s g y pivot k l apart =
    sym (sum_from-scale t.width 0 (g k) (λ j. u.at k j *ℤ y j))
    ∙ sum_from-same t.width 0 (λ j. g k *ℤ (u.at k j *ℤ y j)) (λ j. lead c *ℤ (t.at k j *ℤ y j) -ℤ t.at k c *ℤ (lead j *ℤ y j)) (λ j a b. spread (g k) (u.at k j) (lead c) (t.at k j) (t.at k c) (lead j) (y j) (pivot.row k j l (omega (arith, b)) apart))
    ∙ sum_from-combine t.width 0 (lead c) (t.at k c) (λ j. t.at k j *ℤ y j) (λ j. lead j *ℤ y j)

-- what holds in a form holds in the next
pub next_holds : (t u : Tableau) (r c : ℕ) (lead : ℕ → ℤ) (last s : ℤ) (g y : ℕ → ℤ) (d : ℤ) → IsPivot t u r c lead last s g → r < t.height → Holds t y d → Holds u y d
next_holds t u r c lead last s g y d pivot within holds i h =
    subst (λ (w : ℕ). sum_from w 0 (λ j. u.at i j *ℤ y j) ≡ u.right i *ℤ d) (sym pivot.width)
    (⊎_elim
    (λ (e : i ≡ r). subst (λ (x : ℕ). sum_from t.width 0 (λ j. u.at x j *ℤ y j) ≡ u.right x *ℤ d) (sym e) at_pivot)
    (λ apart. elsewhere i (subst (λ (m : ℕ). i < m) pivot.height h) apart)
    (cases_eq i r))
  where
    of_lead : sum_from t.width 0 (λ j. lead j *ℤ y j) ≡ last *ℤ d
    of_lead = lead_sum t u r c lead last s g y pivot ∙ ap (λ (x : ℤ). s *ℤ x) (holds r within) ∙ sym (assoc s (t.right r) d) ∙ ap (λ (x : ℤ). x *ℤ d) (sym pivot.last_is)

    at_pivot : sum_from t.width 0 (λ j. u.at r j *ℤ y j) ≡ u.right r *ℤ d
    at_pivot = sum_from-same t.width 0 (λ j. u.at r j *ℤ y j) (λ j. lead j *ℤ y j) (λ j a b. ap (λ (x : ℤ). x *ℤ y j) (pivot.pivot_row j)) ∙ of_lead ∙ ap (λ (x : ℤ). x *ℤ d) (sym pivot.pivot_right)

    elsewhere : (k : ℕ) → k < t.height → k ≢ r → sum_from t.width 0 (λ j. u.at k j *ℤ y j) ≡ u.right k *ℤ d
    elsewhere k l apart =
        cancel (g k) (sum_from t.width 0 (λ j. u.at k j *ℤ y j)) (u.right k *ℤ d) (pivot.divisor k l apart)
        (row_sum t u r c lead last s g y pivot k l apart
        ∙ ap (λ (x : ℤ). lead c *ℤ x -ℤ t.at k c *ℤ sum_from t.width 0 (λ j. lead j *ℤ y j)) (holds k l)
        ∙ ap (λ (x : ℤ). lead c *ℤ (t.right k *ℤ d) -ℤ t.at k c *ℤ x) of_lead
        ∙ sym (spread (g k) (u.right k) (lead c) (t.right k) (t.at k c) last d (pivot.right k l apart)))

-- and what holds in the next form held in the form before
pub before_holds : (t u : Tableau) (r c : ℕ) (lead : ℕ → ℤ) (last s : ℤ) (g y : ℕ → ℤ) (d : ℤ) → IsPivot t u r c lead last s g → r < t.height → Holds u y d → Holds t y d
before_holds t u r c lead last s g y d pivot within holds i h =
    ⊎_elim
    (λ (e : i ≡ r). subst (λ (x : ℕ). sum_from t.width 0 (λ j. t.at x j *ℤ y j) ≡ t.right x *ℤ d) (sym e) at_pivot)
    (λ apart. elsewhere i h apart)
    (cases_eq i r)
  where
    there : (k : ℕ) → k < t.height → sum_from t.width 0 (λ j. u.at k j *ℤ y j) ≡ u.right k *ℤ d
    there k l = subst (λ (w : ℕ). sum_from w 0 (λ j. u.at k j *ℤ y j) ≡ u.right k *ℤ d) pivot.width (holds k (subst (λ (m : ℕ). k < m) (sym pivot.height) l))

    of_lead : sum_from t.width 0 (λ j. lead j *ℤ y j) ≡ last *ℤ d
    of_lead = sum_from-same t.width 0 (λ j. lead j *ℤ y j) (λ j. u.at r j *ℤ y j) (λ j a b. ap (λ (x : ℤ). x *ℤ y j) (sym (pivot.pivot_row j))) ∙ there r within ∙ ap (λ (x : ℤ). x *ℤ d) pivot.pivot_right

    at_pivot : sum_from t.width 0 (λ j. t.at r j *ℤ y j) ≡ t.right r *ℤ d
    at_pivot =
        signed_back s (sum_from t.width 0 (λ j. lead j *ℤ y j)) (sum_from t.width 0 (λ j. t.at r j *ℤ y j)) pivot.sign (lead_sum t u r c lead last s g y pivot)
        ∙ ap (λ (x : ℤ). s *ℤ x) of_lead ∙ sym (assoc s last d) ∙ ap (λ (x : ℤ). x *ℤ d) (sym (signed_back s last (t.right r) pivot.sign pivot.last_is))

    elsewhere : (k : ℕ) → k < t.height → k ≢ r → sum_from t.width 0 (λ j. t.at k j *ℤ y j) ≡ t.right k *ℤ d
    elsewhere k l apart =
        let left = row_sum t u r c lead last s g y pivot k l apart in
        let put : g k *ℤ sum_from t.width 0 (λ j. u.at k j *ℤ y j) ≡ g k *ℤ (u.right k *ℤ d) = ap (λ (x : ℤ). g k *ℤ x) (there k l) in
        let right = spread (g k) (u.right k) (lead c) (t.right k) (t.at k c) last d (pivot.right k l apart) in
        let lead_term : t.at k c *ℤ sum_from t.width 0 (λ j. lead j *ℤ y j) ≡ t.at k c *ℤ (last *ℤ d) = ap (λ (x : ℤ). t.at k c *ℤ x) of_lead in
        cancel (lead c) (sum_from t.width 0 (λ j. t.at k j *ℤ y j)) (t.right k *ℤ d) pivot.lead_positive (omega (arith, ints, left, put, right, lead_term))

-- each basic variable of the next form has a positive entry in its row alone
pub next_solved : (t u : Tableau) (r c : ℕ) (lead : ℕ → ℤ) (last s : ℤ) (g : ℕ → ℤ) → IsPivot t u r c lead last s g → IsSolved t → c < t.width → r < t.height → IsSolved u
next_solved t u r c lead last s g pivot solved lt within = record {
  within = λ i h. subst (λ (w : ℕ). u.basic i < w) (sym pivot.width) (⊎_elim (λ (e : i ≡ r). subst (λ (x : ℕ). u.basic x < t.width) (sym e) (subst (λ (x : ℕ). x < t.width) (sym pivot.pivot_basic) lt)) (λ apart. subst (λ (x : ℕ). x < t.width) (sym (pivot.basic i (low i h) apart)) (solved.within i (low i h))) (cases_eq i r));
  positive = λ i h. ⊎_elim (λ (e : i ≡ r). subst (λ (x : ℕ). pos 0 <ℤ u.at x (u.basic x)) (sym e) positive_at_pivot) (λ apart. positive_elsewhere i (low i h) apart) (cases_eq i r);
  clear = λ i k h l apart. ⊎_elim (λ (e : i ≡ r). subst (λ (x : ℕ). u.at k (u.basic x) ≡ pos 0) (sym e) (clear_column k (low k l) (λ f. apart (f ∙ sym e)))) (λ away. subst (λ (x : ℕ). u.at k x ≡ pos 0) (sym (pivot.basic i (low i h) away)) (⊎_elim (λ (e : k ≡ r). subst (λ (x : ℕ). u.at x (t.basic i) ≡ pos 0) (sym e) (pivot.pivot_row (t.basic i) ∙ lead_clear i (low i h) away)) (λ other. clear_elsewhere i k (low i h) (low k l) apart away other) (cases_eq k r))) (cases_eq i r);
}
  where
    low : (i : ℕ) → i < u.height → i < t.height
    low i h = subst (λ (m : ℕ). i < m) pivot.height h

    positive_at_pivot : pos 0 <ℤ u.at r (u.basic r)
    positive_at_pivot = subst (λ (x : ℤ). pos 0 <ℤ x) (sym (ap (λ (x : ℕ). u.at r x) pivot.pivot_basic ∙ pivot.pivot_row c)) pivot.lead_positive

    lead_clear : (i : ℕ) → i < t.height → i ≢ r → lead (t.basic i) ≡ pos 0
    lead_clear i h apart = pivot.lead_is (t.basic i) ∙ zero_times s (t.at r (t.basic i)) (solved.clear i r h within (λ e. apart (sym e)))

    row_at : (i k : ℕ) → i < t.height → k < t.height → i ≢ r → k ≢ r → g k *ℤ u.at k (t.basic i) ≡ lead c *ℤ t.at k (t.basic i)
    row_at i k h l apart other =
        let z : t.at k c *ℤ lead (t.basic i) ≡ pos 0 = zero_times (t.at k c) (lead (t.basic i)) (lead_clear i h apart) in
        let e = pivot.row k (t.basic i) l (solved.within i h) other in omega (arith, ints, e, z)

    positive_elsewhere : (i : ℕ) → i < t.height → i ≢ r → pos 0 <ℤ u.at i (u.basic i)
    positive_elsewhere i h apart =
        let p : pos 0 <ℤ (lead c *ℤ t.at i (t.basic i)) = positive_product (lead c) (t.at i (t.basic i)) pivot.lead_positive (solved.positive i h) in
        let e = row_at i i h h apart apart in
        subst (λ (x : ℕ). pos 0 <ℤ u.at i x) (sym (pivot.basic i h apart)) (positive_factor (g i) (u.at i (t.basic i)) (pivot.divisor i h apart) (omega (arith, ints, p, e)))

    clear_elsewhere : (i k : ℕ) → i < t.height → k < t.height → k ≢ i → i ≢ r → k ≢ r → u.at k (t.basic i) ≡ pos 0
    clear_elsewhere i k h l apart away other = zero_factor (g k) (u.at k (t.basic i)) (pivot.divisor k l other) (row_at i k h l away other ∙ zero_times (lead c) (t.at k (t.basic i)) (solved.clear i k h l apart))

    clear_column : (k : ℕ) → k < t.height → k ≢ r → u.at k (u.basic r) ≡ pos 0
    clear_column k l other =
        let ring : lead c *ℤ t.at k c -ℤ t.at k c *ℤ lead c ≡ pos 0 = same (minus (times (leaf (lead c)) (leaf (t.at k c))) (times (leaf (t.at k c)) (leaf (lead c)))) (leaf (pos 0)) (omega arith) in
        subst (λ (x : ℕ). u.at k x ≡ pos 0) (sym pivot.pivot_basic) (zero_factor (g k) (u.at k c) (pivot.divisor k l other) (pivot.row k c l lt other ∙ ring))
