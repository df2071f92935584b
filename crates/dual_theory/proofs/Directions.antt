-- Directions of the nonbasic variables, and what a pivot makes of them.
use Rattle.std.proofs.Common.{ℕ, zero, suc, ◌≡◌, ◌≢◌, ◌<◌, arith, refl, ap, sym, ◌∙◌, inl, inr, ◌⊎◌, ⊎_elim, subst}
use Rattle.std.specs.Prelude.{ℤ, pos, ◌+ℤ◌, ◌*ℤ◌, ◌-ℤ◌, ◌<ℤ◌}
use lib.IntN.{neg_ℤ}
use Rattle.std.proofs.lemmas.Int.{ints}
use Rattle.std.proofs.lemmas.Bool.{cases_eq}
use Rattle.row_program.specs.Sums.{sum_from}
use Rattle.row_program.specs.Forms.{Tableau, IsNonbasic, IsSolved, Holds}
use Rattle.exact_num.proofs.Ring.{leaf, plus, minus, times, opposite, same}
use Rattle.pivot_form.proofs.Sums.{positive_product, positive_factor, zero_factor, zero_times, sum_from-combine, sum_from-same}
use Rattle.pivot_form.proofs.Pivots.{IsPivot, next_holds}
use Rattle.dual_theory.proofs.FormValues.{IsDirection}
use Rattle.dual_theory.proofs.Sums.{link_apart, column_sign}

-- the row of a basic variable, or none
pub find_row : (m : ℕ) (basic : ℕ → ℕ) (u : ℕ) → ((k : ℕ) × (k < m) × (basic k ≡ u)) ⊎ ((k : ℕ) → k < m → basic k ≢ u)
find_row zero basic u = inr (λ k h e. omega (arith, h))
find_row (suc m) basic u =
    ⊎_elim
    (λ found. inl (found.0, omega (arith, found.1), found.2))
    (λ apart. ⊎_elim (λ e. inl (m, omega arith, e)) (λ other. inr (λ k h. ⊎_elim (λ (e : k ≡ m). subst (λ (x : ℕ). basic x ≢ u) (sym e) other) (λ away. apart k (omega (arith, h, away))) (cases_eq k m))) (cases_eq (basic m) u))
    (find_row m basic u)

-- at a direction of j, the basic variable of a row moves against the entry in j
pub row_link : (t : Tableau) (j : ℕ) (y : ℕ → ℤ) → IsSolved t → IsDirection t j y → IsNonbasic t j → j < t.width → (i : ℕ) → i < t.height → t.at i (t.basic i) *ℤ y (t.basic i) ≡ neg_ℤ (t.at i j *ℤ y j)
row_link t j y solved direction free lt i h =
    let away = link_apart t.width (t.at i) y (t.basic i) j (free i h) (solved.within i h) lt (λ u l p q. zero_there u l p q) in
    let whole = direction.holds i h in
    let none : t.right i *ℤ pos 0 ≡ pos 0 = zero_times (t.right i) (pos 0) refl in
    omega (arith, ints, away, whole, none)
  where
    zero_there : (u : ℕ) → u < t.width → u ≢ t.basic i → u ≢ j → (t.at i u ≡ pos 0) ⊎ (y u ≡ pos 0)
    zero_there u l p q =
        ⊎_elim
        (λ found. let here : t.at i (t.basic found.0) ≡ pos 0 = solved.clear found.0 i found.1 h (λ e. p (sym found.2 ∙ ap t.basic (sym e))) in inl (subst (λ (x : ℕ). t.at i x ≡ pos 0) found.2 here))
        (λ apart. inr (direction.alone u l apart q))
        (find_row t.height t.basic u)

-- the direction of the entering variable c is one of the leaving variable, after the pivot at row r
pub leaving_rises : (t : Tableau) (c r : ℕ) (z : ℕ → ℤ) → IsSolved t → IsDirection t c z → IsNonbasic t c → c < t.width → r < t.height → t.at r c <ℤ pos 0 → pos 0 <ℤ z (t.basic r)
leaving_rises t c r z solved direction free lt h negative =
    let e = row_link t c z solved direction free lt r h in
    let against : pos 0 <ℤ (neg_ℤ (t.at r c) *ℤ z c) = positive_product (neg_ℤ (t.at r c)) (z c) (omega (arith, ints, negative)) direction.rises in
    let ring : neg_ℤ (t.at r c) *ℤ z c ≡ neg_ℤ (t.at r c *ℤ z c) = same (times (opposite (leaf (t.at r c))) (leaf (z c))) (opposite (times (leaf (t.at r c)) (leaf (z c)))) (omega arith) in
    positive_factor (t.at r (t.basic r)) (z (t.basic r)) (solved.positive r h) (omega (arith, ints, e, against, ring))

-- the combination of two directions in which the leaving variable rests
abbrev pub combined : ℤ → (ℕ → ℤ) → ℤ → (ℕ → ℤ) → ℕ → ℤ
combined a y b z u = a *ℤ y u +ℤ b *ℤ z u

-- at each variable v that is basic at row i, the combination has the sign of the comparison of the columns
pub combined_sign : (t : Tableau) (j c r : ℕ) (y z : ℕ → ℤ) → IsSolved t → IsDirection t j y → IsDirection t c z → IsNonbasic t j → IsNonbasic t c → j < t.width → c < t.width → (i : ℕ) → i < t.height → t.at i (t.basic i) *ℤ combined (neg_ℤ (t.at r c) *ℤ z c) y (t.at r j *ℤ y j) z (t.basic i) ≡ (y j *ℤ z c) *ℤ (t.at i j *ℤ t.at r c -ℤ t.at i c *ℤ t.at r j)
combined_sign t j c r y z solved dj dc fj fc lj lc i h =
    column_sign (t.at i (t.basic i)) (y (t.basic i)) (z (t.basic i)) (t.at i j) (t.at i c) (t.at r j) (t.at r c) (y j) (z c) (row_link t j y solved dj fj lj i h) (row_link t c z solved dc fc lc i h)

-- so the leaving variable rests
pub leaving_rests : (t : Tableau) (j c r : ℕ) (y z : ℕ → ℤ) → IsSolved t → IsDirection t j y → IsDirection t c z → IsNonbasic t j → IsNonbasic t c → j < t.width → c < t.width → r < t.height → combined (neg_ℤ (t.at r c) *ℤ z c) y (t.at r j *ℤ y j) z (t.basic r) ≡ pos 0
leaving_rests t j c r y z solved dj dc fj fc lj lc h =
    let e = combined_sign t j c r y z solved dj dc fj fc lj lc r h in
    let J = leaf (t.at r j) in let C = leaf (t.at r c) in let W = times (leaf (y j)) (leaf (z c)) in
    let none : (y j *ℤ z c) *ℤ (t.at r j *ℤ t.at r c -ℤ t.at r c *ℤ t.at r j) ≡ pos 0 = same (times W (minus (times J C) (times C J))) (leaf (pos 0)) (omega arith) in
    zero_factor (t.at r (t.basic r)) (combined (neg_ℤ (t.at r c) *ℤ z c) y (t.at r j *ℤ y j) z (t.basic r)) (solved.positive r h) (e ∙ none)

-- ---- the next form
pub neg_mul : (a b : ℤ) → neg_ℤ a *ℤ b ≡ neg_ℤ (a *ℤ b)
neg_mul a b = same (times (opposite (leaf a)) (leaf b)) (opposite (times (leaf a) (leaf b))) (omega arith)

-- a nonbasic variable of the next form is the leaving one, or was nonbasic before and isn't the entering one
pub next_nonbasic : (t u : Tableau) (r c : ℕ) (lead : ℕ → ℤ) (last s : ℤ) (g : ℕ → ℤ) → IsPivot t u r c lead last s g → r < t.height → (j : ℕ) → IsNonbasic u j → (j ≢ c) × ((j ≡ t.basic r) ⊎ IsNonbasic t j)
next_nonbasic t u r c lead last s g pivot within j free = (
  (λ e. free r (subst (λ (m : ℕ). r < m) (sym pivot.height) within) (pivot.pivot_basic ∙ sym e)),
  ⊎_elim (λ e. inl e) (λ apart. inr (λ i h f. ⊎_elim (λ (e : i ≡ r). apart (sym f ∙ ap t.basic e)) (λ away. free i (subst (λ (m : ℕ). i < m) (sym pivot.height) h) (pivot.basic i h away ∙ f)) (cases_eq i r))) (cases_eq j (t.basic r)),
)

-- the direction of the entering variable is then one of the leaving variable
pub next_direction_leaving : (t u : Tableau) (r c : ℕ) (lead : ℕ → ℤ) (last s : ℤ) (g : ℕ → ℤ) (z : ℕ → ℤ) → IsPivot t u r c lead last s g → IsSolved t → IsDirection t c z → IsNonbasic t c → c < t.width → r < t.height → t.at r c <ℤ pos 0 → IsDirection u (t.basic r) z
next_direction_leaving t u r c lead last s g z pivot solved direction free lt within negative = record {
  holds = next_holds t u r c lead last s g z (pos 0) pivot within direction.holds;
  rises = leaving_rises t c r z solved direction free lt within negative;
  alone = λ k l f apart. let both = next_nonbasic t u r c lead last s g pivot within k f in ⊎_elim (λ e. absurd (apart e)) (λ was. direction.alone k (subst (λ (w : ℕ). k < w) pivot.width l) was both.0) both.1;
}

combined_holds : (t : Tableau) (a b : ℤ) (y z : ℕ → ℤ) → Holds t y (pos 0) → Holds t z (pos 0) → Holds t (combined a y b z) (pos 0)
combined_holds t a b y z h k i l =
    let terms = sum_from-same t.width 0 (λ j. t.at i j *ℤ combined a y b z j) (λ j. a *ℤ (t.at i j *ℤ y j) -ℤ neg_ℤ b *ℤ (t.at i j *ℤ z j)) (λ j m n. one (t.at i j) (y j) (z j)) in
    let both = sum_from-combine t.width 0 a (neg_ℤ b) (λ j. t.at i j *ℤ y j) (λ j. t.at i j *ℤ z j) in
    let none : t.right i *ℤ pos 0 ≡ pos 0 = zero_times (t.right i) (pos 0) refl in
    let first : a *ℤ sum_from t.width 0 (λ j. t.at i j *ℤ y j) ≡ pos 0 = zero_times a _ (h i l ∙ none) in
    let second : neg_ℤ b *ℤ sum_from t.width 0 (λ j. t.at i j *ℤ z j) ≡ pos 0 = zero_times (neg_ℤ b) _ (k i l ∙ none) in
    terms ∙ both ∙ omega (arith, ints, first, second, none)
  where
    one : (x m n : ℤ) → x *ℤ (a *ℤ m +ℤ b *ℤ n) ≡ a *ℤ (x *ℤ m) -ℤ neg_ℤ b *ℤ (x *ℤ n)
    one x m n = let A = leaf a in let B = leaf b in let X = leaf x in same (times X (plus (times A (leaf m)) (times B (leaf n)))) (minus (times A (times X (leaf m))) (times (opposite B) (times X (leaf n)))) (omega arith)

-- the combination is a direction of each other nonbasic variable
pub next_direction_other : (t u : Tableau) (r c j : ℕ) (lead : ℕ → ℤ) (last s : ℤ) (g : ℕ → ℤ) (y z : ℕ → ℤ) → IsPivot t u r c lead last s g → IsSolved t → IsDirection t j y → IsDirection t c z → IsNonbasic t j → IsNonbasic t c → j ≢ c → j < t.width → c < t.width → r < t.height → t.at r c <ℤ pos 0 → IsDirection u j (combined (neg_ℤ (t.at r c) *ℤ z c) y (t.at r j *ℤ y j) z)
next_direction_other t u r c j lead last s g y z pivot solved dj dc fj fc apart lj lc within negative = record {
  holds = next_holds t u r c lead last s g (combined a y b z) (pos 0) pivot within (combined_holds t a b y z dj.holds dc.holds);
  rises = rises_here;
  alone = λ k l f away. let both = next_nonbasic t u r c lead last s g pivot within k f in ⊎_elim (λ e. subst (λ (x : ℕ). combined a y b z x ≡ pos 0) (sym e) (leaving_rests t j c r y z solved dj dc fj fc lj lc within)) (λ was. rests k (subst (λ (w : ℕ). k < w) pivot.width l) was away both.0) both.1;
}
  where
    a : ℤ
    a = neg_ℤ (t.at r c) *ℤ z c

    b : ℤ
    b = t.at r j *ℤ y j

    rises_here : pos 0 <ℤ combined a y b z j
    rises_here =
        let first : pos 0 <ℤ (a *ℤ y j) = positive_product a (y j) (positive_product (neg_ℤ (t.at r c)) (z c) (omega (arith, ints, negative)) dc.rises) dj.rises in
        let second : b *ℤ z j ≡ pos 0 = zero_times b (z j) (dc.alone j lj fj apart) in
        omega (arith, ints, first, second)

    rests : (k : ℕ) → k < t.width → IsNonbasic t k → k ≢ j → k ≢ c → combined a y b z k ≡ pos 0
    rests k l was away other =
        let first : a *ℤ y k ≡ pos 0 = zero_times a (y k) (dj.alone k l was away) in
        let second : b *ℤ z k ≡ pos 0 = zero_times b (z k) (dc.alone k l was other) in
        omega (arith, ints, first, second)
