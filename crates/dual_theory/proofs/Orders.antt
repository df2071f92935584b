-- The lexicographic order of directions and values, along the pivots and at the end.
use Rattle.std.proofs.Common.{ℕ, zero, suc, ◌≡◌, ◌≢◌, ◌<◌, ◌≤◌, ◌+◌, arith, refl, ap, sym, ◌∙◌, inl, inr, ◌⊎◌, ⊎_elim, subst}
use Rattle.std.specs.Prelude.{ℤ, pos, negsuc, ◌+ℤ◌, ◌*ℤ◌, ◌-ℤ◌, ◌<ℤ◌, ◌≤ℤ◌}
use lib.IntN.{neg_ℤ}
use Rattle.std.proofs.Math.Path.{fun_ext}
use Rattle.std.proofs.lemmas.Int.{ints}
use Rattle.std.proofs.lemmas.Bool.{cases_eq}
use Rattle.row_program.specs.Sums.{sum_from, LexPositive}
use Rattle.row_program.specs.Forms.{Tableau, IsNonbasic, IsSolved, Holds}
use Rattle.exact_num.proofs.Ring.{leaf, plus, minus, times, opposite, same}
use Rattle.pivot_form.proofs.Sums.{positive_product, zero_factor, zero_times, sum_from-combine, sum_from-same}
use Rattle.pivot_form.proofs.Pivots.{IsPivot, next_holds}
use Rattle.dual_theory.proofs.FormValues.{IsDirection, IsBase}
use Rattle.dual_theory.proofs.Lex.{LexNonnegative, weaken, strengthen, LexPositive-add, LexPositive-scale, LexNonnegative-same_signs, LexNonnegative-zeros, LexNonnegative-times, LexNonnegative-sum}
use Rattle.dual_theory.proofs.Sums.{sum_from-one, sum_from-neg, sum_from-but_one}
use Rattle.dual_theory.proofs.Directions.{find_row, row_link, combined, neg_mul, next_nonbasic}

-- the coefficients of each variable in the nonbasic j, each times the basic entry of its row
pub record IsColumn (t : Tableau) (j : ℕ) (f : ℕ → ℤ) : Type 0 where
  pub of_basic : (i : ℕ) → i < t.height → f (t.basic i) ≡ neg_ℤ (t.at i j)
  pub of_self : f j ≡ pos 1
  pub of_nonbasic : (v : ℕ) → IsNonbasic t v → v ≢ j → f v ≡ pos 0

-- the basic entry of the row of a basic variable, and 1 at any other variable
abbrev pub scale : (t : Tableau) → (v : ℕ) → ((k : ℕ) × (k < t.height) × (t.basic k ≡ v)) ⊎ ((k : ℕ) → k < t.height → t.basic k ≢ v) → ℤ
scale t v (inl found) = t.at found.0 v
scale t v (inr free) = pos 1

pub scale_positive : (t : Tableau) (v : ℕ) → IsSolved t → (s : ((k : ℕ) × (k < t.height) × (t.basic k ≡ v)) ⊎ ((k : ℕ) → k < t.height → t.basic k ≢ v)) → pos 0 <ℤ scale t v s
scale_positive t v solved (inl found) = subst (λ (x : ℕ). pos 0 <ℤ t.at found.0 x) found.2 (solved.positive found.0 found.1)
scale_positive t v solved (inr free) = omega (arith, ints)

-- a direction is its column, up to positive factors
pub scale_column : (t : Tableau) (j v : ℕ) (y f : ℕ → ℤ) → IsSolved t → IsDirection t j y → IsNonbasic t j → j < t.width → IsColumn t j f → v < t.width → (s : ((k : ℕ) × (k < t.height) × (t.basic k ≡ v)) ⊎ ((k : ℕ) → k < t.height → t.basic k ≢ v)) → scale t v s *ℤ y v ≡ f v *ℤ y j
scale_column t j v y f solved direction free lt column within (inl found) =
    let e = row_link t j y solved direction free lt found.0 found.1 in
    let there : t.at found.0 v *ℤ y v ≡ neg_ℤ (t.at found.0 j *ℤ y j) = subst (λ (x : ℕ). t.at found.0 x *ℤ y x ≡ neg_ℤ (t.at found.0 j *ℤ y j)) found.2 e in
    let here : f v ≡ neg_ℤ (t.at found.0 j) = subst (λ (x : ℕ). f x ≡ neg_ℤ (t.at found.0 j)) found.2 (column.of_basic found.0 found.1) in
    there ∙ sym (ap (λ (x : ℤ). x *ℤ y j) here ∙ neg_mul (t.at found.0 j) (y j))
scale_column t j v y f solved direction free lt column within (inr off) =
    ⊎_elim
    (λ (e : v ≡ j). subst (λ (x : ℕ). pos 1 *ℤ y x ≡ f x *ℤ y j) (sym e) (sym (ap (λ (x : ℤ). x *ℤ y j) column.of_self)))
    (λ apart.
    let z : y v ≡ pos 0 = direction.alone v within off apart in
    let w : f v ≡ pos 0 = column.of_nonbasic v off apart in
    zero_times (pos 1) (y v) z ∙ sym (ap (λ (x : ℤ). x *ℤ y j) w ∙ omega (arith, ints)))
    (cases_eq v j)

-- the direction of another nonbasic variable j after the pivot is lexicographically positive:
-- where j is no candidate
pub other_rising : (t : Tableau) (j c r : ℕ) (y z : ℕ → ℤ) (count : ℕ) → IsDirection t j y → IsDirection t c z → t.at r c <ℤ pos 0 → pos 0 ≤ℤ t.at r j → LexPositive count 0 y → LexPositive count 0 z → LexPositive count 0 (combined (neg_ℤ (t.at r c) *ℤ z c) y (t.at r j *ℤ y j) z)
other_rising t j c r y z count dj dc negative above ly lz =
    LexPositive-add count 0 (λ u. (neg_ℤ (t.at r c) *ℤ z c) *ℤ y u) (λ u. (t.at r j *ℤ y j) *ℤ z u)
    (LexPositive-scale (neg_ℤ (t.at r c) *ℤ z c) (positive_product (neg_ℤ (t.at r c)) (z c) (omega (arith, ints, negative)) dc.rises) count 0 y ly)
    (LexNonnegative-times (t.at r j *ℤ y j) (nonnegative_product (t.at r j) (y j) above dj.rises) count 0 z (weaken count 0 z lz))
  where
    nonnegative_product : (a b : ℤ) → pos 0 ≤ℤ a → pos 0 <ℤ b → pos 0 ≤ℤ (a *ℤ b)
    nonnegative_product (pos zero) b h k = omega (arith, ints)
    nonnegative_product (pos (suc a)) b h k = let p = positive_product (pos (suc a)) b (omega (arith, ints)) k in omega (arith, ints, p)
    nonnegative_product (negsuc a) b h k = absurd (omega (arith, ints, h))

-- where j is a candidate: the column of c is least
pub other_candidate : (t : Tableau) (j c r : ℕ) (y z f h : ℕ → ℤ) (count : ℕ) → IsSolved t → IsDirection t j y → IsDirection t c z → IsNonbasic t j → IsNonbasic t c → j < t.width → c < t.width → count ≤ t.width → IsColumn t j f → IsColumn t c h
    → LexNonnegative count 0 (λ v. f v *ℤ neg_ℤ (t.at r c) -ℤ h v *ℤ neg_ℤ (t.at r j))
    → (((v : ℕ) → 0 ≤ v → v < 0 + count → combined (neg_ℤ (t.at r c) *ℤ z c) y (t.at r j *ℤ y j) z v ≡ pos 0) → ⊥)
    → LexPositive count 0 (combined (neg_ℤ (t.at r c) *ℤ z c) y (t.at r j *ℤ y j) z)
other_candidate t j c r y z f h count solved dj dc fj fc lj lc low cj cc' least apart =
    strengthen count 0 w (LexNonnegative-same_signs s count 0 (λ v. (y j *ℤ z c) *ℤ difference v) w (λ v l. (scale_positive t v solved (find_row t.height t.basic v), sym (signs v (omega (arith, l, low))))) (weaken_scaled)) apart
  where
    w : ℕ → ℤ
    w = combined (neg_ℤ (t.at r c) *ℤ z c) y (t.at r j *ℤ y j) z

    s : ℕ → ℤ
    s v = scale t v (find_row t.height t.basic v)

    difference : ℕ → ℤ
    difference v = f v *ℤ neg_ℤ (t.at r c) -ℤ h v *ℤ neg_ℤ (t.at r j)

    weaken_scaled : LexNonnegative count 0 (λ v. (y j *ℤ z c) *ℤ difference v)
    weaken_scaled = LexNonnegative-times (y j *ℤ z c) (let p = positive_product (y j) (z c) dj.rises dc.rises in omega (arith, ints, p)) count 0 difference least

    identity : (e a b m n rj rc lj lc : ℤ) → e *ℤ a ≡ m *ℤ lj → e *ℤ b ≡ n *ℤ lc → e *ℤ ((neg_ℤ rc *ℤ lc) *ℤ a +ℤ (rj *ℤ lj) *ℤ b) ≡ (lj *ℤ lc) *ℤ (m *ℤ neg_ℤ rc -ℤ n *ℤ neg_ℤ rj)
    identity e a b m n rj rc lj lc p q =
        let E = leaf e in let A = leaf a in let B = leaf b in let C = leaf rc in let J = leaf rj in let X = leaf lj in let Y = leaf lc in
        let left : e *ℤ ((neg_ℤ rc *ℤ lc) *ℤ a +ℤ (rj *ℤ lj) *ℤ b) ≡ (neg_ℤ rc *ℤ lc) *ℤ (e *ℤ a) +ℤ (rj *ℤ lj) *ℤ (e *ℤ b)
        = same (times E (plus (times (times (opposite C) Y) A) (times (times J X) B))) (plus (times (times (opposite C) Y) (times E A)) (times (times J X) (times E B))) (omega arith) in
        let put : (neg_ℤ rc *ℤ lc) *ℤ (e *ℤ a) +ℤ (rj *ℤ lj) *ℤ (e *ℤ b) ≡ (neg_ℤ rc *ℤ lc) *ℤ (m *ℤ lj) +ℤ (rj *ℤ lj) *ℤ (n *ℤ lc) = cc in
        left ∙ put ∙ same (plus (times (times (opposite C) Y) (times (leaf m) X)) (times (times J X) (times (leaf n) Y))) (times (times X Y) (minus (times (leaf m) (opposite C)) (times (leaf n) (opposite J)))) (omega arith)

    signs : (v : ℕ) → v < t.width → s v *ℤ w v ≡ (y j *ℤ z c) *ℤ difference v
    signs v l = identity (s v) (y v) (z v) (f v) (h v) (t.at r j) (t.at r c) (y j) (z c) (scale_column t j v y f solved dj fj lj cj l (find_row t.height t.basic v)) (scale_column t c v z h solved dc fc lc cc' l (find_row t.height t.basic v))

-- ---- the base, and the rise of the values
-- at a base, a basic variable is its right side over its entry
pub base_value : (t : Tableau) (y : ℕ → ℤ) (d : ℤ) → IsSolved t → IsBase t y d → (i : ℕ) → i < t.height → t.at i (t.basic i) *ℤ y (t.basic i) ≡ t.right i *ℤ d
base_value t y d solved base i h = sym (sum_from-one t.width 0 (λ j. t.at i j *ℤ y j) (t.basic i) (omega arith) (omega (arith, solved.within i h)) (λ u a l apart. rests u (omega (arith, l)) apart)) ∙ base.holds i h
  where
    rests : (u : ℕ) → u < t.width → u ≢ t.basic i → t.at i u *ℤ y u ≡ pos 0
    rests u l apart =
        ⊎_elim
        (λ found. let z : t.at i u ≡ pos 0 = subst (λ (x : ℕ). t.at i x ≡ pos 0) found.2 (solved.clear found.0 i found.1 h (λ e. apart (sym found.2 ∙ ap t.basic (sym e)))) in ap (λ (x : ℤ). x *ℤ y u) z ∙ omega (arith, ints))
        (λ free. zero_times (t.at i u) (y u) (base.rests u l free))
        (find_row t.height t.basic u)

mixed_holds : (t : Tableau) (a b d : ℤ) (y z : ℕ → ℤ) → Holds t y d → Holds t z (pos 0) → Holds t (combined a y b z) (a *ℤ d)
mixed_holds t a b d y z h k i l =
    let terms = sum_from-same t.width 0 (λ j. t.at i j *ℤ combined a y b z j) (λ j. a *ℤ (t.at i j *ℤ y j) -ℤ neg_ℤ b *ℤ (t.at i j *ℤ z j)) (λ j m n. one (t.at i j) (y j) (z j)) in
    let both = sum_from-combine t.width 0 a (neg_ℤ b) (λ j. t.at i j *ℤ y j) (λ j. t.at i j *ℤ z j) in
    let none : t.right i *ℤ pos 0 ≡ pos 0 = zero_times (t.right i) (pos 0) refl in
    let first : a *ℤ sum_from t.width 0 (λ j. t.at i j *ℤ y j) ≡ a *ℤ (t.right i *ℤ d) = ap (λ (x : ℤ). a *ℤ x) (h i l) in
    let second : neg_ℤ b *ℤ sum_from t.width 0 (λ j. t.at i j *ℤ z j) ≡ pos 0 = zero_times (neg_ℤ b) _ (k i l ∙ none) in
    let swap : a *ℤ (t.right i *ℤ d) ≡ t.right i *ℤ (a *ℤ d) = same (times (leaf a) (times (leaf (t.right i)) (leaf d))) (times (leaf (t.right i)) (times (leaf a) (leaf d))) (omega arith) in
    terms ∙ both ∙ omega (arith, ints, first, second, swap)
  where
    one : (x m n : ℤ) → x *ℤ (a *ℤ m +ℤ b *ℤ n) ≡ a *ℤ (x *ℤ m) -ℤ neg_ℤ b *ℤ (x *ℤ n)
    one x m n = let A = leaf a in let B = leaf b in let X = leaf x in same (times X (plus (times A (leaf m)) (times B (leaf n)))) (minus (times A (times X (leaf m))) (times (opposite B) (times X (leaf n)))) (omega arith)

-- the base of the next form
pub next_base : (t u : Tableau) (r c : ℕ) (lead : ℕ → ℤ) (last s : ℤ) (g : ℕ → ℤ) (y z : ℕ → ℤ) (d : ℤ) → IsPivot t u r c lead last s g → IsSolved t → IsBase t y d → IsDirection t c z → IsNonbasic t c → c < t.width → r < t.height → t.at r c <ℤ pos 0 → IsBase u (combined (neg_ℤ (t.at r c) *ℤ z c) y (neg_ℤ (t.right r) *ℤ d) z) ((neg_ℤ (t.at r c) *ℤ z c) *ℤ d)
next_base t u r c lead last s g y z d pivot solved base dc fc lc within negative = record {
  holds = next_holds t u r c lead last s g w (a *ℤ d) pivot within (mixed_holds t a b d y z base.holds dc.holds);
  positive = positive_product a d (positive_product (neg_ℤ (t.at r c)) (z c) (omega (arith, ints, negative)) dc.rises) base.positive;
  rests = λ k l f. let both = next_nonbasic t u r c lead last s g pivot within k f in ⊎_elim (λ e. subst (λ (x : ℕ). w x ≡ pos 0) (sym e) leaves) (λ was. stays k (subst (λ (m : ℕ). k < m) pivot.width l) was both.0) both.1;
}
  where
    a : ℤ
    a = neg_ℤ (t.at r c) *ℤ z c

    b : ℤ
    b = neg_ℤ (t.right r) *ℤ d

    w : ℕ → ℤ
    w = combined a y b z

    stays : (k : ℕ) → k < t.width → IsNonbasic t k → k ≢ c → w k ≡ pos 0
    stays k l was other =
        let first : a *ℤ y k ≡ pos 0 = zero_times a (y k) (base.rests k l was) in
        let second : b *ℤ z k ≡ pos 0 = zero_times b (z k) (dc.alone k l was other) in
        omega (arith, ints, first, second)

    identity : (e p q m n rd rc lc : ℤ) → e *ℤ p ≡ m *ℤ n → e *ℤ q ≡ neg_ℤ (rc *ℤ lc) → e *ℤ ((neg_ℤ rc *ℤ lc) *ℤ p +ℤ (neg_ℤ m *ℤ n) *ℤ q) ≡ pos 0
    identity e p q m n rd rc lc i j =
        let E = leaf e in let C = leaf rc in let Y = leaf lc in let M = leaf m in let N = leaf n in
        let left : e *ℤ ((neg_ℤ rc *ℤ lc) *ℤ p +ℤ (neg_ℤ m *ℤ n) *ℤ q) ≡ (neg_ℤ rc *ℤ lc) *ℤ (e *ℤ p) +ℤ (neg_ℤ m *ℤ n) *ℤ (e *ℤ q)
        = same (times E (plus (times (times (opposite C) Y) (leaf p)) (times (times (opposite M) N) (leaf q)))) (plus (times (times (opposite C) Y) (times E (leaf p))) (times (times (opposite M) N) (times E (leaf q)))) (omega arith) in
        let put : (neg_ℤ rc *ℤ lc) *ℤ (e *ℤ p) +ℤ (neg_ℤ m *ℤ n) *ℤ (e *ℤ q) ≡ (neg_ℤ rc *ℤ lc) *ℤ (m *ℤ n) +ℤ (neg_ℤ m *ℤ n) *ℤ neg_ℤ (rc *ℤ lc) = cc in
        left ∙ put ∙ same (plus (times (times (opposite C) Y) (times M N)) (times (times (opposite M) N) (opposite (times C Y)))) (leaf (pos 0)) (omega arith)

    leaves : w (t.basic r) ≡ pos 0
    leaves = zero_factor (t.at r (t.basic r)) (w (t.basic r)) (solved.positive r within) (identity (t.at r (t.basic r)) (y (t.basic r)) (z (t.basic r)) (t.right r) d (pos 0) (t.at r c) (z c) (base_value t y d solved base r within) (row_link t c z solved dc fc lc r within))

-- the values rise strictly
pub base_rises : (count : ℕ) (y z : ℕ → ℤ) (a b d : ℤ) → pos 0 <ℤ d → pos 0 <ℤ b → LexPositive count 0 z → LexPositive count 0 (λ v. d *ℤ combined a y b z v -ℤ (a *ℤ d) *ℤ y v)
base_rises count y z a b d h k lz = LexPositive-same (λ v. (d *ℤ b) *ℤ z v) (λ v. d *ℤ combined a y b z v -ℤ (a *ℤ d) *ℤ y v) (λ v. one (y v) (z v)) (LexPositive-scale (d *ℤ b) (positive_product d b h k) count 0 z lz)
  where
    one : (m n : ℤ) → (d *ℤ b) *ℤ n ≡ d *ℤ (a *ℤ m +ℤ b *ℤ n) -ℤ (a *ℤ d) *ℤ m
    one m n = let A = leaf a in let B = leaf b in let D = leaf d in same (times (times D B) (leaf n)) (minus (times D (plus (times A (leaf m)) (times B (leaf n)))) (times (times A D) (leaf m))) (omega arith)

    LexPositive-same : (f g : ℕ → ℤ) → ((v : ℕ) → f v ≡ g v) → LexPositive count 0 f → LexPositive count 0 g
    LexPositive-same f g e p = subst (LexPositive count 0) (fun_ext e) p

-- ---- the end
abbrev weight : (t : Tableau) (y : ℕ → ℤ) (j : ℕ) → ((k : ℕ) × (k < t.height) × (t.basic k ≡ j)) ⊎ ((k : ℕ) → k < t.height → t.basic k ≢ j) → ℤ
weight t y j (inl found) = pos 0
weight t y j (inr free) = y j

-- where nothing is negative at the base, it is lexicographically least among all points
pub base_least : (t : Tableau) (count : ℕ) (columns : ℕ → ℕ → ℤ) (b : ℕ → ℤ) (d : ℤ) (y : ℕ → ℤ) (e : ℤ) → IsSolved t → IsBase t b d → Holds t y e → ((j : ℕ) → j < t.width → pos 0 ≤ℤ y j)
    → ((j : ℕ) → j < t.width → IsNonbasic t j → IsColumn t j (columns j)) → ((j : ℕ) → j < t.width → IsNonbasic t j → LexPositive count 0 (columns j)) → count ≤ t.width
    → LexNonnegative count 0 (λ v. d *ℤ y v -ℤ e *ℤ b v)
base_least t count columns b d y e solved base holds above column rising low =
    LexNonnegative-same_signs (λ v. scale t v (find_row t.height t.basic v)) count 0 (λ v. d *ℤ total v) (λ v. d *ℤ y v -ℤ e *ℤ b v)
    (λ v l. (scale_positive t v solved (find_row t.height t.basic v), sym (signs v (omega (arith, l, low)) (find_row t.height t.basic v))))
    (LexNonnegative-times d (let p = base.positive in omega (arith, ints, p)) count 0 total (LexNonnegative-sum t.width 0 count 0 (λ j v. w j *ℤ columns j v) (λ j a l. part j (omega (arith, l)) (find_row t.height t.basic j) refl)))
  where
    w : ℕ → ℤ
    w j = weight t y j (find_row t.height t.basic j)

    total : ℕ → ℤ
    total v = sum_from t.width 0 (λ j. w j *ℤ columns j v)

    part : (j : ℕ) → j < t.width → (s : ((k : ℕ) × (k < t.height) × (t.basic k ≡ j)) ⊎ ((k : ℕ) → k < t.height → t.basic k ≢ j)) → find_row t.height t.basic j ≡ s → LexNonnegative count 0 (λ v. w j *ℤ columns j v)
    part j l (inl found) is = let z : w j ≡ pos 0 = ap (weight t y j) is in LexNonnegative-zeros count 0 (λ v. w j *ℤ columns j v) (λ v. ap (λ (x : ℤ). x *ℤ columns j v) z ∙ omega (arith, ints))
    part j l (inr free) is = let z : w j ≡ y j = ap (weight t y j) is in LexNonnegative-times (w j) (let p = above j l in omega (arith, ints, p, z)) count 0 (columns j) (weaken count 0 (columns j) (rising j l free))

    weight_basic : (j : ℕ) → ((k : ℕ) × (k < t.height) × (t.basic k ≡ j)) → w j ≡ pos 0
    weight_basic j found = of_case (find_row t.height t.basic j)
      where
        of_case : (s : ((k : ℕ) × (k < t.height) × (t.basic k ≡ j)) ⊎ ((k : ℕ) → k < t.height → t.basic k ≢ j)) → weight t y j s ≡ pos 0
        of_case (inl other) = refl
        of_case (inr free) = absurd (free found.0 found.1 found.2)

    weight_free : (j : ℕ) → IsNonbasic t j → w j ≡ y j
    weight_free j free = of_case (find_row t.height t.basic j)
      where
        of_case : (s : ((k : ℕ) × (k < t.height) × (t.basic k ≡ j)) ⊎ ((k : ℕ) → k < t.height → t.basic k ≢ j)) → weight t y j s ≡ y j
        of_case (inl found) = absurd (free found.0 found.1 found.2)
        of_case (inr other) = refl

    ring_basic : (m p q n z : ℤ) → m *ℤ p ≡ n *ℤ e +ℤ z → m *ℤ q ≡ n *ℤ d → m *ℤ (d *ℤ p -ℤ e *ℤ q) ≡ d *ℤ z
    ring_basic m p q n z i j =
        let D = leaf d in let E = leaf e in let M = leaf m in let N = leaf n in
        let left : m *ℤ (d *ℤ p -ℤ e *ℤ q) ≡ d *ℤ (m *ℤ p) -ℤ e *ℤ (m *ℤ q) = same (times M (minus (times D (leaf p)) (times E (leaf q)))) (minus (times D (times M (leaf p))) (times E (times M (leaf q)))) (omega arith) in
        let put : d *ℤ (m *ℤ p) -ℤ e *ℤ (m *ℤ q) ≡ d *ℤ (n *ℤ e +ℤ z) -ℤ e *ℤ (n *ℤ d) = cc in
        left ∙ put ∙ same (minus (times D (plus (times N E) (leaf z))) (times E (times N D))) (times D (leaf z)) (omega arith)

    -- away from v the terms of the row of v are those of the total
    term : (i v : ℕ) → i < t.height → t.basic i ≡ v → (u : ℕ) → u < t.width → u ≢ v → (s : ((k : ℕ) × (k < t.height) × (t.basic k ≡ u)) ⊎ ((k : ℕ) → k < t.height → t.basic k ≢ u)) → t.at i u *ℤ y u ≡ neg_ℤ (w u *ℤ columns u v)
    term i v h is u l apart (inl found) =
        let z : t.at i u ≡ pos 0 = subst (λ (x : ℕ). t.at i x ≡ pos 0) found.2 (solved.clear found.0 i found.1 h (λ f. apart (sym found.2 ∙ ap t.basic (sym f) ∙ is))) in
        let none : w u ≡ pos 0 = weight_basic u found in
        let first : t.at i u *ℤ y u ≡ pos 0 = ap (λ (x : ℤ). x *ℤ y u) z ∙ omega (arith, ints) in
        let second : w u *ℤ columns u v ≡ pos 0 = ap (λ (x : ℤ). x *ℤ columns u v) none ∙ omega (arith, ints) in
        omega (arith, ints, first, second)
    term i v h is u l apart (inr free) =
        let here : w u ≡ y u = weight_free u free in
        let there : columns u v ≡ neg_ℤ (t.at i u) = subst (λ (x : ℕ). columns u x ≡ neg_ℤ (t.at i u)) is ((column u l free).of_basic i h) in
        let put : neg_ℤ (w u *ℤ columns u v) ≡ neg_ℤ (y u *ℤ neg_ℤ (t.at i u)) = cc in
        same (times (leaf (t.at i u)) (leaf (y u))) (opposite (times (leaf (y u)) (opposite (leaf (t.at i u))))) (omega arith) ∙ sym put

    other_free : (v : ℕ) → IsNonbasic t v → (u : ℕ) → u < t.width → u ≢ v → (s : ((k : ℕ) × (k < t.height) × (t.basic k ≡ u)) ⊎ ((k : ℕ) → k < t.height → t.basic k ≢ u)) → w u *ℤ columns u v ≡ pos 0
    other_free v was u l apart (inl found) = let none : w u ≡ pos 0 = weight_basic u found in ap (λ (x : ℤ). x *ℤ columns u v) none ∙ omega (arith, ints)
    other_free v was u l apart (inr free) = zero_times (w u) (columns u v) ((column u l free).of_nonbasic v was (λ f. apart (sym f)))

    basic_sign : (v i : ℕ) → i < t.height → t.basic i ≡ v → v < t.width → t.at i v *ℤ (d *ℤ y v -ℤ e *ℤ b v) ≡ d *ℤ total v
    basic_sign v i h is l =
        let there : t.at i v *ℤ b v ≡ t.right i *ℤ d = subst (λ (x : ℕ). t.at i x *ℤ b x ≡ t.right i *ℤ d) is (base_value t b d solved base i h) in
        let whole : t.at i v *ℤ y v +ℤ sum_from t.width 0 (λ j. neg_ℤ (w j *ℤ columns j v)) ≡ t.right i *ℤ e = sym (sum_from-but_one t.width 0 (λ j. t.at i j *ℤ y j) (λ j. neg_ℤ (w j *ℤ columns j v)) v (omega arith) (omega (arith, l)) (λ u a m apart. term i v h is u (omega (arith, m)) apart (find_row t.height t.basic u)) at_self) ∙ holds i h in
        let negated : sum_from t.width 0 (λ j. neg_ℤ (w j *ℤ columns j v)) ≡ neg_ℤ (total v) = sum_from-neg t.width 0 (λ j. w j *ℤ columns j v) (λ j. neg_ℤ (w j *ℤ columns j v)) (λ j. refl) in
        let here : t.at i v *ℤ y v ≡ t.right i *ℤ e +ℤ total v = omega (arith, ints, whole, negated) in
        ring_basic (t.at i v) (y v) (b v) (t.right i) (total v) here there
      where
        at_self : neg_ℤ (w v *ℤ columns v v) ≡ pos 0
        at_self = let z : w v ≡ pos 0 = weight_basic v (i, h, is) in ap (λ (x : ℤ). neg_ℤ (x *ℤ columns v v)) z ∙ omega (arith, ints)

    free_sign : (v : ℕ) → IsNonbasic t v → v < t.width → pos 1 *ℤ (d *ℤ y v -ℤ e *ℤ b v) ≡ d *ℤ total v
    free_sign v free l =
        let alone : total v ≡ w v *ℤ columns v v = sum_from-one t.width 0 (λ j. w j *ℤ columns j v) v (omega arith) (omega (arith, l)) (λ u a m apart. other_free v free u (omega (arith, m)) apart (find_row t.height t.basic u)) in
        let self : columns v v ≡ pos 1 = (column v l free).of_self in
        let here : w v ≡ y v = weight_free v free in
        let rest : b v ≡ pos 0 = base.rests v l free in
        let first : total v ≡ y v = alone ∙ ap (λ (x : ℤ). w v *ℤ x) self ∙ omega (arith, ints, here) in
        let second : e *ℤ b v ≡ pos 0 = zero_times e (b v) rest in
        let third : d *ℤ total v ≡ d *ℤ y v = ap (λ (x : ℤ). d *ℤ x) first in
        omega (arith, ints, second, third)

    signs : (v : ℕ) → v < t.width → (s : ((k : ℕ) × (k < t.height) × (t.basic k ≡ v)) ⊎ ((k : ℕ) → k < t.height → t.basic k ≢ v)) → scale t v s *ℤ (d *ℤ y v -ℤ e *ℤ b v) ≡ d *ℤ total v
    signs v l (inl found) = basic_sign v found.0 found.1 found.2 l
    signs v l (inr free) = free_sign v free l
