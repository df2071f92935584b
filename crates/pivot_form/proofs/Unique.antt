-- Two reduced forms with the same basic variables and the same solutions are the same.
use Rattle.std.proofs.Common.{ℕ, zero, suc, ◌≡◌, ◌≢◌, ◌<◌, ◌+◌, arith, refl, ap, sym, ◌∙◌, ◌⊎◌, ⊎_elim, subst, inl, inr, List, [], length, get_or, map}
use Rattle.std.specs.Prelude.{ℤ, pos, ◌+ℤ◌, ◌*ℤ◌, ◌-ℤ◌, ◌<ℤ◌, ◌==◌, if◌then◌else◌, unsigned_abs}
use lib.IntN.{neg_ℤ}
use Rattle.std.proofs.lemmas.Int.{ints}
use Rattle.std.proofs.lemmas.Bool.{cases_eq}
use Rattle.std.proofs.lemmas.Bool.Decides.{nat_tests}
use Rattle.std.proofs.lemmas.List.{ext_get_or, length-map}
use Rattle.exact_num.specs.Divisors.{primitive, IsPrimitive}
use Rattle.exact_num.proofs.Ring.{leaf, times, plus, minus, opposite, same}
use Rattle.row_program.specs.Sums.{sum_from}
use Rattle.row_program.specs.Forms.{Table, Tableau, tableau, row_of, entry, Holds, IsSolved, IsNonbasic, IsReduced}
use Rattle.pivot_form.proofs.Sums.{cancel, zero_times}
use Rattle.pivot_form.proofs.Links.{link_alone, link_apart, others, others_positive, others_times, product}
use Rattle.pivot_form.proofs.Equations.{positive_is, scaled_entry, scaled_primitive}
use Rattle.pivot_form.proofs.NextForm.{IsShaped, make_same}

-- the row of a basic variable, or none
pub find_row : (m : ℕ) (basic : ℕ → ℕ) (u : ℕ) → ((k : ℕ) × (k < m) × (basic k ≡ u)) ⊎ ((k : ℕ) → k < m → basic k ≢ u)
find_row zero basic u = inr (λ k h e. omega (arith, h))
find_row (suc m) basic u =
    ⊎_elim
    (λ found. inl (found.0, omega (arith, found.1), found.2))
    (λ apart. ⊎_elim (λ e. inl (m, omega arith, e)) (λ other. inr (λ k h. ⊎_elim (λ (e : k ≡ m). subst (λ (x : ℕ). basic x ≢ u) (sym e) other) (λ away. apart k (omega (arith, h, away))) (cases_eq k m))) (cases_eq (basic m) u))
    (find_row m basic u)

-- ---- values given by rows, and elsewhere by variables
abbrev at_basics : ℕ → (ℕ → ℕ) → (ℕ → ℤ) → (ℕ → ℤ) → ℕ → ℤ
at_basics zero basic w rest v = rest v
at_basics (suc m) basic w rest v = if basic m == v then w m else at_basics m basic w rest v

basics_here : (m : ℕ) (basic : ℕ → ℕ) (w rest : ℕ → ℤ) (v : ℕ) → basic m ≡ v → at_basics (suc m) basic w rest v ≡ w m
basics_here m basic w rest v e = grind (arith, nat_tests)

basics_off : (m : ℕ) (basic : ℕ → ℕ) (w rest : ℕ → ℤ) (v : ℕ) → basic m ≢ v → at_basics (suc m) basic w rest v ≡ at_basics m basic w rest v
basics_off m basic w rest v h = grind (arith, nat_tests)

at_nonbasic : (m : ℕ) (basic : ℕ → ℕ) (w rest : ℕ → ℤ) (v : ℕ) → ((i : ℕ) → i < m → basic i ≢ v) → at_basics m basic w rest v ≡ rest v
at_nonbasic zero basic w rest v h = refl
at_nonbasic (suc m) basic w rest v h = basics_off m basic w rest v (h m (omega arith)) ∙ at_nonbasic m basic w rest v (λ i l. h i (omega (arith, l)))

at_basic : (m : ℕ) (basic : ℕ → ℕ) (w rest : ℕ → ℤ) (k : ℕ) → k < m → ((i : ℕ) → i < m → i ≢ k → basic i ≢ basic k) → at_basics m basic w rest (basic k) ≡ w k
at_basic zero basic w rest k l h = absurd (omega (arith, l))
at_basic (suc m) basic w rest k l h =
    ⊎_elim
    (λ (e : m ≡ k). basics_here m basic w rest (basic k) (ap basic e) ∙ ap w e)
    (λ apart. basics_off m basic w rest (basic k) (h m (omega arith) apart) ∙ at_basic m basic w rest k (omega (arith, l, apart)) (λ i j. h i (omega (arith, j))))
    (cases_eq m k)

-- ---- the solutions of a solved form
abbrev own : Tableau → ℕ → ℤ
own t k = t.at k (t.basic k)

-- where j alone of the nonbasic variables moves
abbrev way : Tableau → ℕ → ℕ → ℤ
way t j = at_basics t.height t.basic (λ k. neg_ℤ (others t.height k (own t) *ℤ t.at k j)) (λ v. if v == j then product t.height (own t) else pos 0)

-- where none of them does
abbrev base : Tableau → ℕ → ℤ
base t = at_basics t.height t.basic (λ k. others t.height k (own t) *ℤ t.right k) (λ v. pos 0)

module _ (t : Tableau) (solved : IsSolved t) where
  apart_basics : (i k : ℕ) → i < t.height → k < t.height → i ≢ k → t.basic i ≢ t.basic k
  apart_basics i k h l apart e =
      let zero_there = solved.clear i k h l (λ f. apart (sym f)) in
      let above = solved.positive k l in
      let moved : t.at k (t.basic i) ≡ t.at k (t.basic k) = ap (λ (v : ℕ). t.at k v) e in
      omega (arith, ints, zero_there, above, moved)

  way_basic : (j k : ℕ) → k < t.height → way t j (t.basic k) ≡ neg_ℤ (others t.height k (own t) *ℤ t.at k j)
  way_basic j k l = at_basic t.height t.basic _ _ k l (λ i h apart. apart_basics i k h l apart)

  way_self : (j : ℕ) → IsNonbasic t j → way t j j ≡ product t.height (own t)
  way_self j non = at_nonbasic t.height t.basic _ _ j non ∙ (grind (arith, nat_tests))

  way_other : (j v : ℕ) → IsNonbasic t v → v ≢ j → way t j v ≡ pos 0
  way_other j v non apart = at_nonbasic t.height t.basic _ _ v non ∙ (grind (arith, nat_tests))

  base_basic : (k : ℕ) → k < t.height → base t (t.basic k) ≡ others t.height k (own t) *ℤ t.right k
  base_basic k l = at_basic t.height t.basic _ _ k l (λ i h apart. apart_basics i k h l apart)

  base_other : (v : ℕ) → IsNonbasic t v → base t v ≡ pos 0
  base_other v non = at_nonbasic t.height t.basic _ _ v non

-- a row of a solved form u with the basic variables of t, at the values that t gives
module _ (t u : Tableau) (solved : IsSolved t) (solved' : IsSolved u) (height : u.height ≡ t.height) (width : u.width ≡ t.width) (basic : (i : ℕ) → i < t.height → u.basic i ≡ t.basic i) where
  low : (i : ℕ) → i < t.height → i < u.height
  low i h = omega (arith, h, height)

  clear' : (i k : ℕ) → i < t.height → k < t.height → k ≢ i → u.at k (t.basic i) ≡ pos 0
  clear' i k h l apart = ap (λ (v : ℕ). u.at k v) (sym (basic i h)) ∙ solved'.clear i k (low i h) (low k l) apart

  way_sum : (j k : ℕ) → IsNonbasic t j → j < t.width → k < t.height
      → sum_from u.width 0 (λ v. u.at k v *ℤ way t j v) ≡ u.at k (t.basic k) *ℤ way t j (t.basic k) +ℤ u.at k j *ℤ way t j j
  way_sum j k non lt l =
      link_apart u.width (u.at k) (way t j) (t.basic k) j (non k l) (omega (arith, solved.within k l, width)) (omega (arith, lt, width))
      (λ v h off other. ⊎_elim
      (λ (found : (i : ℕ) × (i < t.height) × (t.basic i ≡ v)). inl (ap (λ (x : ℕ). u.at k x) (sym found.2) ∙ clear' found.0 k found.1 l (λ e. off (sym found.2 ∙ ap t.basic (sym e)))))
      (λ none. inr (way_other t solved j v none other))
      (find_row t.height t.basic v))

  base_sum : (k : ℕ) → k < t.height → sum_from u.width 0 (λ v. u.at k v *ℤ base t v) ≡ u.at k (t.basic k) *ℤ base t (t.basic k)
  base_sum k l =
      link_alone u.width (u.at k) (base t) (t.basic k) (omega (arith, solved.within k l, width))
      (λ v h off. ⊎_elim
      (λ (found : (i : ℕ) × (i < t.height) × (t.basic i ≡ v)). inl (ap (λ (x : ℕ). u.at k x) (sym found.2) ∙ clear' found.0 k found.1 l (λ e. off (sym found.2 ∙ ap t.basic (sym e)))))
      (λ none. inr (base_other t solved v none))
      (find_row t.height t.basic v))

-- both are solutions of t itself
own_times : (t : Tableau) (k : ℕ) → k < t.height → own t k *ℤ others t.height k (own t) ≡ product t.height (own t)
own_times t k l = others_times t.height k (own t) l

gone : (d o a q : ℤ) → d *ℤ o ≡ q → d *ℤ neg_ℤ (o *ℤ a) +ℤ a *ℤ q ≡ pos 0
gone d o a q e =
    ap (λ (x : ℤ). d *ℤ neg_ℤ (o *ℤ a) +ℤ a *ℤ x) (sym e)
    ∙ same (plus (times (leaf d) (opposite (times (leaf o) (leaf a)))) (times (leaf a) (times (leaf d) (leaf o)))) (leaf (pos 0)) (omega arith)

way_holds : (t : Tableau) (solved : IsSolved t) (j : ℕ) → IsNonbasic t j → j < t.width → Holds t (way t j) (pos 0)
way_holds t solved j non lt k l =
    way_sum t t solved solved refl refl (λ i h. refl) j k non lt l
    ∙ ap (λ (x : ℤ). own t k *ℤ x +ℤ t.at k j *ℤ way t j j) (way_basic t solved j k l)
    ∙ ap (λ (x : ℤ). own t k *ℤ neg_ℤ (others t.height k (own t) *ℤ t.at k j) +ℤ t.at k j *ℤ x) (way_self t solved j non)
    ∙ gone (own t k) (others t.height k (own t)) (t.at k j) (product t.height (own t)) (own_times t k l)
    ∙ sym (zero_times (t.right k) (pos 0) refl)

base_holds : (t : Tableau) (solved : IsSolved t) → Holds t (base t) (product t.height (own t))
base_holds t solved k l =
    base_sum t t solved solved refl refl (λ i h. refl) k l
    ∙ ap (λ (x : ℤ). own t k *ℤ x) (base_basic t solved k l)
    ∙ same (times (leaf (own t k)) (times (leaf (others t.height k (own t))) (leaf (t.right k)))) (times (leaf (t.right k)) (times (leaf (own t k)) (leaf (others t.height k (own t))))) (omega arith)
    ∙ ap (λ (x : ℤ). t.right k *ℤ x) (own_times t k l)

-- ---- what the same solutions say of the entries
across : (d d' o a a' q : ℤ) → d *ℤ o ≡ q → d' *ℤ neg_ℤ (o *ℤ a) +ℤ a' *ℤ q ≡ pos 0 → o *ℤ (d' *ℤ a) ≡ o *ℤ (d *ℤ a')
across d d' o a a' q e z =
    let moved : d' *ℤ neg_ℤ (o *ℤ a) +ℤ a' *ℤ (d *ℤ o) ≡ pos 0 = ap (λ (x : ℤ). d' *ℤ neg_ℤ (o *ℤ a) +ℤ a' *ℤ x) e ∙ z in
    let left : o *ℤ (d *ℤ a') -ℤ o *ℤ (d' *ℤ a) ≡ d' *ℤ neg_ℤ (o *ℤ a) +ℤ a' *ℤ (d *ℤ o) = same (minus (times (leaf o) (times (leaf d) (leaf a'))) (times (leaf o) (times (leaf d') (leaf a)))) (plus (times (leaf d') (opposite (times (leaf o) (leaf a)))) (times (leaf a') (times (leaf d) (leaf o)))) (omega arith) in
    omega (arith, ints, moved, left)

module _ (t u : Tableau) (solved : IsSolved t) (solved' : IsSolved u) (height : u.height ≡ t.height) (width : u.width ≡ t.width) (basic : (i : ℕ) → i < t.height → u.basic i ≡ t.basic i) (kept : (y : ℕ → ℤ) (d : ℤ) → Holds t y d → Holds u y d) where
  same_column : (j k : ℕ) → IsNonbasic t j → j < t.width → k < t.height → u.at k (t.basic k) *ℤ t.at k j ≡ own t k *ℤ u.at k j
  same_column j k non lt l =
      let o = others t.height k (own t) in
      let z : u.at k (t.basic k) *ℤ neg_ℤ (o *ℤ t.at k j) +ℤ u.at k j *ℤ product t.height (own t) ≡ pos 0 =
      ap (λ (x : ℤ). u.at k (t.basic k) *ℤ x +ℤ u.at k j *ℤ product t.height (own t)) (sym (way_basic t solved j k l))
      ∙ ap (λ (x : ℤ). u.at k (t.basic k) *ℤ way t j (t.basic k) +ℤ u.at k j *ℤ x) (sym (way_self t solved j non))
      ∙ sym (way_sum t u solved solved' height width basic j k non lt l)
      ∙ kept (way t j) (pos 0) (way_holds t solved j non lt) k (omega (arith, l, height))
      ∙ zero_times (u.right k) (pos 0) refl in
      cancel o _ _ (others_positive t.height k (own t) (λ i h. solved.positive i h)) (across (own t k) (u.at k (t.basic k)) o (t.at k j) (u.at k j) (product t.height (own t)) (own_times t k l) z)

  same_right : (k : ℕ) → k < t.height → u.at k (t.basic k) *ℤ t.right k ≡ own t k *ℤ u.right k
  same_right k l =
      let o = others t.height k (own t) in
      let D' = leaf (u.at k (t.basic k)) in
      let z : u.at k (t.basic k) *ℤ (o *ℤ t.right k) ≡ u.right k *ℤ (own t k *ℤ o) =
      ap (λ (x : ℤ). u.at k (t.basic k) *ℤ x) (sym (base_basic t solved k l))
      ∙ sym (base_sum t u solved solved' height width basic k l)
      ∙ kept (base t) (product t.height (own t)) (base_holds t solved) k (omega (arith, l, height))
      ∙ ap (λ (x : ℤ). u.right k *ℤ x) (sym (own_times t k l)) in
      cancel o _ _ (others_positive t.height k (own t) (λ i h. solved.positive i h))
      (same (times (leaf o) (times D' (leaf (t.right k)))) (times D' (times (leaf o) (leaf (t.right k)))) (omega arith) ∙ z
      ∙ same (times (leaf (u.right k)) (times (leaf (own t k)) (leaf o))) (times (leaf o) (times (leaf (own t k)) (leaf (u.right k)))) (omega arith))

  -- each entry of a row, over the basic one, is the same
  same_at : (k v : ℕ) → k < t.height → v < t.width → u.at k (t.basic k) *ℤ t.at k v ≡ own t k *ℤ u.at k v
  same_at k v l lt =
      ⊎_elim
      (λ (found : (i : ℕ) × (i < t.height) × (t.basic i ≡ v)). subst (λ (x : ℕ). u.at k (t.basic k) *ℤ t.at k x ≡ own t k *ℤ u.at k x) found.2 (at_a_basic found.0 found.1))
      (λ none. same_column v k none lt l)
      (find_row t.height t.basic v)
    where
      at_a_basic : (i : ℕ) → i < t.height → u.at k (t.basic k) *ℤ t.at k (t.basic i) ≡ own t k *ℤ u.at k (t.basic i)
      at_a_basic i h =
          ⊎_elim
          (λ (e : k ≡ i). subst (λ (x : ℕ). u.at k (t.basic k) *ℤ t.at k (t.basic x) ≡ own t k *ℤ u.at k (t.basic x)) e (same (times (leaf (u.at k (t.basic k))) (leaf (own t k))) (times (leaf (own t k)) (leaf (u.at k (t.basic k)))) (omega arith)))
          (λ apart. zero_times (u.at k (t.basic k)) (t.at k (t.basic i)) (solved.clear i k h l apart) ∙ sym (zero_times (own t k) (u.at k (t.basic i)) (clear' t u solved solved' height width basic i k h l apart)))
          (cases_eq k i)

-- ---- lists
in_proportion : (d d' : ℤ) (row row' : List ℤ) → pos 0 <ℤ d → pos 0 <ℤ d' → IsPrimitive row → IsPrimitive row' → length row ≡ length row'
    → ((q : ℕ) → q < length row → d' *ℤ get_or row q (pos 0) ≡ d *ℤ get_or row' q (pos 0)) → row ≡ row'
in_proportion d d' row row' above above' lowest lowest' wide each =
    let scaled : map (λ x. pos (unsigned_abs d') *ℤ x) row ≡ map (λ x. pos (unsigned_abs d) *ℤ x) row' =
    ext_get_or (pos 0) _ _ (length-map row _ ∙ wide ∙ sym (length-map row' _))
    (λ q h. let within : q < length row = omega (arith, h, length-map row (λ x. pos (unsigned_abs d') *ℤ x)) in
    scaled_at (unsigned_abs d') row q ∙ ap (λ (m : ℤ). m *ℤ get_or row q (pos 0)) (sym (positive_is d' above')) ∙ each q within
    ∙ ap (λ (m : ℤ). m *ℤ get_or row' q (pos 0)) (positive_is d above) ∙ sym (scaled_at (unsigned_abs d) row' q)) in
    sym (scaled_primitive (unsigned_abs d') row (omega (arith, ints, above')) lowest) ∙ ap primitive scaled ∙ scaled_primitive (unsigned_abs d) row' (omega (arith, ints, above)) lowest'
  where
    scaled_at : (p : ℕ) (xs : List ℤ) (q : ℕ) → get_or (map (λ x. pos p *ℤ x) xs) q (pos 0) ≡ pos p *ℤ get_or xs q (pos 0)
    scaled_at p xs q = scaled_entry p xs q

-- two reduced, solved forms with the same basic variables, of which the one's solutions are the other's, are the same
pub forms_are_one : (t u : Table) → IsShaped t → IsShaped u → IsReduced t → IsReduced u → u.variables ≡ t.variables → u.basis ≡ t.basis
    → ((y : ℕ → ℤ) (d : ℤ) → Holds (tableau t) y d → Holds (tableau u) y d) → t ≡ u
forms_are_one t u shape shape' reduced reduced' width basis kept =
    make_same t.variables u.variables t.rows u.rows t.basis u.basis (sym width)
    (ext_get_or [] t.rows u.rows (sym height) (λ k l. in_proportion (own (tableau t) k) (entry u k (get_or t.basis k 0)) (row_of t k) (row_of u k)
    (shape.solved.positive k l) (subst (λ (b : List ℕ). pos 0 <ℤ entry u k (get_or b k 0)) basis (shape'.solved.positive k (omega (arith, l, height))))
    (let r = reduced k [] l in r.1) (let r = reduced' k [] (omega (arith, l, height)) in r.1)
    (shape.widths k l ∙ ap (λ (n : ℕ). n + 1) (sym width) ∙ sym (shape'.widths k (omega (arith, l, height))))
    (λ q h. ⊎_elim
    (λ (e : q ≡ t.variables). subst (λ (x : ℕ). entry u k (get_or t.basis k 0) *ℤ entry t k x ≡ own (tableau t) k *ℤ entry u k x) (sym e) (right_at k l))
    (λ apart. same_at (tableau t) (tableau u) shape.solved shape'.solved height width (λ i _. ap (λ (b : List ℕ). get_or b i 0) basis) kept k q l (omega (arith, h, shape.widths k l, apart)))
    (cases_eq q t.variables))))
    (sym basis)
  where
    height : length u.rows ≡ length t.rows
    height = sym shape'.basics ∙ ap length basis ∙ shape.basics

    right_at : (k : ℕ) → k < length t.rows → entry u k (get_or t.basis k 0) *ℤ entry t k t.variables ≡ own (tableau t) k *ℤ entry u k t.variables
    right_at k l =
        subst (λ (n : ℕ). entry u k (get_or t.basis k 0) *ℤ entry t k t.variables ≡ own (tableau t) k *ℤ entry u k n) width
        (same_right (tableau t) (tableau u) shape.solved shape'.solved height width (λ i _. ap (λ (b : List ℕ). get_or b i 0) basis) kept k l)
