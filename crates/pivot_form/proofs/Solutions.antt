-- The solutions of a form that is kept without what says nothing: those of the slots and of the pairs.
use Rattle.std.proofs.Common.{ℕ, ◌≡◌, ◌≢◌, ◌<◌, arith, refl, ap, sym, ◌∙◌, ⊎_elim, subst, inl, length, get_or, Some}
use Rattle.std.specs.Prelude.{ℤ, pos, ◌+ℤ◌, ◌*ℤ◌, ◌-ℤ◌}
use Rattle.std.proofs.lemmas.Int.{ints}
use Rattle.exact_num.proofs.Ring.{leaf, times, minus, same}
use Rattle.row_program.specs.Sums.{sum_from}
use Rattle.row_program.specs.Forms.{tableau, Holds}
use Rattle.pivot_form.specs.declared.places.Pair.{Pair}
use Rattle.pivot_form.specs.declared.places.Place.{Place}
use Rattle.pivot_form.specs.declared.places.Place.TheVariants.{Column, Kept, Paired}
use Rattle.pivot_form.specs.Kept.{Store, IsStore, variables_of, place_of, pair_of, own, kept_right, kept_entry, pair_entry, entry_of, right_of, table_of}
use Rattle.pivot_form.proofs.Sums.{cancel, sum_from-combine, sum_from-same}
use Rattle.pivot_form.proofs.Links.{link_apart}
use Rattle.pivot_form.proofs.Unique.{find_row}
use Rattle.pivot_form.proofs.Whole.{IsMirrorRow, entry_is, height, pair_first, pair_none, pair_second, right_is, row_kind}

-- each equation that is kept holds, and each pair adds up
pub record HoldsKept (s : Store) (y : ℕ → ℤ) (d : ℤ) : Type 0 where
  pub slots : (k : ℕ) → k < length s.rows → sum_from (variables_of s) 0 (λ v. kept_entry s k v *ℤ y v) ≡ kept_right s k *ℤ d
  pub pairs : (v : ℕ) (p : Pair) → v < variables_of s → pair_of s v ≡ Some p → y v +ℤ y p.other ≡ p.sum *ℤ d

-- the equation of a basic variable
abbrev pub HoldsOf : Store → (ℕ → ℤ) → ℤ → ℕ → Type 0
HoldsOf s y d b = sum_from (variables_of s) 0 (λ v. entry_of s b v *ℤ y v) ≡ right_of s b *ℤ d

pub row_holds : (s : Store) (y : ℕ → ℤ) (d : ℤ) (i : ℕ) → i < length s.basis → Holds (tableau (table_of s)) y d → HoldsOf s y d (get_or s.basis i 0)
row_holds s y d i l holds =
    sum_from-same (variables_of s) 0 _ _ (λ v a b. ap (λ (x : ℤ). x *ℤ y v) (sym (entry_is s i v l (omega (arith, b)))))
    ∙ holds i (omega (arith, l, height s))
    ∙ ap (λ (x : ℤ). x *ℤ d) (right_is s i l)

pair_sum : (n a b : ℕ) (y : ℕ → ℤ) → a < n → b < n → b ≢ a → sum_from n 0 (λ v. pair_entry a b v *ℤ y v) ≡ y a +ℤ y b
pair_sum n a b y l m apart =
    link_apart n (pair_entry a b) y a b (λ e. apart (sym e)) l m (λ v h off away. inl (pair_none a b v off away))
    ∙ ap (λ (x : ℤ). x *ℤ y a +ℤ pair_entry a b b *ℤ y b) (pair_first a b a refl (λ e. apart (sym e)))
    ∙ ap (λ (x : ℤ). pos 1 *ℤ y a +ℤ x *ℤ y b) (pair_second a b b apart refl)
    ∙ omega (arith, ints)

mirror_sum : (s : Store) (y : ℕ → ℤ) (b : ℕ) (p : Pair) (k : ℕ) → b < variables_of s → p.other < variables_of s → p.other ≢ b → IsMirrorRow s b p k
    → sum_from (variables_of s) 0 (λ v. entry_of s b v *ℤ y v) ≡ own s k *ℤ (y b +ℤ y p.other) -ℤ sum_from (variables_of s) 0 (λ v. kept_entry s k v *ℤ y v)
mirror_sum s y b p k l m apart row =
    sum_from-same (variables_of s) 0 _ _ (λ v h i. ap (λ (x : ℤ). x *ℤ y v) (row.entries v) ∙ spread (own s k) (pair_entry b p.other v) (kept_entry s k v) (y v))
    ∙ sum_from-combine (variables_of s) 0 (own s k) (pos 1) (λ v. pair_entry b p.other v *ℤ y v) (λ v. kept_entry s k v *ℤ y v)
    ∙ ap (λ (x : ℤ). own s k *ℤ x -ℤ pos 1 *ℤ sum_from (variables_of s) 0 (λ v. kept_entry s k v *ℤ y v)) (pair_sum (variables_of s) b p.other y l m apart)
    ∙ omega (arith, ints)
  where
    spread : (q e f x : ℤ) → (q *ℤ e -ℤ f) *ℤ x ≡ q *ℤ (e *ℤ x) -ℤ pos 1 *ℤ (f *ℤ x)
    spread q e f x = same (times (minus (times (leaf q) (leaf e)) (leaf f)) (leaf x)) (minus (times (leaf q) (times (leaf e) (leaf x))) (times (leaf (pos 1)) (times (leaf f) (leaf x)))) (omega arith)

-- where the form holds, so do the slots and the pairs
slot_holds : (s : Store) (y : ℕ → ℤ) (d : ℤ) → IsStore s → Holds (tableau (table_of s)) y d → (k : ℕ) → k < length s.rows → sum_from (variables_of s) 0 (λ v. kept_entry s k v *ℤ y v) ≡ kept_right s k *ℤ d
slot_holds s y d is holds k l =
    let found = is.all_kept k l in
    let b = get_or s.basis found.0 0 in
    row_kind s b is (is.basics found.0 found.1) (λ j. is.basic_place found.0 j found.1)
    (λ n row. let same : n ≡ k = kept_same n k (sym row.place ∙ found.2) in
    subst (λ (x : ℕ). sum_from (variables_of s) 0 (λ v. kept_entry s x v *ℤ y v) ≡ kept_right s x *ℤ d) same
    (sum_from-same (variables_of s) 0 _ _ (λ v h i. ap (λ (x : ℤ). x *ℤ y v) (sym (row.entries v))) ∙ row_holds s y d found.0 found.1 holds ∙ ap (λ (x : ℤ). x *ℤ d) row.right))
    (λ p j row. absurd (differ (sym row.place ∙ found.2)))
    (λ p n row. absurd (differ (sym row.place ∙ found.2)))
  where
    kept_same : (n m : ℕ) → Kept n ≡ Kept m → n ≡ m
    kept_same n m e = cc

    differ : {m : ℕ} → Paired ≡ Kept m → ⊥
    differ e = cc

paired_holds : (s : Store) (y : ℕ → ℤ) (d : ℤ) → IsStore s → Holds (tableau (table_of s)) y d → (v : ℕ) (p : Pair) → v < variables_of s → pair_of s v ≡ Some p → place_of s v ≡ Paired → y v +ℤ y p.other ≡ p.sum *ℤ d
paired_holds s y d is holds v p l pair place =
    let good = is.pairs v p l pair in
    ⊎_elim
    (λ (found : (i : ℕ) × (i < length s.basis) × (get_or s.basis i 0 ≡ v)). at_row found.0 found.1 found.2)
    (λ none. let column = is.other_place v l none in absurd (differ (sym place ∙ column.1)))
    (find_row (length s.basis) (λ i. get_or s.basis i 0) v)
  where
    differ : {m : ℕ} → Paired ≡ Column m → ⊥
    differ e = cc

    differ' : {m : ℕ} → Paired ≡ Kept m → ⊥
    differ' e = cc

    same_pair : (q : Pair) → pair_of s v ≡ Some q → q ≡ p
    same_pair q e = let f : Some q ≡ Some p = sym e ∙ pair in cc

    at_row : (i : ℕ) → i < length s.basis → get_or s.basis i 0 ≡ v → y v +ℤ y p.other ≡ p.sum *ℤ d
    at_row i h e =
        let good = is.pairs v p l pair in
        let row_is : HoldsOf s y d v = subst (HoldsOf s y d) e (row_holds s y d i h holds) in
        row_kind s v is l (λ j q. differ (sym place ∙ q))
        (λ k row. absurd (differ' (sym place ∙ row.place)))
        (λ q j row. let o : q ≡ p = same_pair q row.pair in
        subst (λ (x : Pair). y v +ℤ y x.other ≡ x.sum *ℤ d) o
        (sym (pair_sum (variables_of s) v q.other y l (subst (λ (x : Pair). x.other < variables_of s) (sym o) good.0) (subst (λ (x : Pair). x.other ≢ v) (sym o) good.1))
        ∙ sum_from-same (variables_of s) 0 _ _ (λ u a b. ap (λ (x : ℤ). x *ℤ y u) (sym (row.entries u))) ∙ row_is ∙ ap (λ (x : ℤ). x *ℤ d) row.right))
        (λ q k row. let o : q ≡ p = same_pair q row.pair in
        subst (λ (x : Pair). y v +ℤ y x.other ≡ x.sum *ℤ d) o
        (let m = subst (λ (x : Pair). x.other < variables_of s) (sym o) good.0 in
        let slot = is.kept q.other k m row.other in
        let sum = mirror_sum s y v q k l m (subst (λ (x : Pair). x.other ≢ v) (sym o) good.1) row in
        let kept = slot_holds s y d is holds k slot in
        let all : own s k *ℤ (y v +ℤ y q.other) -ℤ kept_right s k *ℤ d ≡ (own s k *ℤ q.sum -ℤ kept_right s k) *ℤ d
        = ap (λ (x : ℤ). own s k *ℤ (y v +ℤ y q.other) -ℤ x) (sym kept) ∙ sym sum ∙ row_is ∙ ap (λ (x : ℤ). x *ℤ d) row.right in
        let split : (own s k *ℤ q.sum -ℤ kept_right s k) *ℤ d ≡ own s k *ℤ (q.sum *ℤ d) -ℤ kept_right s k *ℤ d
        = same (times (minus (times (leaf (own s k)) (leaf q.sum)) (leaf (kept_right s k))) (leaf d)) (minus (times (leaf (own s k)) (times (leaf q.sum) (leaf d))) (times (leaf (kept_right s k)) (leaf d))) (omega arith) in
        cancel (own s k) (y v +ℤ y q.other) (q.sum *ℤ d) (is.positive k slot) (omega (arith, ints, all, split))))

pub holds_kept : (s : Store) (y : ℕ → ℤ) (d : ℤ) → IsStore s → Holds (tableau (table_of s)) y d → HoldsKept s y d
holds_kept s y d is holds = record {
  slots = slot_holds s y d is holds;
  pairs = λ v p l pair. by v p l pair (place_of s v) refl;
}
  where
    other : (v : ℕ) (p : Pair) → v < variables_of s → pair_of s v ≡ Some p → place_of s v ≢ Paired → y v +ℤ y p.other ≡ p.sum *ℤ d
    other v p l pair apart =
        let good = is.pairs v p l pair in
        let back = paired_holds s y d is holds p.other (record { other = v; sum = p.sum }) good.0 good.2 (is.one_paired v p l pair apart) in
        omega (arith, ints, back)

    by : (v : ℕ) (p : Pair) → v < variables_of s → pair_of s v ≡ Some p → (q : Place) → place_of s v ≡ q → y v +ℤ y p.other ≡ p.sum *ℤ d
    by v p l pair (Column j) e = other v p l pair (λ f. let g : Column j ≡ Paired = sym e ∙ f in cc)
    by v p l pair (Kept k) e = other v p l pair (λ f. let g : Kept k ≡ Paired = sym e ∙ f in cc)
    by v p l pair Paired e = paired_holds s y d is holds v p l pair e

-- and where the slots and the pairs hold, so does the form
pub kept_holds : (s : Store) (y : ℕ → ℤ) (d : ℤ) → IsStore s → HoldsKept s y d → Holds (tableau (table_of s)) y d
kept_holds s y d is kept i h =
    let l : i < length s.basis = omega (arith, h, height s) in
    sum_from-same (variables_of s) 0 _ _ (λ v a b. ap (λ (x : ℤ). x *ℤ y v) (entry_is s i v l (omega (arith, b))))
    ∙ of_basic (get_or s.basis i 0) (is.basics i l) (λ j. is.basic_place i j l)
    ∙ ap (λ (x : ℤ). x *ℤ d) (sym (right_is s i l))
  where
    of_basic : (b : ℕ) → b < variables_of s → ((j : ℕ) → place_of s b ≢ Column j) → HoldsOf s y d b
    of_basic b l no_column =
        row_kind s b is l no_column
        (λ k row. sum_from-same (variables_of s) 0 _ _ (λ v a c. ap (λ (x : ℤ). x *ℤ y v) (row.entries v)) ∙ kept.slots k (is.kept b k l row.place) ∙ ap (λ (x : ℤ). x *ℤ d) (sym row.right))
        (λ p j row. let good = is.pairs b p l row.pair in
        sum_from-same (variables_of s) 0 _ _ (λ v a c. ap (λ (x : ℤ). x *ℤ y v) (row.entries v)) ∙ pair_sum (variables_of s) b p.other y l good.0 good.1 ∙ kept.pairs b p l row.pair ∙ ap (λ (x : ℤ). x *ℤ d) (sym row.right))
        (λ p k row. let good = is.pairs b p l row.pair in
        mirror_sum s y b p k l good.0 good.1 row
        ∙ ap (λ (x : ℤ). own s k *ℤ x -ℤ sum_from (variables_of s) 0 (λ v. kept_entry s k v *ℤ y v)) (kept.pairs b p l row.pair)
        ∙ ap (λ (x : ℤ). own s k *ℤ (p.sum *ℤ d) -ℤ x) (kept.slots k (is.kept p.other k good.0 row.other))
        ∙ same (minus (times (leaf (own s k)) (times (leaf p.sum) (leaf d))) (times (leaf (kept_right s k)) (leaf d))) (times (minus (times (leaf (own s k)) (leaf p.sum)) (leaf (kept_right s k))) (leaf d)) (omega arith)
        ∙ ap (λ (x : ℤ). x *ℤ d) (sym row.right))
