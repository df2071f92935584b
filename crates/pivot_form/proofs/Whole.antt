-- What a form says that is kept without what says nothing.
use Rattle.std.proofs.Common.{ℕ, zero, suc, ◌≡◌, ◌≢◌, ◌<◌, ◌+◌, arith, refl, ap, sym, ◌∙◌, ⊎_elim, subst, List, [], ◌∷◌, length, get_or, map, Some, Option}
use Rattle.std.specs.Prelude.{ℤ, pos, ◌*ℤ◌, ◌-ℤ◌, ◌<ℤ◌}
use Rattle.std.proofs.lemmas.Int.{ints}
use Rattle.std.proofs.lemmas.Bool.{cases_eq}
use Rattle.std.proofs.lemmas.Bool.Decides.{nat_tests}
use Rattle.std.proofs.lemmas.List.{length-map}
use Rattle.std.proofs.lemmas.List.FromFn.{get_or-map-range_with_len, length-map-range_with_len}
use Rattle.row_program.specs.Forms.{tableau, row_of, entry, right_side, IsSolved}
use Rattle.pivot_form.specs.declared.places.Pair.{Pair}
use Rattle.pivot_form.specs.declared.places.Place.{Place}
use Rattle.pivot_form.specs.declared.places.Place.TheVariants.{Column, Kept, Paired}
use Rattle.pivot_form.specs.Kept.{Store, IsStore, variables_of, place_of, pair_of, own, kept_right, entry_at, kept_entry, pair_entry, entry_beside, entry_paired, entry_by, entry_of, right_beside, right_paired, right_by, right_of, row_entry, whole_row, table_of}

-- ---- rows
pub height : (s : Store) → length (table_of s).rows ≡ length s.basis
height s = length-map s.basis (whole_row s)

pub row_at : (s : Store) (i : ℕ) → i < length s.basis → row_of (table_of s) i ≡ whole_row s (get_or s.basis i 0)
row_at s i l = get_or-map-of (whole_row s) s.basis i l
  where
    get_or-map-of : (f : ℕ → List ℤ) (xs : List ℕ) (i : ℕ) → i < length xs → get_or (map f xs) i [] ≡ f (get_or xs i 0)
    get_or-map-of f [] i l = absurd (omega (arith, l))
    get_or-map-of f (x ∷ xs) zero l = refl
    get_or-map-of f (x ∷ xs) (suc i) l = get_or-map-of f xs i (omega (arith, l))

pub width_at : (s : Store) (b : ℕ) → length (whole_row s b) ≡ variables_of s + 1
width_at s b = length-map-range_with_len (row_entry s b) 0 (variables_of s + 1)

pub cell_at : (s : Store) (b v : ℕ) → v < variables_of s + 1 → get_or (whole_row s b) v (pos 0) ≡ row_entry s b v
cell_at s b v l = get_or-map-range_with_len (row_entry s b) 0 (variables_of s + 1) v v (pos 0) l (omega arith)

pub row_entry_inside : (s : Store) (b v : ℕ) → v < variables_of s → row_entry s b v ≡ entry_of s b v
row_entry_inside s b v l = let apart : v ≢ variables_of s = λ e. omega (arith, l, e) in grind (arith, nat_tests)

pub row_entry_last : (s : Store) (b : ℕ) → row_entry s b (variables_of s) ≡ right_of s b
row_entry_last s b = grind (arith, nat_tests)

pub entry_is : (s : Store) (i v : ℕ) → i < length s.basis → v < variables_of s → entry (table_of s) i v ≡ entry_of s (get_or s.basis i 0) v
entry_is s i v l m = ap (λ (row : List ℤ). get_or row v (pos 0)) (row_at s i l) ∙ cell_at s (get_or s.basis i 0) v (omega (arith, m)) ∙ row_entry_inside s (get_or s.basis i 0) v m

pub right_is : (s : Store) (i : ℕ) → i < length s.basis → right_side (table_of s) i ≡ right_of s (get_or s.basis i 0)
right_is s i l = ap (λ (row : List ℤ). get_or row (variables_of s) (pos 0)) (row_at s i l) ∙ cell_at s (get_or s.basis i 0) (variables_of s) (omega arith) ∙ row_entry_last s (get_or s.basis i 0)

-- ---- entries
pub pair_first : (a b v : ℕ) → v ≡ a → v ≢ b → pair_entry a b v ≡ pos 1
pair_first a b v e apart = grind (arith, ints, nat_tests)

pub pair_second : (a b v : ℕ) → v ≢ a → v ≡ b → pair_entry a b v ≡ pos 1
pair_second a b v apart e = grind (arith, ints, nat_tests)

pub pair_none : (a b v : ℕ) → v ≢ a → v ≢ b → pair_entry a b v ≡ pos 0
pair_none a b v apart off = grind (arith, ints, nat_tests)

entry_same : (s : Store) (k l : ℕ) → l ≡ k → entry_at s k (Kept l) ≡ own s k
entry_same s k l e = grind (arith, nat_tests)

entry_off : (s : Store) (k l : ℕ) → l ≢ k → entry_at s k (Kept l) ≡ pos 0
entry_off s k l apart = grind (arith, nat_tests)

pub kept_own : (s : Store) (k v : ℕ) → place_of s v ≡ Kept k → kept_entry s k v ≡ own s k
kept_own s k v e = ap (entry_at s k) e ∙ entry_same s k k refl

-- the entry of another variable that has no column
pub kept_none : (s : Store) (k v w : ℕ) → IsStore s → v < variables_of s → w < variables_of s → place_of s v ≡ Kept k → w ≢ v → ((j : ℕ) → place_of s w ≢ Column j) → kept_entry s k w ≡ pos 0
kept_none s k v w is l m e apart no_column = by (place_of s w) refl
  where
    by : (p : Place) → place_of s w ≡ p → kept_entry s k w ≡ pos 0
    by (Column j) q = absurd (no_column j q)
    by (Kept n) q =
        ⊎_elim
        (λ (same : n ≡ k). absurd (apart (is.one_kept w v k m l (q ∙ ap Kept same) e)))
        (λ off. ap (entry_at s k) q ∙ entry_off s k n off)
        (cases_eq n k)
    by Paired q = ap (entry_at s k) q

-- ---- the kinds of equations
pub record IsKeptRow (s : Store) (b : ℕ) (k : ℕ) : Type 0 where
  pub place : place_of s b ≡ Kept k
  pub entries : (v : ℕ) → entry_of s b v ≡ kept_entry s k v
  pub right : right_of s b ≡ kept_right s k

pub record IsPairRow (s : Store) (b : ℕ) (p : Pair) (j : ℕ) : Type 0 where
  pub place : place_of s b ≡ Paired
  pub pair : pair_of s b ≡ Some p
  pub other : place_of s p.other ≡ Column j
  pub entries : (v : ℕ) → entry_of s b v ≡ pair_entry b p.other v
  pub right : right_of s b ≡ p.sum

pub record IsMirrorRow (s : Store) (b : ℕ) (p : Pair) (k : ℕ) : Type 0 where
  pub place : place_of s b ≡ Paired
  pub pair : pair_of s b ≡ Some p
  pub other : place_of s p.other ≡ Kept k
  pub entries : (v : ℕ) → entry_of s b v ≡ own s k *ℤ pair_entry b p.other v -ℤ kept_entry s k v
  pub right : right_of s b ≡ own s k *ℤ p.sum -ℤ kept_right s k

-- each basic variable has an equation of one of the three kinds
pub row_kind : {P : Type 0} (s : Store) (b : ℕ) → IsStore s → b < variables_of s → ((j : ℕ) → place_of s b ≢ Column j)
    → ((k : ℕ) → IsKeptRow s b k → P) → ((p : Pair) (j : ℕ) → IsPairRow s b p j → P) → ((p : Pair) (k : ℕ) → IsMirrorRow s b p k → P) → P
row_kind {P} s b is l no_column at_kept at_pair at_mirror = by (place_of s b) refl
  where
    by_other : (p : Pair) → place_of s b ≡ Paired → pair_of s b ≡ Some p → (q : Place) → place_of s p.other ≡ q → q ≢ Paired → P
    by_other p e f (Column j) g apart = at_pair p j (record {
      place = e;
      pair = f;
      other = g;
      entries = λ v. ap (λ (x : Place). entry_by s b x v) e ∙ ap (λ (x : Option Pair). entry_paired s b x v) f ∙ ap (λ (x : Place). entry_beside s b p x v) g;
      right = ap (right_by s b) e ∙ ap (right_paired s) f ∙ ap (right_beside s p) g;
    })
    by_other p e f (Kept k) g apart = at_mirror p k (record {
      place = e;
      pair = f;
      other = g;
      entries = λ v. ap (λ (x : Place). entry_by s b x v) e ∙ ap (λ (x : Option Pair). entry_paired s b x v) f ∙ ap (λ (x : Place). entry_beside s b p x v) g;
      right = ap (right_by s b) e ∙ ap (right_paired s) f ∙ ap (right_beside s p) g;
    })
    by_other p e f Paired g apart = absurd (apart refl)

    by : (p : Place) → place_of s b ≡ p → P
    by (Column j) e = absurd (no_column j e)
    by (Kept k) e = at_kept k (record { place = e; entries = λ v. ap (λ (x : Place). entry_by s b x v) e; right = ap (right_by s b) e })
    by Paired e =
        let found = is.paired b l e in
        by_other found.0 e found.1 (place_of s found.0.other) refl found.2

-- ---- each equation is solved for its basic variable
own_positive : (s : Store) (b : ℕ) → IsStore s → b < variables_of s → ((j : ℕ) → place_of s b ≢ Column j) → pos 0 <ℤ entry_of s b b
own_positive s b is l no_column =
    row_kind s b is l no_column
    (λ k row. subst (λ (x : ℤ). pos 0 <ℤ x) (sym (row.entries b ∙ kept_own s k b row.place)) (is.positive k (is.kept b k l row.place)))
    (λ p j row. let good = is.pairs b p l row.pair in let one = row.entries b ∙ pair_first b p.other b refl (λ e. good.1 (sym e)) in omega (arith, ints, one))
    (λ p k row. let good = is.pairs b p l row.pair in
    let one : pair_entry b p.other b ≡ pos 1 = pair_first b p.other b refl (λ e. good.1 (sym e)) in
    let none : kept_entry s k b ≡ pos 0 = ap (entry_at s k) row.place in
    let all : entry_of s b b ≡ own s k *ℤ pos 1 -ℤ pos 0 = row.entries b ∙ ap (λ (x : ℤ). own s k *ℤ x -ℤ kept_entry s k b) one ∙ ap (λ (x : ℤ). own s k *ℤ pos 1 -ℤ x) none in
    let above = is.positive k (is.kept p.other k good.0 row.other) in
    omega (arith, ints, all, above))

pub other_clear : (s : Store) (b v : ℕ) → IsStore s → b < variables_of s → v < variables_of s → v ≢ b → ((j : ℕ) → place_of s b ≢ Column j) → ((j : ℕ) → place_of s v ≢ Column j) → entry_of s b v ≡ pos 0
other_clear s b v is l m apart no_column away =
    row_kind s b is l no_column
    (λ k row. row.entries v ∙ kept_none s k b v is l m row.place apart away)
    (λ p j row. row.entries v ∙ pair_none b p.other v apart (λ e. away j (ap (place_of s) e ∙ row.other)))
    (λ p k row. let good = is.pairs b p l row.pair in
    ⊎_elim
    (λ (e : v ≡ p.other).
    let one : pair_entry b p.other v ≡ pos 1 = pair_second b p.other v apart e in
    let mine : kept_entry s k v ≡ own s k = kept_own s k v (ap (place_of s) e ∙ row.other) in
    let all : entry_of s b v ≡ own s k *ℤ pos 1 -ℤ own s k = row.entries v ∙ ap (λ (x : ℤ). own s k *ℤ x -ℤ kept_entry s k v) one ∙ ap (λ (x : ℤ). own s k *ℤ pos 1 -ℤ x) mine in
    omega (arith, ints, all))
    (λ off.
    let none : pair_entry b p.other v ≡ pos 0 = pair_none b p.other v apart off in
    let mine : kept_entry s k v ≡ pos 0 = kept_none s k p.other v is good.0 m row.other off away in
    let all : entry_of s b v ≡ own s k *ℤ pos 0 -ℤ pos 0 = row.entries v ∙ ap (λ (x : ℤ). own s k *ℤ x -ℤ kept_entry s k v) none ∙ ap (λ (x : ℤ). own s k *ℤ pos 0 -ℤ x) mine in
    omega (arith, ints, all))
    (cases_eq v p.other))

pub store_solved : (s : Store) → IsStore s → IsSolved (tableau (table_of s))
store_solved s is = record {
  within = λ i h. is.basics i (low i h);
  positive = λ i h. subst (λ (x : ℤ). pos 0 <ℤ x) (sym (entry_is s i (get_or s.basis i 0) (low i h) (is.basics i (low i h)))) (own_positive s (get_or s.basis i 0) is (is.basics i (low i h)) (λ j. is.basic_place i j (low i h)));
  clear = λ i k h l apart. entry_is s k (get_or s.basis i 0) (low k l) (is.basics i (low i h))
      ∙ other_clear s (get_or s.basis k 0) (get_or s.basis i 0) is (is.basics k (low k l)) (is.basics i (low i h)) (is.one_basic i k (low i h) (low k l) (λ e. apart (sym e)))
      (λ j. is.basic_place k j (low k l)) (λ j. is.basic_place i j (low i h));
}
  where
    low : (i : ℕ) → i < length (table_of s).rows → i < length s.basis
    low i h = omega (arith, h, height s)
