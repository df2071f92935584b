-- What is kept by slots, as code reads it.
use Rattle.std.proofs.Common.{ℕ, ◌≡◌, ◌≢◌, ◌<◌, ◌+◌, ◌⊎◌, ⊎_elim, arith, List, [], length, get_or, ap, sym, ◌∙◌, Some, subst}
use Rattle.std.specs.Prelude.{ℤ, pos, ◌*ℤ◌, ◌-ℤ◌, unsigned_abs, Vec}
use Rattle.std.specs.Int.RustNames.{FitsSigned}
use mir.Syntax.{w64, w128}
use mir.Val.{to_z, of_z}
use Rattle.std.proofs.lemmas.Int.{ints, to_z-of_z, fits_signed_from_abs}
use Rattle.std.proofs.lemmas.List.{get_or_default}
use Rattle.std.proofs.lemmas.Bool.{cases_eq, cases_lt}
use Rattle.exact_num.specs.declared.limits.TheConstants.{WIDE}
use Rattle.pivot_form.specs.declared.places.Pair.{Pair}
use Rattle.pivot_form.specs.declared.places.Place.{Place}
use Rattle.pivot_form.specs.declared.places.Place.TheVariants.{Column, Kept, Paired}
use Rattle.pivot_form.specs.Invariant.{IsEquation, row_lists}
use Rattle.pivot_form.specs.Kept.{Store, cell, entry_at, entry_by, own, kept_right, kept_entry, entry_of, pair_entry, pair_of, place_of, right_by, right_of, short_row, variables_of, whole_row}
use Rattle.pivot_form.specs.Shorts.{IsBasic, IsShort}
use Rattle.pivot_form.proofs.Equations.{length-row_lists, row_lists-get}
use Rattle.pivot_form.proofs.Unique.{find_row}
use Rattle.pivot_form.proofs.Whole.{IsMirrorRow, IsPairRow, cell_at, height, kept_own, pair_first, pair_none, pair_second, row_at, row_entry_inside, row_entry_last, row_kind}

pub column_inside : (s : Store) (v j : ℕ) → IsShort s → v < variables_of s → place_of s v ≡ Column j → j < s.width + 2
column_inside s v j is l e = omega (arith, is.store.columns v j l e)

-- a row's vector is as long as a row
pub vector_inside : {A : Type 0} (s : Store) (rows : List (Vec ℤ A)) (k : ℕ) (v : Vec ℤ A) → IsShort s → s.rows ≡ row_lists rows → k < length rows → v ≡ get_or rows k v → v.len ≡ s.width + 2
vector_inside s rows k v is same l e =
    let there : short_row s k ≡ v.items = ap (λ (xs : List (List ℤ)). get_or xs k []) same ∙ row_lists-get rows k v l ∙ sym (ap (λ (w : Vec ℤ _). w.items) e) in
    let within : k < length s.rows = omega (arith, l, length-row_lists rows, ap length same) in
    v.ok.0 ∙ sym (ap length there) ∙ is.store.widths k within

-- what is read of a row's vector is what the slot keeps
pub cell_read : {A : Type 0} (s : Store) (rows : List (Vec ℤ A)) (k j : ℕ) (v : Vec ℤ A) (x : ℤ) → IsShort s → s.rows ≡ row_lists rows → k < length rows → v ≡ get_or rows k v → j < s.width + 2 → x ≡ get_or v.items j x → x ≡ cell s k j
cell_read s rows k j v x is same l e inside read =
    let there : short_row s k ≡ v.items = ap (λ (xs : List (List ℤ)). get_or xs k []) same ∙ row_lists-get rows k v l ∙ sym (ap (λ (w : Vec ℤ _). w.items) e) in
    let wide : length v.items ≡ s.width + 2 = sym v.ok.0 ∙ vector_inside s rows k v is same l e in
    read ∙ get_or_default v.items j x (pos 0) (omega (arith, inside, wide)) ∙ sym (ap (λ (row : List ℤ). get_or row j (pos 0)) there)

-- ---- small numbers
-- a small number is what 64 bits keep of it
pub kept_bits : (x : ℤ) → unsigned_abs x < WIDE → to_z w64 (of_z w64 x) ≡ x
kept_bits x small = to_z-of_z w64 x (fits_signed_from_abs w64 x small)

pub small_bits : (x : ℤ) → unsigned_abs x < WIDE → unsigned_abs (to_z w64 (of_z w64 x)) < WIDE
small_bits x small = subst (λ (y : ℤ). unsigned_abs y < WIDE) (sym (kept_bits x small)) small

wide_bits : (x : ℤ) → unsigned_abs x < WIDE → to_z w128 (of_z w128 x) ≡ x
wide_bits x small = to_z-of_z w128 x (fits_signed_from_abs w128 x (omega (arith, small)))

pub cast_fits : (x : ℤ) → unsigned_abs x < WIDE → FitsSigned w64 (to_z w128 (of_z w128 x))
cast_fits x small = subst (FitsSigned w64) (sym (wide_bits x small)) (fits_signed_from_abs w64 x small)

pub cast_bits : (x : ℤ) → unsigned_abs x < WIDE → to_z w64 (of_z w64 (to_z w128 (of_z w128 x))) ≡ x
cast_bits x small = ap (λ (y : ℤ). to_z w64 (of_z w64 y)) (wide_bits x small) ∙ kept_bits x small

-- an equation's entries are small, with no common divisor
pub equation : (s : Store) (b : ℕ) → IsShort s → IsBasic s b → IsEquation (variables_of s) (whole_row s b)
equation s b is basic =
    ⊎_elim
    (λ (found : (i : ℕ) × (i < length s.basis) × (get_or s.basis i 0 ≡ b)).
    subst (IsEquation (variables_of s)) (row_at s found.0 found.1 ∙ ap (whole_row s) found.2) (is.form.equations found.0 [] (omega (arith, found.1, height s))))
    (λ none. let c = is.store.other_place b basic.within none in absurd (basic.no_column c.0 c.1))
    (find_row (length s.basis) (λ i. get_or s.basis i 0) b)

pub entry_small : (s : Store) (b v : ℕ) → IsShort s → IsBasic s b → v < variables_of s → unsigned_abs (entry_of s b v) < WIDE
entry_small s b v is basic l =
    let e = equation s b is basic in
    subst (λ (x : ℤ). unsigned_abs x < WIDE) (cell_at s b v (omega (arith, l)) ∙ row_entry_inside s b v l) (e.small v (pos 0) (omega (arith, l, e.width)))

pub right_small : (s : Store) (b : ℕ) → IsShort s → IsBasic s b → unsigned_abs (right_of s b) < WIDE
right_small s b is basic =
    let e = equation s b is basic in
    subst (λ (x : ℤ). unsigned_abs x < WIDE) (cell_at s b (variables_of s) (omega arith) ∙ row_entry_last s b) (e.small (variables_of s) (pos 0) (omega (arith, e.width)))

pub sum_small : (s : Store) (v : ℕ) (p : Pair) → IsShort s → v < variables_of s → pair_of s v ≡ Some p → unsigned_abs p.sum < WIDE
sum_small s v p is l e = omega (arith, is.sums v p l e)

-- and so is what the slots keep
pub cell_small : (s : Store) (k j : ℕ) → IsShort s → k < length s.rows → j < s.width + 2 → unsigned_abs (cell s k j) < WIDE
cell_small s k j is l h =
    let found = is.store.all_kept k l in
    let b = get_or s.basis found.0 0 in
    let basic : IsBasic s b = record { within = is.store.basics found.0 found.1; no_column = λ i. is.store.basic_place found.0 i found.1 } in
    let as_kept : (v : ℕ) → entry_of s b v ≡ kept_entry s k v = λ v. ap (λ (x : Place). entry_by s b x v) found.2 in
    ⊎_elim
    (λ (inside : j < s.width). let c = is.store.all_columns j inside in
    subst (λ (x : ℤ). unsigned_abs x < WIDE) (as_kept c.0 ∙ ap (entry_at s k) c.2) (entry_small s b c.0 is basic c.1))
    (λ past. ⊎_elim
    (λ (e : j ≡ s.width). subst (λ (x : ℤ). unsigned_abs x < WIDE) (as_kept b ∙ kept_own s k b found.2 ∙ ap (cell s k) (sym e)) (entry_small s b b is basic basic.within))
    (λ off. let e : s.width + 1 ≡ j = omega (arith, h, past, off) in
    subst (λ (x : ℤ). unsigned_abs x < WIDE) (ap (right_by s b) found.2 ∙ ap (cell s k) e) (right_small s b is basic))
    (cases_eq j s.width))
    (cases_lt j s.width)

-- ---- the equation of a pair, and of a mirror
module _ (s : Store) (b : ℕ) (p : Pair) (is : IsShort s) (basic : IsBasic s b) (paired : place_of s b ≡ Paired) (pair : pair_of s b ≡ Some p) where
  good : (p.other < variables_of s) × (p.other ≢ b) × (pair_of s p.other ≡ Some (record { other = b; sum = p.sum }))
  good = is.store.pairs b p basic.within pair

  pub other_within : p.other < variables_of s
  other_within = good.0

  pub other_apart : p.other ≢ b
  other_apart = good.1

  pub slot_within : (k : ℕ) → place_of s p.other ≡ Kept k → k < length s.rows
  slot_within k e = is.store.kept p.other k good.0 e

  as_pair : (j : ℕ) → place_of s p.other ≡ Column j → IsPairRow s b p j
  as_pair j e = row_kind s b is.store basic.within basic.no_column
      (λ k row. absurd (kept_paired k (sym row.place ∙ paired)))
      (λ q i row. let same_pair : q ≡ p = let f : Some q ≡ Some p = sym row.pair ∙ pair in cc in
      let same_column : i ≡ j = let f : Column i ≡ Column j = sym row.other ∙ ap (λ (x : Pair). place_of s x.other) same_pair ∙ e in cc in
      subst (λ (x : Pair). IsPairRow s b x j) same_pair (subst (λ (x : ℕ). IsPairRow s b q x) same_column row))
      (λ q k row. let same_pair : q ≡ p = let f : Some q ≡ Some p = sym row.pair ∙ pair in cc in
      absurd (kept_column k j (sym row.other ∙ ap (λ (x : Pair). place_of s x.other) same_pair ∙ e)))
    where
      kept_paired : (k : ℕ) → Kept k ≡ Paired → ⊥
      kept_paired k f = cc

      kept_column : (k j : ℕ) → Kept k ≡ Column j → ⊥
      kept_column k j f = cc

  as_mirror : (k : ℕ) → place_of s p.other ≡ Kept k → IsMirrorRow s b p k
  as_mirror k e = row_kind s b is.store basic.within basic.no_column
      (λ l row. absurd (kept_paired l (sym row.place ∙ paired)))
      (λ q i row. let same_pair : q ≡ p = let f : Some q ≡ Some p = sym row.pair ∙ pair in cc in
      absurd (column_kept i k (sym row.other ∙ ap (λ (x : Pair). place_of s x.other) same_pair ∙ e)))
      (λ q l row. let same_pair : q ≡ p = let f : Some q ≡ Some p = sym row.pair ∙ pair in cc in
      let same_slot : l ≡ k = let f : Kept l ≡ Kept k = sym row.other ∙ ap (λ (x : Pair). place_of s x.other) same_pair ∙ e in cc in
      subst (λ (x : Pair). IsMirrorRow s b x k) same_pair (subst (λ (x : ℕ). IsMirrorRow s b q x) same_slot row))
    where
      kept_paired : (l : ℕ) → Kept l ≡ Paired → ⊥
      kept_paired l f = cc

      column_kept : (i k : ℕ) → Column i ≡ Kept k → ⊥
      column_kept i k f = cc

  pub pair_at : (j v : ℕ) → place_of s p.other ≡ Column j → entry_of s b v ≡ pair_entry b p.other v
  pair_at j v e = let row = as_pair j e in row.entries v

  pub pair_right : (j : ℕ) → place_of s p.other ≡ Column j → right_of s b ≡ p.sum
  pair_right j e = let row = as_pair j e in row.right

  mirror_at : (k v : ℕ) → place_of s p.other ≡ Kept k → entry_of s b v ≡ own s k *ℤ pair_entry b p.other v -ℤ kept_entry s k v
  mirror_at k v e = let row = as_mirror k e in row.entries v

  pub mirror_right : (k : ℕ) → place_of s p.other ≡ Kept k → right_of s b ≡ own s k *ℤ p.sum -ℤ kept_right s k
  mirror_right k e = let row = as_mirror k e in row.right

  -- at the two of the pair and elsewhere
  pub mirror_here : (k v : ℕ) → place_of s p.other ≡ Kept k → (v ≡ b) ⊎ (v ≡ p.other) → entry_of s b v ≡ own s k -ℤ kept_entry s k v
  mirror_here k v e where_ =
      let one : pair_entry b p.other v ≡ pos 1 = ⊎_elim
      (λ (f : v ≡ b). pair_first b p.other v f (λ g. good.1 (sym g ∙ f)))
      (λ (f : v ≡ p.other). pair_second b p.other v (λ g. good.1 (sym f ∙ g)) f)
      where_ in
      mirror_at k v e ∙ ap (λ (x : ℤ). own s k *ℤ x -ℤ kept_entry s k v) one ∙ omega (arith, ints)

  pub mirror_off : (k v : ℕ) → place_of s p.other ≡ Kept k → v ≢ b → v ≢ p.other → entry_of s b v ≡ pos 0 -ℤ kept_entry s k v
  mirror_off k v e off away = mirror_at k v e ∙ ap (λ (x : ℤ). own s k *ℤ x -ℤ kept_entry s k v) (pair_none b p.other v off away) ∙ omega (arith, ints)

  -- the right side as code computes it
  pub crossed_right : (k : ℕ) (a r x : ℤ) → place_of s p.other ≡ Kept k → a ≡ own s k → r ≡ kept_right s k → unsigned_abs a < WIDE → unsigned_abs r < WIDE
      → x ≡ to_z w64 (of_z w64 a) *ℤ to_z w64 (of_z w64 p.sum) -ℤ to_z w64 (of_z w64 r) *ℤ pos 1 → x ≡ right_of s b
  crossed_right k a r x e own_is right_is small_a small_r value =
      value
      ∙ ap (λ (z : ℤ). z *ℤ to_z w64 (of_z w64 p.sum) -ℤ to_z w64 (of_z w64 r) *ℤ pos 1) (kept_bits a small_a ∙ own_is)
      ∙ ap (λ (z : ℤ). own s k *ℤ z -ℤ to_z w64 (of_z w64 r) *ℤ pos 1) (kept_bits p.sum (sum_small s b p is basic.within pair))
      ∙ ap (λ (z : ℤ). own s k *ℤ p.sum -ℤ z *ℤ pos 1) (kept_bits r small_r ∙ right_is)
      ∙ omega (arith, ints)
      ∙ sym (mirror_right k e)
