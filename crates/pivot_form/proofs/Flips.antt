-- A slot that keeps the equation of one of two basic variables of a pair may keep that of the other.
use Rattle.std.proofs.Common.{ℕ, ◌≡◌, ◌≢◌, ◌<◌, ◌+◌, arith, refl, ap, sym, ◌∙◌, ◌⊎◌, ⊎_elim, subst, inl, inr, List, [], length, get_or, set, map, Some, Option}
use Rattle.std.specs.Prelude.{ℤ, pos, ◌*ℤ◌, ◌-ℤ◌, ◌<ℤ◌, ◌==◌, if◌then◌else◌, unsigned_abs}
use lib.IntN.{neg_ℤ}
use Rattle.std.specs.List.{All}
use Prim.Native.Nat.{◌∣◌}
use Rattle.std.proofs.lemmas.Int.{ints}
use Rattle.std.proofs.lemmas.Bool.{cases_eq}
use Rattle.std.proofs.lemmas.List.{get_or-set_other, get_or-set_same, length-set, length-map}
use Rattle.std.proofs.lemmas.List.{get_or-map}
use Rattle.exact_num.specs.Divisors.{IsPrimitive}
use Rattle.row_program.specs.Sums.{sum_from}
use Rattle.row_program.specs.Forms.{tableau, Holds}
use Rattle.pivot_form.specs.declared.places.Pair.{Pair}
use Rattle.pivot_form.specs.declared.places.Place.{Place}
use Rattle.pivot_form.specs.declared.places.Place.TheVariants.{Column, Kept, Paired}
use Rattle.pivot_form.specs.Kept.{Store, IsStore, variables_of, place_of, pair_of, cell, own, kept_right, short_row, entry_at, entry_beside, entry_by, entry_paired, kept_entry, pair_entry, entry_of, right_beside, right_by, right_of, right_paired, table_of, mirrored, flipped}
use Rattle.pivot_form.specs.Shorts.{IsBasic}
use Rattle.pivot_form.proofs.Sums.{sum_from-same}
use Rattle.pivot_form.proofs.Unique.{find_row, forms_are_one}
use Rattle.pivot_form.proofs.Whole.{IsMirrorRow, kept_own, pair_first, pair_none, pair_second}
use Rattle.pivot_form.proofs.Solutions.{HoldsOf, holds_kept, kept_holds, row_holds}
use Rattle.pivot_form.proofs.Lowest.{all_cells_one, rest_divides, store_reduced, store_shaped}
use Rattle.pivot_form.proofs.Exchange.{not_kept}

-- ---- the mirrored row
module _ (w : ℕ) (sum : ℤ) (row : List ℤ) (long : length row ≡ w + 2) where
  mirrored_width : length (mirrored w sum row) ≡ w + 2
  mirrored_width = length-set _ (w + 1) _ ∙ length-set (map neg_ℤ row) w _ ∙ length-map row neg_ℤ ∙ long

  mirrored_own : get_or (mirrored w sum row) w (pos 0) ≡ get_or row w (pos 0)
  mirrored_own = get_or-set_other _ (w + 1) w _ (pos 0) (λ e. omega (arith, e)) ∙ get_or-set_same (map neg_ℤ row) w _ (pos 0) (omega (arith, long, length-map row neg_ℤ))

  mirrored_right : get_or (mirrored w sum row) (w + 1) (pos 0) ≡ get_or row w (pos 0) *ℤ sum -ℤ get_or row (w + 1) (pos 0)
  mirrored_right = get_or-set_same (set (map neg_ℤ row) w (get_or row w (pos 0))) (w + 1) _ (pos 0) (omega (arith, long, length-map row neg_ℤ, length-set (map neg_ℤ row) w (get_or row w (pos 0))))

  mirrored_column : (i : ℕ) → i < w → get_or (mirrored w sum row) i (pos 0) ≡ neg_ℤ (get_or row i (pos 0))
  mirrored_column i l =
      get_or-set_other _ (w + 1) i _ (pos 0) (λ e. omega (arith, e, l))
      ∙ get_or-set_other (map neg_ℤ row) w i _ (pos 0) (λ e. omega (arith, e, l))
      ∙ get_or-map neg_ℤ row i (pos 0) (pos 0) (omega (arith, l, long))

column_paired : (j : ℕ) → Column j ≡ Paired → ⊥
column_paired j e = cc

column_kept : (j k : ℕ) → Column j ≡ Kept k → ⊥
column_kept j k e = cc

kept_paired : (k : ℕ) → Kept k ≡ Paired → ⊥
kept_paired k e = cc

kept_same : (k l : ℕ) → Kept k ≡ Kept l → k ≡ l
kept_same k l e = cc

neg_size : (x y : ℤ) → x ≡ neg_ℤ y → unsigned_abs x ≡ unsigned_abs y
neg_size x y e = omega (arith, ints, e)

-- b is paired, and its pair's other variable is kept in the slot k
module _ (s : Store) (b : ℕ) (p : Pair) (k : ℕ) (is : IsStore s) (within : b < variables_of s) (paired : place_of s b ≡ Paired) (pair : pair_of s b ≡ Some p) (other : place_of s p.other ≡ Kept k) where
  good : (p.other < variables_of s) × (p.other ≢ b) × (pair_of s p.other ≡ Some (record { other = b; sum = p.sum }))
  good = is.pairs b p within pair

  slot : k < length s.rows
  slot = is.kept p.other k good.0 other

  pub variables : variables_of (flipped s b p k) ≡ variables_of s
  variables = length-set (set s.places b (Kept k)) p.other Paired ∙ length-set s.places b (Kept k)

  rows : length (flipped s b p k).rows ≡ length s.rows
  rows = length-set s.rows k (mirrored s.width p.sum (short_row s k))

  pub at_basic : place_of (flipped s b p k) b ≡ Kept k
  at_basic = get_or-set_other (set s.places b (Kept k)) p.other b Paired Paired (λ e. good.1 (sym e)) ∙ get_or-set_same s.places b (Kept k) Paired within

  at_other : place_of (flipped s b p k) p.other ≡ Paired
  at_other = get_or-set_same (set s.places b (Kept k)) p.other Paired Paired (omega (arith, good.0, length-set s.places b (Kept k)))

  elsewhere : (v : ℕ) → v ≢ b → v ≢ p.other → place_of (flipped s b p k) v ≡ place_of s v
  elsewhere v off away = get_or-set_other (set s.places b (Kept k)) p.other v Paired Paired away ∙ get_or-set_other s.places b v (Kept k) Paired off

  row_here : short_row (flipped s b p k) k ≡ mirrored s.width p.sum (short_row s k)
  row_here = get_or-set_same s.rows k _ [] slot

  row_off : (l : ℕ) → l ≢ k → short_row (flipped s b p k) l ≡ short_row s l
  row_off l off = get_or-set_other s.rows k l _ [] off

  long : length (short_row s k) ≡ s.width + 2
  long = is.widths k slot

  -- a variable with a column is neither
  column_apart : (v j : ℕ) → place_of s v ≡ Column j → (v ≢ b) × (v ≢ p.other)
  column_apart v j e = (λ f. column_paired j (sym e ∙ ap (place_of s) f ∙ paired), λ f. column_kept j k (sym e ∙ ap (place_of s) f ∙ other))

  column_before : (v j : ℕ) → place_of (flipped s b p k) v ≡ Column j → place_of s v ≡ Column j
  column_before v j e =
      ⊎_elim
      (λ (f : v ≡ b). absurd (column_kept j k (sym e ∙ ap (place_of (flipped s b p k)) f ∙ at_basic)))
      (λ off. ⊎_elim
      (λ (f : v ≡ p.other). absurd (column_paired j (sym e ∙ ap (place_of (flipped s b p k)) f ∙ at_other)))
      (λ away. sym (elsewhere v off away) ∙ e)
      (cases_eq v p.other))
      (cases_eq v b)

  column_after : (v j : ℕ) → place_of s v ≡ Column j → place_of (flipped s b p k) v ≡ Column j
  column_after v j e = let apart = column_apart v j e in elsewhere v apart.0 apart.1 ∙ e

  -- who is kept now
  kept_before : (v l : ℕ) → v < variables_of s → place_of (flipped s b p k) v ≡ Kept l → ((v ≡ b) × (l ≡ k)) ⊎ ((v ≢ b) × (v ≢ p.other) × (place_of s v ≡ Kept l))
  kept_before v l h e =
      ⊎_elim
      (λ (f : v ≡ b). inl (f, kept_same l k (sym e ∙ ap (place_of (flipped s b p k)) f ∙ at_basic)))
      (λ off. ⊎_elim
      (λ (f : v ≡ p.other). absurd (kept_paired l (sym e ∙ ap (place_of (flipped s b p k)) f ∙ at_other)))
      (λ away. inr (off, away, sym (elsewhere v off away) ∙ e))
      (cases_eq v p.other))
      (cases_eq v b)

  not_slot : (v l : ℕ) → v < variables_of s → v ≢ p.other → place_of s v ≡ Kept l → l ≢ k
  not_slot v l h away e f = away (is.one_kept v p.other k h good.0 (e ∙ ap Kept f) other)

  one : (v u l : ℕ) → v < variables_of s → u < variables_of s → place_of (flipped s b p k) v ≡ Kept l → place_of (flipped s b p k) u ≡ Kept l → v ≡ u
  one v u l h i e f =
      ⊎_elim
      (λ (mine : (v ≡ b) × (l ≡ k)). ⊎_elim
      (λ (yours : (u ≡ b) × (l ≡ k)). mine.0 ∙ sym yours.0)
      (λ (theirs : (u ≢ b) × (u ≢ p.other) × (place_of s u ≡ Kept l)). absurd (not_slot u l i theirs.1 theirs.2 mine.1))
      (kept_before u l i f))
      (λ (mine : (v ≢ b) × (v ≢ p.other) × (place_of s v ≡ Kept l)). ⊎_elim
      (λ (yours : (u ≡ b) × (l ≡ k)). absurd (not_slot v l h mine.1 mine.2 yours.1))
      (λ (theirs : (u ≢ b) × (u ≢ p.other) × (place_of s u ≡ Kept l)). is.one_kept v u l h i mine.2 theirs.2)
      (kept_before u l i f))
      (kept_before v l h e)

  paired_before : (v : ℕ) → place_of (flipped s b p k) v ≡ Paired → v ≢ p.other → place_of s v ≡ Paired
  paired_before v e away =
      ⊎_elim
      (λ (f : v ≡ b). ap (place_of s) f ∙ paired)
      (λ off. sym (elsewhere v off away) ∙ e)
      (cases_eq v b)

  basic_unpaired : place_of (flipped s b p k) b ≢ Paired
  basic_unpaired e = kept_paired k (sym at_basic ∙ e)

  -- the other one of a pair
  other_unpaired : (v : ℕ) (q : Pair) → v < variables_of s → pair_of s v ≡ Some q → place_of s v ≡ Paired → v ≢ b → place_of s q.other ≢ Paired → place_of (flipped s b p k) q.other ≢ Paired
  other_unpaired v q h e f off apart z =
      ⊎_elim
      (λ (g : q.other ≡ p.other).
      let theirs = is.pairs v q h e in
      let same : Some (record { other = v; sum = q.sum }) ≡ Some (record { other = b; sum = p.sum }) = sym theirs.2 ∙ ap (pair_of s) g ∙ good.2 in
      let whole : record { other = v; sum = q.sum } ≡ record { other = b; sum = p.sum } = cc in
      off (ap (λ (x : Pair). x.other) whole))
      (λ away. apart (paired_before q.other z away))
      (cases_eq q.other p.other)

  divides : (d i : ℕ) → i < s.width + 2 → All (λ x. d ∣ unsigned_abs x) (mirrored s.width p.sum (short_row s k)) → d ∣ unsigned_abs (get_or (mirrored s.width p.sum (short_row s k)) i (pos 0))
  divides d i h all = all i (pos 0) (omega (arith, h, mirrored_width s.width p.sum (short_row s k) long))

  lowest : IsPrimitive (mirrored s.width p.sum (short_row s k))
  lowest d all =
      let mine : d ∣ unsigned_abs (own s k) = subst (λ (x : ℤ). d ∣ unsigned_abs x) (mirrored_own s.width p.sum (short_row s k) long) (divides d s.width (omega arith) all) in
      all_cells_one s d k is slot
      (λ j h. subst (λ (n : ℕ). d ∣ n) (neg_size _ (cell s k j) (mirrored_column s.width p.sum (short_row s k) long j h)) (divides d j (omega (arith, h)) all))
      mine
      (rest_divides d (own s k) p.sum (kept_right s k) (subst (λ (x : ℤ). d ∣ unsigned_abs x) (mirrored_right s.width p.sum (short_row s k) long) (divides d (s.width + 1) (omega arith) all)) mine)

  pub flipped_store : IsStore (flipped s b p k)
  flipped_store = record {
    all_pairs = is.all_pairs ∙ sym variables;
    widths = λ l h. ⊎_elim
        (λ (e : l ≡ k). ap (λ (x : ℕ). length (short_row (flipped s b p k) x)) e ∙ ap length row_here ∙ mirrored_width s.width p.sum (short_row s k) long)
        (λ off. ap length (row_off l off) ∙ is.widths l (omega (arith, h, rows)))
        (cases_eq l k);
    basics = λ i l. omega (arith, is.basics i l, variables);
    one_basic = is.one_basic;
    basic_place = λ i j l e. is.basic_place i j l (column_before (get_or s.basis i 0) j e);
    other_place = λ v l none. let found = is.other_place v (omega (arith, l, variables)) none in (found.0, column_after v found.0 found.1);
    columns = λ v j l e. is.columns v j (omega (arith, l, variables)) (column_before v j e);
    one_column = λ v u j l m e f. is.one_column v u j (omega (arith, l, variables)) (omega (arith, m, variables)) (column_before v j e) (column_before u j f);
    all_columns = λ j l. let found = is.all_columns j l in (found.0, omega (arith, found.1, variables), column_after found.0 j found.2);
    kept = λ v l h e. ⊎_elim
        (λ (mine : (v ≡ b) × (l ≡ k)). omega (arith, mine.1, slot, rows))
        (λ (theirs : (v ≢ b) × (v ≢ p.other) × (place_of s v ≡ Kept l)). omega (arith, rows, is.kept v l (omega (arith, h, variables)) theirs.2))
        (kept_before v l (omega (arith, h, variables)) e);
    one_kept = λ v u l h i e f. one v u l (omega (arith, h, variables)) (omega (arith, i, variables)) e f;
    all_kept = λ l h. ⊎_elim
        (λ (e : l ≡ k). ⊎_elim
        (λ (found : (i : ℕ) × (i < length s.basis) × (get_or s.basis i 0 ≡ b)). (found.0, found.1, ap (place_of (flipped s b p k)) found.2 ∙ at_basic ∙ ap Kept (sym e)))
        (λ none. let column = is.other_place b within none in absurd (column_paired column.0 (sym column.1 ∙ paired)))
        (find_row (length s.basis) (λ i. get_or s.basis i 0) b))
        (λ off. let found = is.all_kept l (omega (arith, h, rows)) in (
          found.0,
          found.1,
          elsewhere (get_or s.basis found.0 0)
              (λ f. kept_paired l (sym found.2 ∙ ap (place_of s) f ∙ paired))
              (λ f. off (kept_same l k (sym found.2 ∙ ap (place_of s) f ∙ other))) ∙ found.2,
        ))
        (cases_eq l k);
    pairs = λ v q h e. let theirs = is.pairs v q (omega (arith, h, variables)) e in (omega (arith, theirs.0, variables), theirs.1, theirs.2);
    paired = λ v h e. ⊎_elim
        (λ (f : v ≡ p.other). (record { other = b; sum = p.sum }, ap (pair_of s) f ∙ good.2, basic_unpaired))
        (λ away. ⊎_elim
        (λ (f : v ≡ b). absurd (basic_unpaired (ap (place_of (flipped s b p k)) (sym f) ∙ e)))
        (λ off. let found = is.paired v (omega (arith, h, variables)) (paired_before v e away) in
        (found.0, found.1, other_unpaired v found.0 (omega (arith, h, variables)) found.1 (paired_before v e away) off found.2))
        (cases_eq v b))
        (cases_eq v p.other);
    one_paired = λ v q h e apart. ⊎_elim
        (λ (f : v ≡ b). let same : Some q ≡ Some p = sym e ∙ ap (pair_of s) f ∙ pair in let whole : q ≡ p = cc in ap (λ (x : Pair). place_of (flipped s b p k) x.other) whole ∙ at_other)
        (λ off. ⊎_elim
        (λ (f : v ≡ p.other). absurd (apart (ap (place_of (flipped s b p k)) f ∙ at_other)))
        (λ away.
        let before : place_of s q.other ≡ Paired = is.one_paired v q (omega (arith, h, variables)) e (λ z. apart (elsewhere v off away ∙ z)) in
        elsewhere q.other
        (λ f. let theirs = is.pairs v q (omega (arith, h, variables)) e in
        let same : Some (record { other = v; sum = q.sum }) ≡ Some p = sym theirs.2 ∙ ap (pair_of s) f ∙ pair in
        let whole : record { other = v; sum = q.sum } ≡ p = cc in away (ap (λ (x : Pair). x.other) whole))
        (λ f. kept_paired k (sym other ∙ ap (place_of s) (sym f) ∙ before)) ∙ before)
        (cases_eq v p.other))
        (cases_eq v b);
    positive = λ l h. ⊎_elim
        (λ (e : l ≡ k). subst (λ (x : ℤ). pos 0 <ℤ x) (sym (ap (λ (x : ℕ). own (flipped s b p k) x) e ∙ ap (λ (xs : List ℤ). get_or xs s.width (pos 0)) row_here ∙ mirrored_own s.width p.sum (short_row s k) long)) (is.positive k slot))
        (λ off. subst (λ (xs : List ℤ). pos 0 <ℤ get_or xs s.width (pos 0)) (sym (row_off l off)) (is.positive l (omega (arith, h, rows))))
        (cases_eq l k);
    primitive = λ l h. ⊎_elim
        (λ (e : l ≡ k). subst IsPrimitive (sym (ap (short_row (flipped s b p k)) e ∙ row_here)) lowest)
        (λ off. subst IsPrimitive (sym (row_off l off)) (is.primitive l (omega (arith, h, rows))))
        (cases_eq l k);
  }

  -- ---- the slot keeps the equation of b now
  basic : IsBasic s b
  basic = record { within = within; no_column = λ j e. column_paired j (sym e ∙ paired) }

  mirror_row : IsMirrorRow s b p k
  mirror_row = record {
    place = paired;
    pair = pair;
    other = other;
    entries = λ v. ap (λ (x : Place). entry_by s b x v) paired ∙ ap (λ (x : Option Pair). entry_paired s b x v) pair ∙ ap (λ (x : Place). entry_beside s b p x v) other;
    right = ap (right_by s b) paired ∙ ap (right_paired s) pair ∙ ap (right_beside s p) other;
  }

  flip_cell : (i : ℕ) → cell (flipped s b p k) k i ≡ get_or (mirrored s.width p.sum (short_row s k)) i (pos 0)
  flip_cell i = ap (λ (xs : List ℤ). get_or xs i (pos 0)) row_here

  flip_place : (v : ℕ) → v < variables_of s → v ≢ b → v ≢ p.other → (q : Place) → place_of s v ≡ q → kept_entry (flipped s b p k) k v ≡ entry_of s b v
  flip_place v h off away (Column j) e =
      let none : pair_entry b p.other v ≡ pos 0 = pair_none b p.other v off away in
      let now : kept_entry (flipped s b p k) k v ≡ neg_ℤ (cell s k j) = ap (entry_at (flipped s b p k) k) (elsewhere v off away ∙ e) ∙ flip_cell j ∙ mirrored_column s.width p.sum (short_row s k) long j (is.columns v j h e) in
      let before_it : entry_of s b v ≡ own s k *ℤ pos 0 -ℤ cell s k j = mirror_row.entries v ∙ ap (λ (x : ℤ). own s k *ℤ x -ℤ kept_entry s k v) none ∙ ap (λ (x : Place). own s k *ℤ pos 0 -ℤ entry_at s k x) e in
      omega (arith, ints, now, before_it)
  flip_place v h off away (Kept l) e =
      let apart : l ≢ k = not_slot v l h away e in
      let none : pair_entry b p.other v ≡ pos 0 = pair_none b p.other v off away in
      let now : kept_entry (flipped s b p k) k v ≡ pos 0 = ap (entry_at (flipped s b p k) k) (elsewhere v off away ∙ e) ∙ not_kept (flipped s b p k) k (Kept l) (λ f. apart (kept_same l k f)) (λ i f. column_kept i l (sym f)) in
      let before_it : entry_of s b v ≡ own s k *ℤ pos 0 -ℤ pos 0 = mirror_row.entries v ∙ ap (λ (x : ℤ). own s k *ℤ x -ℤ kept_entry s k v) none
      ∙ ap (λ (x : ℤ). own s k *ℤ pos 0 -ℤ x) (ap (entry_at s k) e ∙ not_kept s k (Kept l) (λ f. apart (kept_same l k f)) (λ i f. column_kept i l (sym f))) in
      omega (arith, ints, now, before_it)
  flip_place v h off away Paired e =
      let none : pair_entry b p.other v ≡ pos 0 = pair_none b p.other v off away in
      let now : kept_entry (flipped s b p k) k v ≡ pos 0 = ap (entry_at (flipped s b p k) k) (elsewhere v off away ∙ e) in
      let before_it : entry_of s b v ≡ own s k *ℤ pos 0 -ℤ pos 0 = mirror_row.entries v ∙ ap (λ (x : ℤ). own s k *ℤ x -ℤ kept_entry s k v) none ∙ ap (λ (x : Place). own s k *ℤ pos 0 -ℤ entry_at s k x) e in
      omega (arith, ints, now, before_it)

  flip_basic : kept_entry (flipped s b p k) k b ≡ entry_of s b b
  flip_basic =
      let one : pair_entry b p.other b ≡ pos 1 = pair_first b p.other b refl (λ e. good.1 (sym e)) in
      let now : kept_entry (flipped s b p k) k b ≡ own s k = kept_own (flipped s b p k) k b at_basic ∙ flip_cell s.width ∙ mirrored_own s.width p.sum (short_row s k) long in
      let before_it : entry_of s b b ≡ own s k *ℤ pos 1 -ℤ pos 0 = mirror_row.entries b ∙ ap (λ (x : ℤ). own s k *ℤ x -ℤ kept_entry s k b) one ∙ ap (λ (x : Place). own s k *ℤ pos 1 -ℤ entry_at s k x) paired in
      omega (arith, ints, now, before_it)

  flip_other : kept_entry (flipped s b p k) k p.other ≡ entry_of s b p.other
  flip_other =
      let one : pair_entry b p.other p.other ≡ pos 1 = pair_second b p.other p.other good.1 refl in
      let now : kept_entry (flipped s b p k) k p.other ≡ pos 0 = ap (entry_at (flipped s b p k) k) at_other in
      let before_it : entry_of s b p.other ≡ own s k *ℤ pos 1 -ℤ own s k = mirror_row.entries p.other ∙ ap (λ (x : ℤ). own s k *ℤ x -ℤ kept_entry s k p.other) one ∙ ap (λ (x : ℤ). own s k *ℤ pos 1 -ℤ x) (kept_own s k p.other other) in
      omega (arith, ints, now, before_it)

  flip_entry : (v : ℕ) → v < variables_of s → kept_entry (flipped s b p k) k v ≡ entry_of s b v
  flip_entry v h =
      ⊎_elim
      (λ (e : v ≡ b). ap (kept_entry (flipped s b p k) k) e ∙ flip_basic ∙ ap (entry_of s b) (sym e))
      (λ off. ⊎_elim
      (λ (e : v ≡ p.other). ap (kept_entry (flipped s b p k) k) e ∙ flip_other ∙ ap (entry_of s b) (sym e))
      (λ away. flip_place v h off away (place_of s v) refl)
      (cases_eq v p.other))
      (cases_eq v b)

  flip_right : kept_right (flipped s b p k) k ≡ right_of s b
  flip_right = flip_cell (s.width + 1) ∙ mirrored_right s.width p.sum (short_row s k) long ∙ sym mirror_row.right

  -- another slot says what it said
  other_place_entry : (l v : ℕ) → v < variables_of s → l < length s.rows → l ≢ k → kept_entry (flipped s b p k) l v ≡ kept_entry s l v
  other_place_entry l v h m apart =
      ⊎_elim
      (λ (e : v ≡ b). ap (kept_entry (flipped s b p k) l) e ∙ ap (entry_at (flipped s b p k) l) at_basic ∙ not_kept (flipped s b p k) l (Kept k) (λ f. apart (sym (kept_same k l f))) (λ i f. column_kept i k (sym f))
      ∙ sym (ap (kept_entry s l) e ∙ ap (entry_at s l) paired))
      (λ off. ⊎_elim
      (λ (e : v ≡ p.other). ap (kept_entry (flipped s b p k) l) e ∙ ap (entry_at (flipped s b p k) l) at_other
      ∙ sym (ap (kept_entry s l) e ∙ ap (entry_at s l) other ∙ not_kept s l (Kept k) (λ f. apart (sym (kept_same k l f))) (λ i f. column_kept i k (sym f))))
      (λ away. ap (entry_at (flipped s b p k) l) (elsewhere v off away) ∙ same_row (place_of s v))
      (cases_eq v p.other))
      (cases_eq v b)
    where
      same_row : (q : Place) → entry_at (flipped s b p k) l q ≡ entry_at s l q
      same_row (Column j) = ap (λ (xs : List ℤ). get_or xs j (pos 0)) (row_off l apart)
      same_row (Kept m') = ap (λ (x : ℤ). if m' == l then x else pos 0) (ap (λ (xs : List ℤ). get_or xs s.width (pos 0)) (row_off l apart))
      same_row Paired = refl

  flipped_holds : (y : ℕ → ℤ) (d : ℤ) → Holds (tableau (table_of s)) y d → Holds (tableau (table_of (flipped s b p k))) y d
  flipped_holds y d holds =
      let kept = holds_kept s y d is holds in
      kept_holds (flipped s b p k) y d flipped_store (record {
        slots = λ l h. subst (λ (n : ℕ). sum_from n 0 (λ v. kept_entry (flipped s b p k) l v *ℤ y v) ≡ kept_right (flipped s b p k) l *ℤ d) (sym variables)
            (⊎_elim
            (λ (e : l ≡ k). subst (λ (x : ℕ). sum_from (variables_of s) 0 (λ v. kept_entry (flipped s b p k) x v *ℤ y v) ≡ kept_right (flipped s b p k) x *ℤ d) (sym e) (at_slot holds))
            (λ apart. let m : l < length s.rows = omega (arith, h, rows) in
            sum_from-same (variables_of s) 0 _ _ (λ v i j. ap (λ (x : ℤ). x *ℤ y v) (other_place_entry l v (omega (arith, j)) m apart))
            ∙ kept.slots l m ∙ ap (λ (x : ℤ). x *ℤ d) (sym (ap (λ (xs : List ℤ). get_or xs (s.width + 1) (pos 0)) (row_off l apart))))
            (cases_eq l k));
        pairs = λ v q h e. kept.pairs v q (omega (arith, h, variables)) e;
      })
    where
      at_slot : Holds (tableau (table_of s)) y d → sum_from (variables_of s) 0 (λ v. kept_entry (flipped s b p k) k v *ℤ y v) ≡ kept_right (flipped s b p k) k *ℤ d
      at_slot holds' =
          ⊎_elim
          (λ (found : (i : ℕ) × (i < length s.basis) × (get_or s.basis i 0 ≡ b)).
          sum_from-same (variables_of s) 0 _ _ (λ v i j. ap (λ (x : ℤ). x *ℤ y v) (flip_entry v (omega (arith, j))))
          ∙ subst (HoldsOf s y d) found.2 (row_holds s y d found.0 found.1 holds')
          ∙ ap (λ (x : ℤ). x *ℤ d) (sym flip_right))
          (λ none. let column = is.other_place b within none in absurd (column_paired column.0 (sym column.1 ∙ paired)))
          (find_row (length s.basis) (λ i. get_or s.basis i 0) b)

  -- and the form is the same
  pub flipped_table : table_of s ≡ table_of (flipped s b p k)
  flipped_table = forms_are_one (table_of s) (table_of (flipped s b p k)) (store_shaped s is) (store_shaped (flipped s b p k) flipped_store) (store_reduced s is) (store_reduced (flipped s b p k) flipped_store)
      variables refl flipped_holds
