-- A pivot of what is kept, from a form with small entries to the next.
use Rattle.std.proofs.Common.{ℕ, ◌≡◌, ◌≢◌, ◌<◌, ◌+◌, arith, refl, ap, sym, ◌∙◌, ◌⊎◌, ⊎_elim, subst, inl, inr, List, length, get_or, set, Some, None, Option}
use Rattle.std.specs.Prelude.{ℤ, pos, ◌*ℤ◌, ◌<ℤ◌, unsigned_abs}
use Rattle.std.specs.List.{All}
use Rattle.std.proofs.lemmas.Int.{ints}
use Rattle.std.proofs.lemmas.Bool.{cases_eq}
use Rattle.std.proofs.lemmas.Bool.Decides.{nat_tests}
use Rattle.std.proofs.lemmas.List.{ext_get_or, get_or-set_other, get_or-set_same, get_or_default, length-set}
use Rattle.std.proofs.lemmas.List.FromFn.{get_or-map-range_with_len, length-map-range_with_len}
use Rattle.exact_num.specs.declared.limits.TheConstants.{WIDE}
use Rattle.row_program.specs.Forms.{entry, first_large, first_large_of, next_form, turned}
use Rattle.pivot_form.specs.declared.places.Pair.{Pair}
use Rattle.pivot_form.specs.declared.places.Place.{Place}
use Rattle.pivot_form.specs.declared.places.Place.TheVariants.{Column, Kept, Paired}
use Rattle.pivot_form.specs.Invariant.{IsEquation, IsForm}
use Rattle.pivot_form.specs.Kept.{Store, cell, entry_at, entry_by, entry_of, exchanged, flipped, kept_entry, next_short, pair_entry, pair_lead, pair_of, pair_row, place_of, right_by, right_of, short_row, table_of, variables_of}
use Rattle.pivot_form.specs.Shorts.{IsBasic, IsShort, StandsAlone}
use Rattle.pivot_form.proofs.Equations.{length-map_from, none_from_small, turned_by}
use Rattle.pivot_form.proofs.NextForm.{next_is_form}
use Rattle.pivot_form.proofs.Whole.{entry_is, height, kept_own, pair_first, pair_none, pair_second}
use Rattle.pivot_form.proofs.Shorts.{cell_small, pair_at, pair_right, sum_small}
use Rattle.pivot_form.proofs.Exchange.{IsLead, MayExchange, exchanged_is_next, exchanged_store}
use Rattle.pivot_form.proofs.Flips.{at_basic, flipped_store, flipped_table, variables}

-- ---- what the slots keep is small
pub row_small : (s : Store) (k : ℕ) → IsShort s → k < length s.rows → All (λ x. unsigned_abs x < WIDE) (short_row s k)
row_small s k is l = λ j d h. subst (λ (x : ℤ). unsigned_abs x < WIDE) (sym (get_or_default (short_row s k) j d (pos 0) h)) (cell_small s k j is l (omega (arith, h, is.store.widths k l)))

pub row_narrow : (s : Store) (k : ℕ) → IsShort s → k < length s.rows → first_large (short_row s k) ≡ None
row_narrow s k is l = none_from_small (short_row s k) (row_small s k is l)

pub row_equation : (s : Store) (k : ℕ) → IsShort s → k < length s.rows → IsEquation (s.width + 1) (short_row s k)
row_equation s k is l = record { width = omega (arith, is.store.widths k l); small = row_small s k is l; primitive = is.store.primitive k l }

-- ---- a flip
pub flipped_short : (s : Store) (b : ℕ) (p : Pair) (k : ℕ) → IsShort s → b < variables_of s → place_of s b ≡ Paired → pair_of s b ≡ Some p → place_of s p.other ≡ Kept k
    → IsShort (flipped s b p k) × (table_of (flipped s b p k) ≡ table_of s) × StandsAlone (flipped s b p k) b
flipped_short s b p k is within paired pair other =
    let same = flipped_table s b p k is.store within paired pair other in
    let here : place_of (flipped s b p k) b ≡ Kept k = at_basic s b p k is.store within paired pair other in (
      record {
        few = is.few;
        sums = λ v q l e. is.sums v q (omega (arith, l, variables s b p k is.store within paired pair other)) e;
        store = flipped_store s b p k is.store within paired pair other;
        form = subst IsForm same is.form;
      },
      sym same,
      inl (λ e. let f : Kept k ≡ Paired = sym here ∙ e in cc),
    )

-- where the other one isn't kept it is nonbasic
pub stands_alone : (s : Store) (b : ℕ) (p : Pair) → IsShort s → b < variables_of s → place_of s b ≡ Paired → pair_of s b ≡ Some p → ((k : ℕ) → place_of s p.other ≢ Kept k) → StandsAlone s b
stands_alone s b p is within paired pair not_kept = inr (p, pair, by (place_of s p.other) refl)
  where
    by : (q : Place) → place_of s p.other ≡ q → (j : ℕ) × (place_of s p.other ≡ Column j)
    by (Column j) e = (j, e)
    by (Kept k) e = absurd (not_kept k e)
    by Paired e = let found = is.store.paired b within paired in
        let same : Some found.0 ≡ Some p = sym found.1 ∙ pair in
        let whole : found.0 ≡ p = cc in
        absurd (found.2 (ap (λ (x : Pair). place_of s x.other) whole ∙ e))

-- ---- an exchange
exchanged_variables : (s : Store) (r b e j : ℕ) (lead : List ℤ) (slot : Option ℕ) → variables_of (exchanged s r b e j lead slot) ≡ variables_of s
exchanged_variables s r b e j lead slot = length-set (set s.places b (Column j)) e (place_of s b) ∙ length-set s.places b (Column j)

pub exchanged_short : (s : Store) (r b e j : ℕ) (sign : ℤ) (lead : List ℤ) (slot : Option ℕ) → IsShort s → MayExchange s r b e j sign lead slot → entry (table_of s) r e ≢ pos 0 → first_large_of (next_form (table_of s) r e).rows ≡ None
    → IsShort (exchanged s r b e j lead slot) × (table_of (exchanged s r b e j lead slot) ≡ next_form (table_of s) r e)
exchanged_short s r b e j sign lead slot is may nonzero narrow =
    let within : r < length (table_of s).rows = omega (arith, may.row, height s) in
    let entry_same : entry (table_of s) r e ≡ entry_of s b e = entry_is s r e may.row may.entering ∙ ap (λ (x : ℕ). entry_of s x e) may.basic in
    let same = exchanged_is_next s r b e j sign lead slot is.store may is.form (λ f. nonzero (entry_same ∙ f)) in
    let next = next_is_form (table_of s) r e is.form within may.entering nonzero narrow in (
      record {
        few = is.few;
        sums = λ v q l f. is.sums v q (omega (arith, l, exchanged_variables s r b e j lead slot)) f;
        store = exchanged_store s r b e j sign lead slot is.store may;
        form = subst IsForm same next;
      },
      sym same,
    )

-- ---- the lead of an equation that is kept
pub kept_lead : (s : Store) (b e j k : ℕ) → IsShort s → IsBasic s b → place_of s b ≡ Kept k → e < variables_of s → place_of s e ≡ Column j → entry_of s b e ≢ pos 0
    → (sign : ℤ) × IsLead s b j sign (turned j (short_row s k))
kept_lead s b e j k is basic place within column nonzero =
    let at_entering : entry_of s b e ≡ cell s k j = as_kept e ∙ ap (entry_at s k) column in
    let by = turned_by j (short_row s k) (λ f. nonzero (at_entering ∙ f)) in (
      by.0,
      record {
        sign_is = by.1.sign;
        width = by.1.width ∙ is.store.widths k slot;
        columns = λ v i l c. by.1.entries i ∙ ap (λ (x : ℤ). by.0 *ℤ x) (sym (as_kept v ∙ ap (entry_at s k) c));
        own_is = by.1.entries s.width ∙ ap (λ (x : ℤ). by.0 *ℤ x) (sym (as_kept b ∙ kept_own s k b place));
        right = by.1.entries (s.width + 1) ∙ ap (λ (x : ℤ). by.0 *ℤ x) (sym (ap (right_by s b) place));
        positive = by.2;
      },
    )
  where
    as_kept : (v : ℕ) → entry_of s b v ≡ kept_entry s k v
    as_kept v = ap (λ (x : Place). entry_by s b x v) place

    slot : k < length s.rows
    slot = is.store.kept b k basic.within place

-- ---- and that of a pair
lead_at : (w j : ℕ) (sum : ℤ) (i : ℕ) → i < w + 2 → get_or (pair_row w j sum) i (pos 0) ≡ pair_lead w j sum i
lead_at w j sum i l = get_or-map-range_with_len (pair_lead w j sum) 0 (w + 2) i i (pos 0) l (omega arith)

pub pair_may : (s : Store) (b e j : ℕ) (p : Pair) → IsShort s → IsBasic s b → place_of s b ≡ Paired → pair_of s b ≡ Some p → e < variables_of s → place_of s e ≡ Column j → (i : ℕ) → place_of s p.other ≡ Column i → entry_of s b e ≢ pos 0
    → (p.other ≡ e) × IsLead s b j (pos 1) (pair_row s.width j p.sum)
pair_may s b e j p is basic paired pair within column i other nonzero =
    let good = is.store.pairs b p basic.within pair in
    let off : e ≢ b = λ f. basic.no_column j (ap (place_of s) (sym f) ∙ column) in
    let same : p.other ≡ e = ⊎_elim (λ (f : e ≡ p.other). sym f) (λ away. absurd (nonzero (at e ∙ pair_none b p.other e off away))) (cases_eq e p.other) in
    let inside = is.store.columns e j within column in (
      same,
      record {
        sign_is = inl refl;
        width = length-map-range_with_len (pair_lead s.width j p.sum) 0 (s.width + 2);
        columns = λ v c l f. let here = is.store.columns v c l f in
            lead_at s.width j p.sum c (omega (arith, here))
            ∙ ⊎_elim
            (λ (g : c ≡ j). (let h : v ≡ p.other = is.store.one_column v e j l within (f ∙ ap Column g) column ∙ sym same in
            lead_here s.width j p.sum c g ∙ sym (once (entry_of s b v) (pos 1) (at v ∙ pair_second b p.other v (λ z. good.1 (sym h ∙ z)) h))))
            (λ away. lead_none s.width j p.sum c away (λ g. omega (arith, g, here)) (λ g. omega (arith, g, here))
            ∙ sym (once (entry_of s b v) (pos 0) (at v ∙ pair_none b p.other v (λ z. basic.no_column c (ap (place_of s) (sym z) ∙ f)) (λ z. away (column_number c j (sym f ∙ ap (place_of s) (z ∙ same) ∙ column))))))
            (cases_eq c j);
        own_is = lead_at s.width j p.sum s.width (omega arith) ∙ lead_own s.width j p.sum inside ∙ sym (once (entry_of s b b) (pos 1) (at b ∙ pair_first b p.other b refl (λ z. good.1 (sym z))));
        right = lead_at s.width j p.sum (s.width + 1) (omega arith) ∙ lead_right s.width j p.sum inside ∙ sym (once (right_of s b) p.sum (pair_right s b p is basic paired pair i other));
        positive = let e : get_or (pair_row s.width j p.sum) j (pos 0) ≡ pos 1 = lead_at s.width j p.sum j (omega (arith, inside)) ∙ lead_here s.width j p.sum j refl in omega (arith, ints, e);
      },
    )
  where
    at : (v : ℕ) → entry_of s b v ≡ pair_entry b p.other v
    at v = pair_at s b p is basic paired pair i v other

    once : (x y : ℤ) → x ≡ y → pos 1 *ℤ x ≡ y
    once x y f = omega (arith, ints, f)

    column_number : (c j : ℕ) → Column c ≡ Column j → c ≡ j
    column_number c j f = cc

    lead_here : (w j : ℕ) (sum : ℤ) (c : ℕ) → c ≡ j → pair_lead w j sum c ≡ pos 1
    lead_here w j sum c f = grind (arith, nat_tests)

    lead_none : (w j : ℕ) (sum : ℤ) (c : ℕ) → c ≢ j → c ≢ w → c ≢ w + 1 → pair_lead w j sum c ≡ pos 0
    lead_none w j sum c f g h = grind (arith, nat_tests)

    lead_own : (w j : ℕ) (sum : ℤ) → j < w → pair_lead w j sum w ≡ pos 1
    lead_own w j sum l = let apart : w ≢ j = λ f. omega (arith, f, l) in grind (arith, nat_tests)

    lead_right : (w j : ℕ) (sum : ℤ) → j < w → pair_lead w j sum (w + 1) ≡ sum
    lead_right w j sum l = let apart : w + 1 ≢ j = λ f. omega (arith, f, l) in let off : w + 1 ≢ w = λ f. omega (arith, f) in grind (arith, nat_tests)

-- the same, as code writes it over zeros
pub pair_written : (w j : ℕ) (sum : ℤ) (zeros : List ℤ) → length zeros ≡ w + 2 → ((k : ℕ) → k < length zeros → get_or zeros k (pos 0) ≡ pos 0) → j < w
    → set (set (set zeros (w + 1) sum) w (pos 1)) j (pos 1) ≡ pair_row w j sum
pair_written w j sum zeros wide none inside =
    let long : length (set (set (set zeros (w + 1) sum) w (pos 1)) j (pos 1)) ≡ w + 2 = length-set _ j (pos 1) ∙ length-set _ w (pos 1) ∙ length-set zeros (w + 1) sum ∙ wide in
    ext_get_or (pos 0) _ _ (long ∙ sym (length-map-range_with_len (pair_lead w j sum) 0 (w + 2)))
    (λ i l. let h : i < w + 2 = omega (arith, l, long) in
    ⊎_elim
    (λ (e : i ≡ j). ap (λ (x : ℕ). get_or (set (set (set zeros (w + 1) sum) w (pos 1)) j (pos 1)) x (pos 0)) e
    ∙ get_or-set_same _ j (pos 1) (pos 0) (omega (arith, inside, wide, length-set (set zeros (w + 1) sum) w (pos 1), length-set zeros (w + 1) sum))
    ∙ sym (lead_at w j sum i h ∙ (grind (arith, nat_tests))))
    (λ off. get_or-set_other _ j i (pos 1) (pos 0) off ∙ ⊎_elim
    (λ (e : i ≡ w). ap (λ (x : ℕ). get_or (set (set zeros (w + 1) sum) w (pos 1)) x (pos 0)) e
    ∙ get_or-set_same _ w (pos 1) (pos 0) (omega (arith, wide, length-set zeros (w + 1) sum))
    ∙ sym (lead_at w j sum i h ∙ (grind (arith, nat_tests))))
    (λ away. get_or-set_other _ w i (pos 1) (pos 0) away ∙ ⊎_elim
    (λ (e : i ≡ w + 1). ap (λ (x : ℕ). get_or (set zeros (w + 1) sum) x (pos 0)) e
    ∙ get_or-set_same zeros (w + 1) sum (pos 0) (omega (arith, wide))
    ∙ sym (lead_at w j sum i h ∙ (grind (arith, nat_tests))))
    (λ apart. get_or-set_other zeros (w + 1) i sum (pos 0) apart ∙ none i (omega (arith, h, wide)) ∙ sym (lead_at w j sum i h ∙ (grind (arith, nat_tests))))
    (cases_eq i (w + 1)))
    (cases_eq i w))
    (cases_eq i j))

-- ---- a pivot at a row, whose basic variable's equation is kept in the slot k
module _ (s : Store) (r e j : ℕ) (is : IsShort s) (row : r < length s.basis) (within : e < variables_of s) (column : place_of s e ≡ Column j) (nonzero : entry (table_of s) r e ≢ pos 0) (narrow : first_large_of (next_form (table_of s) r e).rows ≡ None) where
  row_basic : IsBasic s (get_or s.basis r 0)
  row_basic = record { within = is.store.basics r row; no_column = λ i. is.store.basic_place r i row }

  row_entry : entry_of s (get_or s.basis r 0) e ≢ pos 0
  row_entry f = nonzero (entry_is s r e row within ∙ f)

  pub column_within : j < s.width
  column_within = is.store.columns e j within column

  module _ (k : ℕ) (kept : place_of s (get_or s.basis r 0) ≡ Kept k) where
    pub kept_slot : k < length s.rows
    kept_slot = is.store.kept (get_or s.basis r 0) k row_basic.within kept

    pub kept_nonzero : get_or (short_row s k) j (pos 0) ≢ pos 0
    kept_nonzero f = row_entry (ap (λ (x : Place). entry_by s (get_or s.basis r 0) x e) kept ∙ ap (entry_at s k) column ∙ f)

    pub kept_step : IsShort (exchanged s r (get_or s.basis r 0) e j (turned j (short_row s k)) (Some k)) × (table_of (exchanged s r (get_or s.basis r 0) e j (turned j (short_row s k)) (Some k)) ≡ next_form (table_of s) r e)
    kept_step =
        let lead = kept_lead s (get_or s.basis r 0) e j k is row_basic kept within column row_entry in
        exchanged_short s r (get_or s.basis r 0) e j lead.0 (turned j (short_row s k)) (Some k) is (record {
          row = row;
          basic = refl;
          entering = within;
          column = column;
          lead_is = lead.1;
          slot_is = inl (k, refl, kept);
        }) nonzero narrow

  module _ (p : Pair) (i : ℕ) (paired : place_of s (get_or s.basis r 0) ≡ Paired) (pair : pair_of s (get_or s.basis r 0) ≡ Some p) (other : place_of s p.other ≡ Column i) where
    pub pair_step : IsShort (exchanged s r (get_or s.basis r 0) e j (pair_row s.width j p.sum) None) × (table_of (exchanged s r (get_or s.basis r 0) e j (pair_row s.width j p.sum) None) ≡ next_form (table_of s) r e)
    pair_step =
        let may = pair_may s (get_or s.basis r 0) e j p is row_basic paired pair within column i other row_entry in
        exchanged_short s r (get_or s.basis r 0) e j (pos 1) (pair_row s.width j p.sum) None is (record {
          row = row;
          basic = refl;
          entering = within;
          column = column;
          lead_is = may.1;
          slot_is = inr (refl, paired, (p, pair, may.0));
        }) nonzero narrow

    pub pair_positive : pos 0 <ℤ get_or (pair_row s.width j p.sum) j (pos 0)
    pair_positive = let may = pair_may s (get_or s.basis r 0) e j p is row_basic paired pair within column i other row_entry in may.1.positive

    pub pair_small : All (λ x. unsigned_abs x < WIDE) (pair_row s.width j p.sum)
    pair_small k d l =
        let inside : k < s.width + 2 = omega (arith, l, length-map-range_with_len (pair_lead s.width j p.sum) 0 (s.width + 2)) in
        subst (λ (x : ℤ). unsigned_abs x < WIDE) (sym (get_or_default (pair_row s.width j p.sum) k d (pos 0) l ∙ lead_at s.width j p.sum k inside)) (one_of (pair_lead s.width j p.sum k) (kinds k))
      where
        small_sum : unsigned_abs p.sum < WIDE
        small_sum = sum_small s (get_or s.basis r 0) p is row_basic.within pair

        kinds : (k : ℕ) → (pair_lead s.width j p.sum k ≡ pos 1) ⊎ ((pair_lead s.width j p.sum k ≡ p.sum) ⊎ (pair_lead s.width j p.sum k ≡ pos 0))
        kinds k =
            ⊎_elim (λ (f : k ≡ j). inl (grind (arith, nat_tests)))
            (λ off. ⊎_elim (λ (f : k ≡ s.width). inl (grind (arith, nat_tests)))
            (λ away. ⊎_elim (λ (f : k ≡ s.width + 1). inr (inl (grind (arith, nat_tests)))) (λ apart. inr (inr (grind (arith, nat_tests)))) (cases_eq k (s.width + 1)))
            (cases_eq k s.width))
            (cases_eq k j)

        one_of : (x : ℤ) → (x ≡ pos 1) ⊎ ((x ≡ p.sum) ⊎ (x ≡ pos 0)) → unsigned_abs x < WIDE
        one_of x kind = ⊎_elim
            (λ (f : x ≡ pos 1). omega (arith, ints, f))
            (λ rest. ⊎_elim (λ (f : x ≡ p.sum). subst (λ (y : ℤ). unsigned_abs y < WIDE) (sym f) small_sum) (λ (f : x ≡ pos 0). omega (arith, ints, f)) rest)
            kind

-- what the slots keep after an exchange is small
pub exchanged_narrow : (s : Store) (r b e j : ℕ) (lead : List ℤ) (slot : Option ℕ) (k : ℕ) → IsShort (exchanged s r b e j lead slot) → k < length s.rows → first_large (short_row (exchanged s r b e j lead slot) k) ≡ None
exchanged_narrow s r b e j lead slot k is l = row_narrow (exchanged s r b e j lead slot) k is (omega (arith, l, length-map_from (next_short s.width j lead slot) 0 s.rows))
