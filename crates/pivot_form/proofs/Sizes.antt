-- A bound on the entries of the next form.
use Rattle.std.proofs.Common.{ℕ, ◌≡◌, ◌≢◌, ◌<◌, ◌≤◌, ◌+◌, ◌*◌, arith, refl, ap, sym, ◌∙◌, ◌⊎◌, ⊎_elim, subst, inl, inr, List, [], length, get_or, Some, None}
use Rattle.std.specs.Prelude.{ℤ, pos, ◌*ℤ◌, ◌-ℤ◌, unsigned_abs}
use Rattle.std.specs.List.{All}
use Rattle.std.proofs.lemmas.Int.{ints, unsigned_abs-mul}
use Rattle.std.proofs.lemmas.Nat.{mul-le}
use Rattle.std.proofs.Math.Nat.{le-mul_of_pos_right, mul-le-mul_left, mul-le-mul_right}
use Rattle.std.proofs.lemmas.Bool.{cases_eq, cases_lt}
use Rattle.std.proofs.lemmas.Bool.Decides.{nat_tests}
use Rattle.std.proofs.lemmas.List.{get_or_default}
use Rattle.exact_num.specs.Divisors.{row_gcd}
use Rattle.exact_num.specs.declared.limits.TheConstants.{WIDE}
use Rattle.row_program.specs.Forms.{Table, entry, first_large_of, next_form, turned}
use Rattle.pivot_form.specs.declared.places.Pair.{Pair}
use Rattle.pivot_form.specs.declared.places.Place.{Place}
use Rattle.pivot_form.specs.declared.places.Place.TheVariants.{Column, Kept, Paired}
use Rattle.pivot_form.specs.Kept.{IsStore, Store, cell, entry_at, entry_by, entry_of, exchanged, kept_entry, kept_right, moved, own, pair_entry, pair_of, place_of, right_of, row_entry, short_row, table_of, taken, variables_of, whole_row}
use Rattle.pivot_form.specs.Shorts.{IsBasic, IsShort}
use Rattle.pivot_form.proofs.Equations.{none_from_small_rows, turned_by}
use Rattle.pivot_form.proofs.Whole.{cell_at, entry_is, height, kept_own, pair_first, pair_none, pair_second, row_at, row_entry_inside, row_entry_last, row_kind, width_at}
use Rattle.pivot_form.proofs.Shorts.{cell_small, mirror_right, right_small, sum_small}
use Rattle.pivot_form.proofs.Cleared.{cleared_none}
use Rattle.pivot_form.proofs.Exchange.{MayExchange, cell_now, divisor_above, exchanged_is_next, exchanged_store, mix, mix_column, mix_other, mix_own, moved_width, not_kept, short_other, swap, taken_cell, taken_column, taken_other, taken_own}
use Rattle.pivot_form.proofs.Steps.{kept_lead}
use Rattle.pivot_form.proofs.Swaps.{IsSwap}

-- ---- sizes
-- the number is small, times a pair's sum and once more
abbrev Fits : ℕ → ℤ → Type 0
Fits m x = unsigned_abs x * (m + 1) < WIDE

fits_small : (m : ℕ) (x : ℤ) → Fits m x → unsigned_abs x < WIDE
fits_small m x h = let l : unsigned_abs x ≤ unsigned_abs x * (m + 1) = le-mul_of_pos_right (unsigned_abs x) (omega arith) in omega (arith, h, l)

fits_below : (m n : ℕ) (x : ℤ) → unsigned_abs x ≤ n → n * (m + 1) < WIDE → Fits m x
fits_below m n x h i = let l : unsigned_abs x * (m + 1) ≤ n * (m + 1) = mul-le-mul_right (m + 1) h in omega (arith, i, l)

mirror_products : (m a c n : ℕ) → a * (m + 1) < WIDE → c * (m + 1) < WIDE → n ≤ m → a * n + c < WIDE
mirror_products m a c n h i l = ⊎_elim
    (λ (below : a < c). let p : a * n ≤ c * m = mul-le a n c m (omega (arith, below)) l in omega (arith, i, p))
    (λ above. let p : a * n ≤ a * m = mul-le-mul_left a l in omega (arith, h, above, p))
    (cases_lt a c)

mirror_fits : (m : ℕ) (a c sum : ℤ) → Fits m a → Fits m c → unsigned_abs sum ≤ m → unsigned_abs (a *ℤ sum -ℤ c) < WIDE
mirror_fits m a c sum h i l = let all = mirror_products m (unsigned_abs a) (unsigned_abs c) (unsigned_abs sum) h i l in
    let product = unsigned_abs-mul a sum in omega (arith, ints, all, product)

combined : (p x q y : ℤ) (big : ℕ) → unsigned_abs y ≤ big → unsigned_abs (p *ℤ x -ℤ q *ℤ y) ≤ unsigned_abs p * unsigned_abs x + unsigned_abs q * big
combined p x q y big h =
    let first = unsigned_abs-mul p x in
    let second = unsigned_abs-mul q y in
    let l : unsigned_abs q * unsigned_abs y ≤ unsigned_abs q * big = mul-le-mul_left (unsigned_abs q) h in
    omega (arith, ints, first, second, l)

-- what is divided doesn't grow
divided : (g : ℕ) (x z : ℤ) → 0 < g → pos g *ℤ x ≡ z → unsigned_abs x ≤ unsigned_abs z
divided g x z above e =
    let l : unsigned_abs x ≤ unsigned_abs x * g = le-mul_of_pos_right (unsigned_abs x) above in
    let product : g * unsigned_abs x ≡ unsigned_abs z = sym (unsigned_abs-mul (pos g) x) ∙ ap unsigned_abs e in
    omega (arith, l, product)

-- ---- a form is narrow where its slots and its mirrors' right sides are small
module _ (t : Store) (is : IsStore t) (slots : (l i : ℕ) → l < length t.rows → i < t.width + 2 → unsigned_abs (cell t l i) < WIDE) (sums : (v : ℕ) (p : Pair) → v < variables_of t → pair_of t v ≡ Some p → unsigned_abs p.sum < WIDE) (mirrors : (v : ℕ) (p : Pair) (l : ℕ) → v < variables_of t → place_of t v ≡ Paired → pair_of t v ≡ Some p → place_of t p.other ≡ Kept l → unsigned_abs (own t l *ℤ p.sum -ℤ kept_right t l) < WIDE) where
  kept_small : (l v : ℕ) → l < length t.rows → v < variables_of t → unsigned_abs (kept_entry t l v) < WIDE
  kept_small l v h within = by (place_of t v) refl
    where
      by : (q : Place) → place_of t v ≡ q → unsigned_abs (kept_entry t l v) < WIDE
      by (Column i) e = subst (λ (x : ℤ). unsigned_abs x < WIDE) (sym (ap (entry_at t l) e)) (slots l i h (omega (arith, is.columns v i within e)))
      by (Kept n) e = ⊎_elim
          (λ (f : n ≡ l). subst (λ (x : ℤ). unsigned_abs x < WIDE) (sym (kept_own t l v (e ∙ ap Kept f))) (slots l t.width h (omega arith)))
          (λ off. let none : kept_entry t l v ≡ pos 0 = ap (entry_at t l) e ∙ not_kept t l (Kept n) (λ f. let g : n ≡ l = cc in off g) (λ i f. cc) in omega (arith, ints, none))
          (cases_eq n l)
      by Paired e = let none : kept_entry t l v ≡ pos 0 = ap (entry_at t l) e in omega (arith, ints, none)

  mirror_small : (b v : ℕ) (p : Pair) (l : ℕ) → b < variables_of t → place_of t b ≡ Paired → pair_of t b ≡ Some p → place_of t p.other ≡ Kept l → v < variables_of t
      → unsigned_abs (own t l *ℤ pair_entry b p.other v -ℤ kept_entry t l v) < WIDE
  mirror_small b v p l inside paired pair other within =
      let good = is.pairs b p inside pair in
      let slot = is.kept p.other l good.0 other in
      ⊎_elim
      (λ (f : v ≡ b).
      let one : pair_entry b p.other v ≡ pos 1 = pair_first b p.other v f (λ g. good.1 (sym g ∙ f)) in
      let none : kept_entry t l v ≡ pos 0 = ap (entry_at t l) (ap (place_of t) f ∙ paired) in
      let small = slots l t.width slot (omega arith) in
      subst (λ (x : ℤ). unsigned_abs (own t l *ℤ x -ℤ kept_entry t l v) < WIDE) (sym one) (subst (λ (x : ℤ). unsigned_abs (own t l *ℤ pos 1 -ℤ x) < WIDE) (sym none) (omega (arith, ints, small))))
      (λ off. ⊎_elim
      (λ (f : v ≡ p.other).
      let one : pair_entry b p.other v ≡ pos 1 = pair_second b p.other v off f in
      let mine : kept_entry t l v ≡ own t l = kept_own t l v (ap (place_of t) f ∙ other) in
      subst (λ (x : ℤ). unsigned_abs (own t l *ℤ x -ℤ kept_entry t l v) < WIDE) (sym one) (subst (λ (x : ℤ). unsigned_abs (own t l *ℤ pos 1 -ℤ x) < WIDE) (sym mine) (omega (arith, ints))))
      (λ away.
      let none : pair_entry b p.other v ≡ pos 0 = pair_none b p.other v off away in
      let small = kept_small l v slot within in
      subst (λ (x : ℤ). unsigned_abs (own t l *ℤ x -ℤ kept_entry t l v) < WIDE) (sym none) (omega (arith, ints, small)))
      (cases_eq v p.other))
      (cases_eq v b)

  pair_small : (a b v : ℕ) → unsigned_abs (pair_entry a b v) < WIDE
  pair_small a b v = ⊎_elim
      (λ (f : v ≡ a). ⊎_elim
      (λ (g : v ≡ b). let two : pair_entry a b v ≡ pos 2 = grind (arith, ints, nat_tests) in omega (arith, ints, two))
      (λ off. let one = pair_first a b v f off in omega (arith, ints, one))
      (cases_eq v b))
      (λ apart. ⊎_elim
      (λ (g : v ≡ b). let one = pair_second a b v apart g in omega (arith, ints, one))
      (λ off. let none = pair_none a b v apart off in omega (arith, ints, none))
      (cases_eq v b))
      (cases_eq v a)

  equation_entry : (b v : ℕ) → IsBasic t b → v < variables_of t → unsigned_abs (entry_of t b v) < WIDE
  equation_entry b v basic within = row_kind t b is basic.within basic.no_column
      (λ l row. subst (λ (x : ℤ). unsigned_abs x < WIDE) (sym (row.entries v)) (kept_small l v (is.kept b l basic.within row.place) within))
      (λ p j row. subst (λ (x : ℤ). unsigned_abs x < WIDE) (sym (row.entries v)) (pair_small b p.other v))
      (λ p l row. subst (λ (x : ℤ). unsigned_abs x < WIDE) (sym (row.entries v)) (mirror_small b v p l basic.within row.place row.pair row.other within))

  equation_right : (b : ℕ) → IsBasic t b → unsigned_abs (right_of t b) < WIDE
  equation_right b basic = row_kind t b is basic.within basic.no_column
      (λ l row. subst (λ (x : ℤ). unsigned_abs x < WIDE) (sym row.right) (slots l (t.width + 1) (is.kept b l basic.within row.place) (omega arith)))
      (λ p j row. subst (λ (x : ℤ). unsigned_abs x < WIDE) (sym row.right) (sums b p basic.within row.pair))
      (λ p l row. subst (λ (x : ℤ). unsigned_abs x < WIDE) (sym row.right) (mirrors b p l basic.within row.place row.pair row.other))

  equation_small : (b : ℕ) → IsBasic t b → All (λ x. unsigned_abs x < WIDE) (whole_row t b)
  equation_small b basic v d l =
      let inside : v < variables_of t + 1 = omega (arith, l, width_at t b) in
      subst (λ (x : ℤ). unsigned_abs x < WIDE) (sym (get_or_default (whole_row t b) v d (pos 0) l ∙ cell_at t b v inside))
      (⊎_elim
      (λ (f : v ≡ variables_of t). subst (λ (x : ℤ). unsigned_abs x < WIDE) (sym (ap (row_entry t b) f ∙ row_entry_last t b)) (equation_right b basic))
      (λ off. let within : v < variables_of t = omega (arith, inside, off) in
      subst (λ (x : ℤ). unsigned_abs x < WIDE) (sym (row_entry_inside t b v within)) (equation_entry b v basic within))
      (cases_eq v (variables_of t)))

  narrow_table : first_large_of (table_of t).rows ≡ None
  narrow_table = none_from_small_rows (table_of t).rows (λ i d l.
      let inside : i < length t.basis = omega (arith, l, height t) in
      subst (λ (row : List ℤ). All (λ x. unsigned_abs x < WIDE) row) (sym (get_or_default (table_of t).rows i d [] l ∙ row_at t i inside))
      (equation_small (get_or t.basis i 0) (record { within = is.basics i inside; no_column = λ j. is.basic_place i j inside })))

-- ---- a pivot at a row, whose basic variable's equation is kept in the slot k
module _ (s : Store) (r e j k m big : ℕ) (is : IsShort s) (sums : (v : ℕ) (p : Pair) → v < variables_of s → pair_of s v ≡ Some p → unsigned_abs p.sum ≤ m)
    (row : r < length s.basis) (within : e < variables_of s) (column : place_of s e ≡ Column j) (kept : place_of s (get_or s.basis r 0) ≡ Kept k) (nonzero : entry (table_of s) r e ≢ pos 0)
    (lead_bound : All (λ x. unsigned_abs x ≤ big) (short_row s k)) (lead_fits : big * (m + 1) < WIDE)
    (others : (l : ℕ) → l < length s.rows → l ≢ k → cell s l j ≢ pos 0 → All (λ x. (unsigned_abs (cell s k j) * unsigned_abs x + unsigned_abs (cell s l j) * big) * (m + 1) < WIDE) (short_row s l)) where
  abbrev b : ℕ
  b = get_or s.basis r 0

  abbrev lead : List ℤ
  lead = turned j (short_row s k)

  abbrev next : Store
  next = exchanged s r b e j lead (Some k)

  basic : IsBasic s b
  basic = record { within = is.store.basics r row; no_column = λ i. is.store.basic_place r i row }

  slot : k < length s.rows
  slot = is.store.kept b k basic.within kept

  inside : j < s.width
  inside = is.store.columns e j within column

  not_zero : entry_of s b e ≢ pos 0
  not_zero f = nonzero (entry_is s r e row within ∙ f)

  cell_nonzero : cell s k j ≢ pos 0
  cell_nonzero f = not_zero (ap (λ (x : Place). entry_by s b x e) kept ∙ ap (entry_at s k) column ∙ f)

  abbrev sign : ℤ
  sign = (kept_lead s b e j k is basic kept within column not_zero).0

  may : MayExchange s r b e j sign lead (Some k)
  may = record {
    row = row;
    basic = refl;
    entering = within;
    column = column;
    lead_is = (kept_lead s b e j k is basic kept within column not_zero).1;
    slot_is = inl (k, refl, kept);
  }

  lead_size : (i : ℕ) → unsigned_abs (get_or lead i (pos 0)) ≡ unsigned_abs (cell s k i)
  lead_size i = let by = turned_by j (short_row s k) cell_nonzero in by.1.sizes i

  lead_below : (i : ℕ) → i < s.width + 2 → unsigned_abs (get_or lead i (pos 0)) ≤ big
  lead_below i l = subst (λ (n : ℕ). n ≤ big) (sym (lead_size i)) (lead_bound i (pos 0) (omega (arith, l, is.store.widths k slot)))

  lead_part : (i : ℕ) → i < s.width + 2 → Fits m (get_or lead i (pos 0))
  lead_part i l = fits_below m big (get_or lead i (pos 0)) (lead_below i l) lead_fits

  -- the entering variable's own slot
  slot_fits : (i : ℕ) → i < s.width + 2 → Fits m (cell next k i)
  slot_fits i l = subst (Fits m) (sym (taken_cell s r b e j sign lead (Some k) is.store may k slot refl i)) (⊎_elim
      (λ (f : i ≡ j). subst (Fits m) (sym (ap (λ (x : ℕ). get_or (taken s.width j lead) x (pos 0)) f ∙ taken_column s.width j lead may.lead_is.width inside)) (lead_part s.width (omega arith)))
      (λ off. ⊎_elim
      (λ (f : i ≡ s.width). subst (Fits m) (sym (ap (λ (x : ℕ). get_or (taken s.width j lead) x (pos 0)) f ∙ taken_own s.width j lead may.lead_is.width inside)) (lead_part j (omega (arith, inside))))
      (λ away. subst (Fits m) (sym (taken_other s.width j lead may.lead_is.width inside i off away)) (lead_part i l))
      (cases_eq i s.width))
      (cases_eq i j))

  module _ (l : ℕ) (low : l < length s.rows) (apart : l ≢ k) where
    other_slot : Some k ≢ Some l
    other_slot f = let g : k ≡ l = cc in apart (sym g)

    long : length (short_row s l) ≡ s.width + 2
    long = is.store.widths l low

    abbrev bound : ℤ → ℕ
    bound x = unsigned_abs (cell s k j) * unsigned_abs x + unsigned_abs (cell s l j) * big

    -- before it is divided
    step : (x y : ℤ) → unsigned_abs y ≤ big → unsigned_abs (get_or lead j (pos 0) *ℤ x -ℤ cell s l j *ℤ y) ≤ bound x
    step x y h = subst (λ (n : ℕ). unsigned_abs (get_or lead j (pos 0) *ℤ x -ℤ cell s l j *ℤ y) ≤ n * unsigned_abs x + unsigned_abs (cell s l j) * big) (lead_size j) (combined (get_or lead j (pos 0)) x (cell s l j) y big h)

    none_below : (x : ℤ) → bound (pos 0) ≤ bound x
    none_below x = let n : unsigned_abs (cell s k j) * unsigned_abs (pos 0) ≤ unsigned_abs (cell s k j) * unsigned_abs x = mul-le-mul_left (unsigned_abs (cell s k j)) (omega (arith, ints)) in omega (arith, n)

    mix_below : (i : ℕ) → i < s.width + 2 → unsigned_abs (get_or (mix s.width j lead (short_row s l)) i (pos 0)) ≤ bound (cell s l i)
    mix_below i h = ⊎_elim
        (λ (f : i ≡ j).
        let first = step (pos 0) (get_or lead s.width (pos 0)) (lead_below s.width (omega arith)) in
        let more = none_below (cell s l i) in
        let e = ap (λ (x : ℕ). unsigned_abs (get_or (mix s.width j lead (short_row s l)) x (pos 0))) f ∙ ap unsigned_abs (mix_column s.width j lead (short_row s l) may.lead_is.width long inside) in
        subst (λ (n : ℕ). n ≤ bound (cell s l i)) (sym e) (omega (arith, first, more)))
        (λ off. ⊎_elim
        (λ (f : i ≡ s.width).
        let first = step (cell s l s.width) (pos 0) (omega (arith, ints)) in
        let e = ap (λ (x : ℕ). unsigned_abs (get_or (mix s.width j lead (short_row s l)) x (pos 0))) f ∙ ap unsigned_abs (mix_own s.width j lead (short_row s l) may.lead_is.width long inside) in
        subst (λ (n : ℕ). n ≤ bound (cell s l i)) (sym e) (subst (λ (x : ℕ). unsigned_abs (get_or lead j (pos 0) *ℤ cell s l s.width -ℤ cell s l j *ℤ pos 0) ≤ bound (cell s l x)) (sym f) first))
        (λ away. subst (λ (x : ℤ). unsigned_abs x ≤ bound (cell s l i)) (sym (mix_other s.width j lead (short_row s l) may.lead_is.width long inside i h off away)) (step (cell s l i) (get_or lead i (pos 0)) (lead_below i h)))
        (cases_eq i s.width))
        (cases_eq i j)

    other_fits : cell s l j ≢ pos 0 → (i : ℕ) → i < s.width + 2 → Fits m (cell next l i)
    other_fits there i h =
        let above = divisor_above s.width j lead (short_row s l) may.lead_is.width long inside may.lead_is.positive (is.store.positive l low) in
        let less = divided (row_gcd (mix s.width j lead (short_row s l))) (cell next l i) (get_or (mix s.width j lead (short_row s l)) i (pos 0)) above (cell_now s r b e j sign lead (Some k) is.store may l low other_slot i h) in
        let below = mix_below i h in
        fits_below m (bound (cell s l i)) (cell next l i) (omega (arith, less, below)) (others l low apart there i (pos 0) (omega (arith, h, long)))

    stays : cell s l j ≡ pos 0 → short_row next l ≡ short_row s l
    stays none = short_other s r b e j sign lead (Some k) is.store may l low other_slot
        ∙ sym (cleared_none j (get_or lead j (pos 0)) (moved s.width j lead) (short_row s l) (moved_width s.width j lead may.lead_is.width inside ∙ sym long) may.lead_is.positive none (is.store.primitive l low))

  -- what a slot keeps next fits, or is what it keeps
  kinds : (l : ℕ) → l < length s.rows → ((i : ℕ) → i < s.width + 2 → Fits m (cell next l i)) ⊎ ((l ≢ k) × (short_row next l ≡ short_row s l))
  kinds l low = ⊎_elim
      (λ (f : l ≡ k). inl (λ i h. subst (λ (x : ℕ). Fits m (cell next x i)) (sym f) (slot_fits i h)))
      (λ apart. ⊎_elim (λ none. inr (apart, stays l low apart none)) (λ there. inl (other_fits l low apart there)) (zero_or_not (cell s l j)))
      (cases_eq l k)
    where
      zero_or_not : (x : ℤ) → (x ≡ pos 0) ⊎ (x ≢ pos 0)
      zero_or_not x = ⊎_elim
          (λ (f : unsigned_abs x ≡ 0). inl (omega (arith, ints, f)))
          (λ off. inr (λ g. off (ap unsigned_abs g)))
          (cases_eq (unsigned_abs x) 0)

  next_store : IsStore next
  next_store = exchanged_store s r b e j sign lead (Some k) is.store may

  next_low : (l : ℕ) → l < length next.rows → l < length s.rows
  next_low l h = omega (arith, h, (swap s r b e j sign lead (Some k) is.store may).slots)

  next_slots : (l i : ℕ) → l < length next.rows → i < s.width + 2 → unsigned_abs (cell next l i) < WIDE
  next_slots l i h inside = ⊎_elim
      (λ fits. fits_small m (cell next l i) (fits i inside))
      (λ same. subst (λ (xs : List ℤ). unsigned_abs (get_or xs i (pos 0)) < WIDE) (sym same.1) (cell_small s l i is (next_low l h) inside))
      (kinds l (next_low l h))

  next_within : (v : ℕ) → v < variables_of next → v < variables_of s
  next_within v h = omega (arith, h, (swap s r b e j sign lead (Some k) is.store may).variables)

  next_mirrors : (v : ℕ) (p : Pair) (l : ℕ) → v < variables_of next → place_of next v ≡ Paired → pair_of next v ≡ Some p → place_of next p.other ≡ Kept l → unsigned_abs (own next l *ℤ p.sum -ℤ kept_right next l) < WIDE
  next_mirrors v p l h paired pair other = ⊎_elim
      (λ fits. mirror_fits m (own next l) (kept_right next l) p.sum (fits s.width (omega arith)) (fits (s.width + 1) (omega arith)) (sums v p (next_within v h) pair))
      (λ same. subst (λ (xs : List ℤ). unsigned_abs (get_or xs s.width (pos 0) *ℤ p.sum -ℤ get_or xs (s.width + 1) (pos 0)) < WIDE) (sym same.1) (before same.0))
      (kinds l (next_low l (next_store.kept p.other l (next_store.pairs v p h pair).0 other)))
    where
      swapped_by : IsSwap s next r b e j
      swapped_by = swap s r b e j sign lead (Some k) is.store may

      before : l ≢ k → unsigned_abs (own s l *ℤ p.sum -ℤ kept_right s l) < WIDE
      before apart =
          let paired_before : place_of s v ≡ Paired = sym (swapped_by.other_place v
          (λ f. let g : Column j ≡ Paired = sym swapped_by.leaving_place ∙ ap (place_of next) (sym f) ∙ paired in cc)
          (λ f. let g : Kept k ≡ Paired = sym (swapped_by.entering_place ∙ kept) ∙ ap (place_of next) (sym f) ∙ paired in cc)) ∙ paired in
          let kept_before : place_of s p.other ≡ Kept l = sym (swapped_by.other_place p.other
          (λ f. let g : Column j ≡ Kept l = sym swapped_by.leaving_place ∙ ap (place_of next) (sym f) ∙ other in cc)
          (λ f. let g : Kept k ≡ Kept l = sym (swapped_by.entering_place ∙ kept) ∙ ap (place_of next) (sym f) ∙ other in let n : k ≡ l = cc in apart (sym n))) ∙ other in
          let was_basic : IsBasic s v = record { within = next_within v h; no_column = λ i f. let g : Column i ≡ Paired = sym f ∙ paired_before in cc } in
          subst (λ (x : ℤ). unsigned_abs x < WIDE) (mirror_right s v p is was_basic paired_before pair l kept_before) (right_small s v is was_basic)

  -- so the next form has no large entry
  pub bounded_narrow : first_large_of (next_form (table_of s) r e).rows ≡ None
  bounded_narrow =
      ap (λ (t : Table). first_large_of t.rows) (exchanged_is_next s r b e j sign lead (Some k) is.store may is.form not_zero)
      ∙ (narrow_table next next_store next_slots (λ v p h pair. sum_small s v p is (next_within v h) pair) next_mirrors)
