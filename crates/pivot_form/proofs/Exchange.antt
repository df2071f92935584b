-- A pivot of what is kept makes what is kept of the next form.
use Rattle.std.proofs.Common.{ℕ, ◌≡◌, ◌≢◌, ◌<◌, ◌+◌, arith, refl, ap, sym, ◌∙◌, ◌⊎◌, ⊎_elim, subst, inl, inr, List, [], length, get_or, set, Some, None, Option, true, false}
use Rattle.std.specs.Prelude.{ℤ, pos, negsuc, ◌*ℤ◌, ◌-ℤ◌, ◌<ℤ◌, unsigned_abs}
use Prim.Native.Nat.{◌∣◌}
use Rattle.std.proofs.lemmas.Int.{ints}
use Rattle.std.proofs.lemmas.Bool.{cases_eq, cases_lt}
use Rattle.std.proofs.lemmas.Bool.Decides.{nat_tests}
use Rattle.std.proofs.lemmas.List.{get_or-set_other, get_or-set_same, length-set, length-map, get_or_default}
use Rattle.exact_num.specs.Divisors.{IsPrimitive, row_gcd}
use Rattle.exact_num.proofs.Divisors.{primitive_entry, primitive_lowest, zero_fold}
use Rattle.exact_num.proofs.Ring.{leaf, times, minus, same}
use Rattle.row_program.specs.Sums.{sum_from}
use Rattle.row_program.specs.Forms.{tableau, entry, combination, next_form, Holds}
use Rattle.pivot_form.specs.Invariant.{IsForm}
use Rattle.pivot_form.specs.declared.places.Pair.{Pair}
use Rattle.pivot_form.specs.declared.places.Place.{Place}
use Rattle.pivot_form.specs.declared.places.Place.TheVariants.{Column, Kept, Paired}
use Rattle.pivot_form.specs.Kept.{Store, IsStore, variables_of, place_of, pair_of, cell, own, kept_right, short_row, entry_at, kept_entry, entry_by, entry_of, right_by, right_of, table_of, moved, cleared, taken, is_slot, next_short, exchanged}
use Rattle.pivot_form.proofs.Sums.{cancel, positive_factor, positive_product, sum_from-combine, sum_from-same, sum_from-scale, zero_times}
use Rattle.pivot_form.proofs.Equations.{get_or-combination, length-combination, get_or-map_from, length-map_from}
use Rattle.pivot_form.proofs.NextForm.{reduced_next, solutions_kept, solved_next}
use Rattle.pivot_form.proofs.Unique.{forms_are_one}
use Rattle.pivot_form.proofs.Whole.{entry_is, kept_own, other_clear, height}
use Rattle.pivot_form.proofs.Solutions.{HoldsKept, HoldsOf, holds_kept, kept_holds, row_holds}
use Rattle.pivot_form.proofs.Lowest.{store_reduced, store_shaped}
use Rattle.pivot_form.proofs.Swaps.{IsSwap, swapped}

-- the lead is the equation of b times a sign, and positive in the column j
pub record IsLead (s : Store) (b j : ℕ) (sign : ℤ) (lead : List ℤ) : Type 0 where
  pub sign_is : (sign ≡ pos 1) ⊎ (sign ≡ negsuc 0)
  pub width : length lead ≡ s.width + 2
  pub columns : (v i : ℕ) → v < variables_of s → place_of s v ≡ Column i → get_or lead i (pos 0) ≡ sign *ℤ entry_of s b v
  pub own_is : get_or lead s.width (pos 0) ≡ sign *ℤ entry_of s b b
  pub right : get_or lead (s.width + 1) (pos 0) ≡ sign *ℤ right_of s b
  pub positive : pos 0 <ℤ get_or lead j (pos 0)

-- ---- the moved lead and what is made with it
module _ (w j : ℕ) (lead : List ℤ) (wide : length lead ≡ w + 2) (inside : j < w) where
  pub moved_width : length (moved w j lead) ≡ w + 2
  moved_width = length-set _ w (pos 0) ∙ length-set lead j _ ∙ wide

  moved_column : get_or (moved w j lead) j (pos 0) ≡ get_or lead w (pos 0)
  moved_column = get_or-set_other _ w j (pos 0) (pos 0) (λ e. omega (arith, e, inside)) ∙ get_or-set_same lead j _ (pos 0) (omega (arith, wide, inside))

  moved_own : get_or (moved w j lead) w (pos 0) ≡ pos 0
  moved_own = get_or-set_same (set lead j (get_or lead w (pos 0))) w (pos 0) (pos 0) (omega (arith, length-set lead j (get_or lead w (pos 0)), wide))

  moved_other : (i : ℕ) → i ≢ j → i ≢ w → get_or (moved w j lead) i (pos 0) ≡ get_or lead i (pos 0)
  moved_other i off away = get_or-set_other _ w i (pos 0) (pos 0) away ∙ get_or-set_other lead j i _ (pos 0) off

  taken_width : length (taken w j lead) ≡ w + 2
  taken_width = length-set _ w _ ∙ moved_width

  pub taken_own : get_or (taken w j lead) w (pos 0) ≡ get_or lead j (pos 0)
  taken_own = get_or-set_same (moved w j lead) w _ (pos 0) (omega (arith, moved_width))

  pub taken_column : get_or (taken w j lead) j (pos 0) ≡ get_or lead w (pos 0)
  taken_column = get_or-set_other (moved w j lead) w j _ (pos 0) (λ e. omega (arith, e, inside)) ∙ moved_column

  pub taken_other : (i : ℕ) → i ≢ j → i ≢ w → get_or (taken w j lead) i (pos 0) ≡ get_or lead i (pos 0)
  taken_other i off away = get_or-set_other (moved w j lead) w i _ (pos 0) away ∙ moved_other i off away

-- a slot's row before it is divided
abbrev pub mix : ℕ → ℕ → List ℤ → List ℤ → List ℤ
mix w j lead row = combination (get_or lead j (pos 0)) (set row j (pos 0)) (get_or row j (pos 0)) (moved w j lead)

module _ (w j : ℕ) (lead row : List ℤ) (wide : length lead ≡ w + 2) (long : length row ≡ w + 2) (inside : j < w) where
  same_width : length (moved w j lead) ≡ length (set row j (pos 0))
  same_width = moved_width w j lead wide inside ∙ sym long ∙ sym (length-set row j (pos 0))

  mix_width : length (mix w j lead row) ≡ w + 2
  mix_width = length-combination _ _ (set row j (pos 0)) (moved w j lead) same_width ∙ length-set row j (pos 0) ∙ long

  mix_at : (i : ℕ) → i < w + 2 → get_or (mix w j lead row) i (pos 0) ≡ get_or lead j (pos 0) *ℤ get_or (set row j (pos 0)) i (pos 0) -ℤ get_or row j (pos 0) *ℤ get_or (moved w j lead) i (pos 0)
  mix_at i l = get_or-combination _ _ (set row j (pos 0)) (moved w j lead) i (pos 0) same_width (omega (arith, l, long, length-set row j (pos 0)))

  pub mix_column : get_or (mix w j lead row) j (pos 0) ≡ get_or lead j (pos 0) *ℤ pos 0 -ℤ get_or row j (pos 0) *ℤ get_or lead w (pos 0)
  mix_column = mix_at j (omega (arith, inside))
      ∙ ap (λ (x : ℤ). get_or lead j (pos 0) *ℤ x -ℤ get_or row j (pos 0) *ℤ get_or (moved w j lead) j (pos 0)) (get_or-set_same row j (pos 0) (pos 0) (omega (arith, inside, long)))
      ∙ ap (λ (x : ℤ). get_or lead j (pos 0) *ℤ pos 0 -ℤ get_or row j (pos 0) *ℤ x) (moved_column w j lead wide inside)

  pub mix_own : get_or (mix w j lead row) w (pos 0) ≡ get_or lead j (pos 0) *ℤ get_or row w (pos 0) -ℤ get_or row j (pos 0) *ℤ pos 0
  mix_own = mix_at w (omega arith)
      ∙ ap (λ (x : ℤ). get_or lead j (pos 0) *ℤ x -ℤ get_or row j (pos 0) *ℤ get_or (moved w j lead) w (pos 0)) (get_or-set_other row j w (pos 0) (pos 0) (λ e. omega (arith, e, inside)))
      ∙ ap (λ (x : ℤ). get_or lead j (pos 0) *ℤ get_or row w (pos 0) -ℤ get_or row j (pos 0) *ℤ x) (moved_own w j lead wide inside)

  pub mix_other : (i : ℕ) → i < w + 2 → i ≢ j → i ≢ w → get_or (mix w j lead row) i (pos 0) ≡ get_or lead j (pos 0) *ℤ get_or row i (pos 0) -ℤ get_or row j (pos 0) *ℤ get_or lead i (pos 0)
  mix_other i l off away = mix_at i l
      ∙ ap (λ (x : ℤ). get_or lead j (pos 0) *ℤ x -ℤ get_or row j (pos 0) *ℤ get_or (moved w j lead) i (pos 0)) (get_or-set_other row j i (pos 0) (pos 0) off)
      ∙ ap (λ (x : ℤ). get_or lead j (pos 0) *ℤ get_or row i (pos 0) -ℤ get_or row j (pos 0) *ℤ x) (moved_other w j lead wide inside i off away)

  module _ (above : pos 0 <ℤ get_or lead j (pos 0)) (mine : pos 0 <ℤ get_or row w (pos 0)) where
    own_above : pos 0 <ℤ get_or (mix w j lead row) w (pos 0)
    own_above = let product = positive_product (get_or lead j (pos 0)) (get_or row w (pos 0)) above mine in omega (arith, ints, product, mix_own)

    pub divisor_above : 0 < row_gcd (mix w j lead row)
    divisor_above = ⊎_elim
        (λ (none : row_gcd (mix w j lead row) ≡ 0). let all = zero_fold 0 (mix w j lead row) none in
        let gone : get_or (mix w j lead row) w (pos 0) ≡ pos 0 = all.1 w (pos 0) (omega (arith, mix_width)) in absurd (omega (arith, ints, gone, own_above)))
        (λ some. omega (arith, some))
        (cases_eq (row_gcd (mix w j lead row)) 0)

    pub cleared_width : length (cleared w j lead row) ≡ w + 2
    cleared_width = length-map (mix w j lead row) _ ∙ mix_width

    pub cleared_lowest : IsPrimitive (cleared w j lead row)
    cleared_lowest = primitive_lowest (mix w j lead row) divisor_above

    -- the divisor times what is kept
    pub cleared_at : (i : ℕ) → i < w + 2 → pos (row_gcd (mix w j lead row)) *ℤ get_or (cleared w j lead row) i (pos 0) ≡ get_or (mix w j lead row) i (pos 0)
    cleared_at i l = same (times (leaf (pos (row_gcd (mix w j lead row)))) (leaf (get_or (cleared w j lead row) i (pos 0)))) (times (leaf (get_or (cleared w j lead row) i (pos 0))) (leaf (pos (row_gcd (mix w j lead row))))) (omega arith)
        ∙ primitive_entry (mix w j lead row) i (pos 0) (omega (arith, l, mix_width))

    pub cleared_own : pos 0 <ℤ get_or (cleared w j lead row) w (pos 0)
    cleared_own = let e = cleared_at w (omega arith) in
        positive_factor (pos (row_gcd (mix w j lead row))) (get_or (cleared w j lead row) w (pos 0)) (omega (arith, ints, divisor_above)) (omega (arith, ints, own_above, e))

-- ---- the slots after the exchange
slot_row : (width j : ℕ) (lead : List ℤ) (slot : Option ℕ) (k l : ℕ) (row : List ℤ) → slot ≡ Some l → l ≡ k → next_short width j lead slot k row ≡ taken width j lead
slot_row width j lead slot k l row e f = let g : is_slot slot k ≡ true = ap (λ (x : Option ℕ). is_slot x k) e ∙ (grind (arith, nat_tests)) in rw g refl

other_row : (width j : ℕ) (lead : List ℤ) (slot : Option ℕ) (k : ℕ) (row : List ℤ) → slot ≢ Some k → next_short width j lead slot k row ≡ cleared width j lead row
other_row width j lead None k row apart = refl
other_row width j lead (Some l) k row apart =
    ⊎_elim
    (λ (e : l ≡ k). absurd (apart (ap Some e)))
    (λ off. let g : is_slot (Some l) k ≡ false = grind (arith, nat_tests) in rw g refl)
    (cases_eq l k)

-- what holds where a basic and a nonbasic variable may change places
pub record MayExchange (s : Store) (r b e j : ℕ) (sign : ℤ) (lead : List ℤ) (slot : Option ℕ) : Type 0 where
  pub row : r < length s.basis
  pub basic : get_or s.basis r 0 ≡ b
  pub entering : e < variables_of s
  pub column : place_of s e ≡ Column j
  pub lead_is : IsLead s b j sign lead
  -- the leaving variable's equation is kept in its slot, or is the pair's, and then the other one of the pair enters
  pub slot_is : ((k : ℕ) × (slot ≡ Some k) × (place_of s b ≡ Kept k)) ⊎ ((slot ≡ None) × (place_of s b ≡ Paired) × ((p : Pair) × (pair_of s b ≡ Some p) × (p.other ≡ e)))

column_paired : (j : ℕ) → Column j ≡ Paired → ⊥
column_paired j e = cc

column_kept : (j k : ℕ) → Column j ≡ Kept k → ⊥
column_kept j k e = cc

none_some : (k : ℕ) → None ≡ Some k → ⊥
none_some k e = cc

some_or_not : (x : Option ℕ) (k : ℕ) → (x ≡ Some k) ⊎ (x ≢ Some k)
some_or_not None k = inr (λ q. none_some k q)
some_or_not (Some l) k = ⊎_elim (λ (f : l ≡ k). inl (ap Some f)) (λ off. inr (λ q. let f : l ≡ k = cc in off f)) (cases_eq l k)

spread : (g x p a q b y : ℤ) → g *ℤ x ≡ p *ℤ a -ℤ q *ℤ b → g *ℤ (x *ℤ y) ≡ p *ℤ (a *ℤ y) -ℤ q *ℤ (b *ℤ y)
spread g x p a q b y e =
    let P = leaf p in let A = leaf a in let Q = leaf q in let B = leaf b in let Y = leaf y in
    same (times (leaf g) (times (leaf x) Y)) (times (times (leaf g) (leaf x)) Y) (omega arith)
    ∙ ap (λ (w : ℤ). w *ℤ y) e
    ∙ same (times (minus (times P A) (times Q B)) Y) (minus (times P (times A Y)) (times Q (times B Y))) (omega arith)

-- an entry that a slot doesn't keep
pub not_kept : (s : Store) (k : ℕ) (p : Place) → p ≢ Kept k → ((j : ℕ) → p ≢ Column j) → entry_at s k p ≡ pos 0
not_kept s k (Column j) apart no_column = absurd (no_column j refl)
not_kept s k (Kept l) apart no_column =
    ⊎_elim (λ (e : l ≡ k). absurd (apart (ap Kept e))) (λ off. grind (arith, nat_tests)) (cases_eq l k)
not_kept s k Paired apart no_column = refl

module _ (s : Store) (r b e j : ℕ) (sign : ℤ) (lead : List ℤ) (slot : Option ℕ) (is : IsStore s) (may : MayExchange s r b e j sign lead slot) where
  leaving : b < variables_of s
  leaving = subst (λ (x : ℕ). x < variables_of s) may.basic (is.basics r may.row)

  no_column : (i : ℕ) → place_of s b ≢ Column i
  no_column i q = is.basic_place r i may.row (ap (place_of s) may.basic ∙ q)

  apart : b ≢ e
  apart f = no_column j (ap (place_of s) f ∙ may.column)

  inside : j < s.width
  inside = is.columns e j may.entering may.column

  pub swap : IsSwap s (exchanged s r b e j lead slot) r b e j
  swap = record {
    row = may.row;
    basic = may.basic;
    entering = may.entering;
    column = may.column;
    width = refl;
    variables = length-set (set s.places b (Column j)) e (place_of s b) ∙ length-set s.places b (Column j);
    basis = refl;
    leaving_place = get_or-set_other (set s.places b (Column j)) e b (place_of s b) Paired apart ∙ get_or-set_same s.places b (Column j) Paired leaving;
    entering_place = get_or-set_same (set s.places b (Column j)) e (place_of s b) Paired (omega (arith, may.entering, length-set s.places b (Column j)));
    other_place = λ v off away. get_or-set_other (set s.places b (Column j)) e v (place_of s b) Paired away ∙ get_or-set_other s.places b v (Column j) Paired off;
    pairs = refl;
    slots = length-map_from (next_short s.width j lead slot) 0 s.rows;
    may = ⊎_elim
        (λ (kept : (k : ℕ) × (slot ≡ Some k) × (place_of s b ≡ Kept k)). inl (λ q. kept_paired kept.0 (sym kept.2 ∙ q)))
        (λ paired. inr paired.2)
        may.slot_is;
  }
    where
      kept_paired : (k : ℕ) → Kept k ≡ Paired → ⊥
      kept_paired k q = cc

  -- the lead as a function of variables
  abbrev lead_at : ℕ → ℤ
  lead_at v = sign *ℤ entry_of s b v

  abbrev last : ℤ
  last = sign *ℤ right_of s b

  lead_entering : lead_at e ≡ get_or lead j (pos 0)
  lead_entering = sym (may.lead_is.columns e j may.entering may.column)

  lead_none : (v : ℕ) → v < variables_of s → v ≢ b → ((i : ℕ) → place_of s v ≢ Column i) → lead_at v ≡ pos 0
  lead_none v l off away = zero_times sign (entry_of s b v) (other_clear s b v is leaving l off no_column away)

  short_slot : (k : ℕ) → k < length s.rows → slot ≡ Some k → short_row (exchanged s r b e j lead slot) k ≡ taken s.width j lead
  short_slot k l q = get_or-map_from (next_short s.width j lead slot) 0 s.rows k k [] l (omega arith) ∙ slot_row s.width j lead slot k k (short_row s k) q refl

  pub short_other : (k : ℕ) → k < length s.rows → slot ≢ Some k → short_row (exchanged s r b e j lead slot) k ≡ cleared s.width j lead (short_row s k)
  short_other k l q = get_or-map_from (next_short s.width j lead slot) 0 s.rows k k [] l (omega arith) ∙ other_row s.width j lead slot k (short_row s k) q

  -- which slot the leaving variable has
  not_leaving : (k : ℕ) → slot ≢ Some k → place_of s b ≢ Kept k
  not_leaving k q f = ⊎_elim
      (λ (kept : (l : ℕ) × (slot ≡ Some l) × (place_of s b ≡ Kept l)). let g : Kept kept.0 ≡ Kept k = sym kept.2 ∙ f in let h : kept.0 ≡ k = cc in q (kept.1 ∙ ap Some h))
      (λ paired. let g : Paired ≡ Kept k = sym paired.1 ∙ f in cc)
      may.slot_is

  its_slot : (k : ℕ) → slot ≡ Some k → place_of s b ≡ Kept k
  its_slot k q = ⊎_elim
      (λ (kept : (l : ℕ) × (slot ≡ Some l) × (place_of s b ≡ Kept l)). let g : Some kept.0 ≡ Some k = sym kept.1 ∙ q in let h : kept.0 ≡ k = cc in kept.2 ∙ ap Kept h)
      (λ paired. absurd (none_some k (sym paired.0 ∙ q)))
      may.slot_is

  -- ---- another slot
  module _ (k : ℕ) (slot_within : k < length s.rows) (other : slot ≢ Some k) where
    abbrev row : List ℤ
    row = short_row s k

    abbrev divisor : ℤ
    divisor = pos (row_gcd (mix s.width j lead (short_row s k)))

    long : length (short_row s k) ≡ s.width + 2
    long = is.widths k slot_within

    divisor_positive : pos 0 <ℤ divisor
    divisor_positive = let d = divisor_above s.width j lead (short_row s k) may.lead_is.width long inside may.lead_is.positive (is.positive k slot_within) in omega (arith, ints, d)

    pub cell_now : (i : ℕ) → i < s.width + 2 → divisor *ℤ cell (exchanged s r b e j lead slot) k i ≡ get_or (mix s.width j lead (short_row s k)) i (pos 0)
    cell_now i l = ap (λ (xs : List ℤ). divisor *ℤ get_or xs i (pos 0)) (short_other k slot_within other)
        ∙ cleared_at s.width j lead (short_row s k) may.lead_is.width long inside may.lead_is.positive (is.positive k slot_within) i l

    entering_cell : kept_entry s k e ≡ cell s k j
    entering_cell = ap (entry_at s k) may.column

    leaving_none : kept_entry s k b ≡ pos 0
    leaving_none = not_kept s k (place_of s b) (not_leaving k other) no_column

    at_leaving : divisor *ℤ kept_entry (exchanged s r b e j lead slot) k b ≡ get_or lead j (pos 0) *ℤ kept_entry s k b -ℤ kept_entry s k e *ℤ lead_at b
    at_leaving =
        ap (λ (p : Place). divisor *ℤ entry_at (exchanged s r b e j lead slot) k p) swap.leaving_place
        ∙ cell_now j (omega (arith, inside))
        ∙ mix_column s.width j lead (short_row s k) may.lead_is.width long inside
        ∙ ap (λ (x : ℤ). get_or lead j (pos 0) *ℤ pos 0 -ℤ cell s k j *ℤ x) may.lead_is.own_is
        ∙ ap (λ (x : ℤ). get_or lead j (pos 0) *ℤ x -ℤ cell s k j *ℤ lead_at b) (sym leaving_none)
        ∙ ap (λ (x : ℤ). get_or lead j (pos 0) *ℤ kept_entry s k b -ℤ x *ℤ lead_at b) (sym entering_cell)

    at_entering : divisor *ℤ kept_entry (exchanged s r b e j lead slot) k e ≡ get_or lead j (pos 0) *ℤ kept_entry s k e -ℤ kept_entry s k e *ℤ lead_at e
    at_entering =
        zero_times divisor (kept_entry (exchanged s r b e j lead slot) k e)
        (ap (entry_at (exchanged s r b e j lead slot) k) swap.entering_place ∙ not_kept (exchanged s r b e j lead slot) k (place_of s b) (not_leaving k other) no_column)
        ∙ same (leaf (pos 0)) (minus (times (leaf (get_or lead j (pos 0))) (leaf (kept_entry s k e))) (times (leaf (kept_entry s k e)) (leaf (get_or lead j (pos 0))))) (omega arith)
        ∙ ap (λ (x : ℤ). get_or lead j (pos 0) *ℤ kept_entry s k e -ℤ kept_entry s k e *ℤ x) (sym lead_entering)

    all_none : (v : ℕ) → kept_entry (exchanged s r b e j lead slot) k v ≡ pos 0 → kept_entry s k v ≡ pos 0 → lead_at v ≡ pos 0
        → divisor *ℤ kept_entry (exchanged s r b e j lead slot) k v ≡ get_or lead j (pos 0) *ℤ kept_entry s k v -ℤ kept_entry s k e *ℤ lead_at v
    all_none v new old none =
        zero_times divisor (kept_entry (exchanged s r b e j lead slot) k v) new
        ∙ same (leaf (pos 0)) (minus (times (leaf (get_or lead j (pos 0))) (leaf (pos 0))) (times (leaf (kept_entry s k e)) (leaf (pos 0)))) (omega arith)
        ∙ ap (λ (x : ℤ). get_or lead j (pos 0) *ℤ x -ℤ kept_entry s k e *ℤ pos 0) (sym old)
        ∙ ap (λ (x : ℤ). get_or lead j (pos 0) *ℤ kept_entry s k v -ℤ kept_entry s k e *ℤ x) (sym none)

    at_place : (v : ℕ) → v < variables_of s → v ≢ b → v ≢ e → (q : Place) → place_of s v ≡ q
        → divisor *ℤ kept_entry (exchanged s r b e j lead slot) k v ≡ get_or lead j (pos 0) *ℤ kept_entry s k v -ℤ kept_entry s k e *ℤ lead_at v
    at_place v l off away (Column i) q =
        let within = is.columns v i l q in
        ap (λ (p : Place). divisor *ℤ entry_at (exchanged s r b e j lead slot) k p) (swap.other_place v off away ∙ q)
        ∙ cell_now i (omega (arith, within))
        ∙ mix_other s.width j lead (short_row s k) may.lead_is.width long inside i (omega (arith, within)) (λ f. away (is.one_column v e j l may.entering (q ∙ ap Column f) may.column)) (λ f. omega (arith, f, within))
        ∙ ap (λ (x : ℤ). get_or lead j (pos 0) *ℤ cell s k i -ℤ cell s k j *ℤ x) (may.lead_is.columns v i l q)
        ∙ ap (λ (x : ℤ). get_or lead j (pos 0) *ℤ x -ℤ cell s k j *ℤ lead_at v) (sym (ap (entry_at s k) q))
        ∙ ap (λ (x : ℤ). get_or lead j (pos 0) *ℤ kept_entry s k v -ℤ x *ℤ lead_at v) (sym entering_cell)
    at_place v l off away (Kept m) q =
        let none = lead_none v l off (λ i f. column_kept i m (sym f ∙ q)) in
        ⊎_elim
        (λ (f : m ≡ k).
        let mine : place_of s v ≡ Kept k = q ∙ ap Kept f in
        let now : kept_entry (exchanged s r b e j lead slot) k v ≡ own (exchanged s r b e j lead slot) k = kept_own (exchanged s r b e j lead slot) k v (swap.other_place v off away ∙ mine) in
        ap (λ (x : ℤ). divisor *ℤ x) now
        ∙ cell_now s.width (omega arith)
        ∙ mix_own s.width j lead (short_row s k) may.lead_is.width long inside
        ∙ same (minus (times (leaf (get_or lead j (pos 0))) (leaf (own s k))) (times (leaf (cell s k j)) (leaf (pos 0)))) (minus (times (leaf (get_or lead j (pos 0))) (leaf (own s k))) (times (leaf (kept_entry s k e)) (leaf (pos 0)))) (omega arith)
        ∙ ap (λ (x : ℤ). get_or lead j (pos 0) *ℤ x -ℤ kept_entry s k e *ℤ pos 0) (sym (kept_own s k v mine))
        ∙ ap (λ (x : ℤ). get_or lead j (pos 0) *ℤ kept_entry s k v -ℤ kept_entry s k e *ℤ x) (sym none))
        (λ apart'. all_none v
        (ap (entry_at (exchanged s r b e j lead slot) k) (swap.other_place v off away ∙ q) ∙ not_kept (exchanged s r b e j lead slot) k (Kept m) (λ f. let g : m ≡ k = cc in apart' g) (λ i f. column_kept i m (sym f)))
        (ap (entry_at s k) q ∙ not_kept s k (Kept m) (λ f. let g : m ≡ k = cc in apart' g) (λ i f. column_kept i m (sym f)))
        none)
        (cases_eq m k)
    at_place v l off away Paired q =
        all_none v (ap (entry_at (exchanged s r b e j lead slot) k) (swap.other_place v off away ∙ q)) (ap (entry_at s k) q) (lead_none v l off (λ i f. column_paired i (sym f ∙ q)))

    pub other_entry : (v : ℕ) → v < variables_of s → divisor *ℤ kept_entry (exchanged s r b e j lead slot) k v ≡ get_or lead j (pos 0) *ℤ kept_entry s k v -ℤ kept_entry s k e *ℤ lead_at v
    other_entry v l =
        ⊎_elim
        (λ (f : v ≡ b). subst (λ (x : ℕ). divisor *ℤ kept_entry (exchanged s r b e j lead slot) k x ≡ get_or lead j (pos 0) *ℤ kept_entry s k x -ℤ kept_entry s k e *ℤ lead_at x) (sym f) at_leaving)
        (λ off. ⊎_elim
        (λ (f : v ≡ e). subst (λ (x : ℕ). divisor *ℤ kept_entry (exchanged s r b e j lead slot) k x ≡ get_or lead j (pos 0) *ℤ kept_entry s k x -ℤ kept_entry s k e *ℤ lead_at x) (sym f) at_entering)
        (λ away. at_place v l off away (place_of s v) refl)
        (cases_eq v e))
        (cases_eq v b)

    pub other_right : divisor *ℤ kept_right (exchanged s r b e j lead slot) k ≡ get_or lead j (pos 0) *ℤ kept_right s k -ℤ kept_entry s k e *ℤ last
    other_right =
        cell_now (s.width + 1) (omega arith)
        ∙ mix_other s.width j lead (short_row s k) may.lead_is.width long inside (s.width + 1) (omega arith) (λ f. omega (arith, f, inside)) (λ f. omega (arith, f))
        ∙ ap (λ (x : ℤ). get_or lead j (pos 0) *ℤ kept_right s k -ℤ cell s k j *ℤ x) may.lead_is.right
        ∙ ap (λ (x : ℤ). get_or lead j (pos 0) *ℤ kept_right s k -ℤ x *ℤ last) (sym entering_cell)

  -- ---- the entering variable's slot
  module _ (k : ℕ) (slot_within : k < length s.rows) (mine : slot ≡ Some k) where
    pub taken_cell : (i : ℕ) → cell (exchanged s r b e j lead slot) k i ≡ get_or (taken s.width j lead) i (pos 0)
    taken_cell i = ap (λ (xs : List ℤ). get_or xs i (pos 0)) (short_slot k slot_within mine)

    slot_place : (v : ℕ) → v < variables_of s → v ≢ b → v ≢ e → (q : Place) → place_of s v ≡ q → kept_entry (exchanged s r b e j lead slot) k v ≡ lead_at v
    slot_place v l off away (Column i) q =
        let within = is.columns v i l q in
        ap (entry_at (exchanged s r b e j lead slot) k) (swap.other_place v off away ∙ q)
        ∙ taken_cell i
        ∙ taken_other s.width j lead may.lead_is.width inside i (λ f. away (is.one_column v e j l may.entering (q ∙ ap Column f) may.column)) (λ f. omega (arith, f, within))
        ∙ may.lead_is.columns v i l q
    slot_place v l off away (Kept m) q =
        ap (entry_at (exchanged s r b e j lead slot) k) (swap.other_place v off away ∙ q)
        ∙ not_kept (exchanged s r b e j lead slot) k (Kept m) (λ f. off (is.one_kept v b k l leaving (q ∙ f) (its_slot k mine))) (λ i f. column_kept i m (sym f))
        ∙ sym (lead_none v l off (λ i f. column_kept i m (sym f ∙ q)))
    slot_place v l off away Paired q =
        ap (entry_at (exchanged s r b e j lead slot) k) (swap.other_place v off away ∙ q)
        ∙ sym (lead_none v l off (λ i f. column_paired i (sym f ∙ q)))

    pub slot_entry : (v : ℕ) → v < variables_of s → kept_entry (exchanged s r b e j lead slot) k v ≡ lead_at v
    slot_entry v l =
        ⊎_elim
        (λ (f : v ≡ b). ap (λ (x : ℕ). kept_entry (exchanged s r b e j lead slot) k x) f ∙ ap (entry_at (exchanged s r b e j lead slot) k) swap.leaving_place ∙ taken_cell j
        ∙ taken_column s.width j lead may.lead_is.width inside ∙ may.lead_is.own_is ∙ ap lead_at (sym f))
        (λ off. ⊎_elim
        (λ (f : v ≡ e). ap (λ (x : ℕ). kept_entry (exchanged s r b e j lead slot) k x) f ∙ kept_own (exchanged s r b e j lead slot) k e (swap.entering_place ∙ its_slot k mine)
        ∙ taken_cell s.width ∙ taken_own s.width j lead may.lead_is.width inside ∙ sym lead_entering ∙ ap lead_at (sym f))
        (λ away. slot_place v l off away (place_of s v) refl)
        (cases_eq v e))
        (cases_eq v b)

    pub slot_right : kept_right (exchanged s r b e j lead slot) k ≡ last
    slot_right = taken_cell (s.width + 1) ∙ taken_other s.width j lead may.lead_is.width inside (s.width + 1) (λ f. omega (arith, f, inside)) (λ f. omega (arith, f)) ∙ may.lead_is.right

  -- ---- so the exchange keeps a form
  is_its : (k : ℕ) → (slot ≡ Some k) ⊎ (slot ≢ Some k)
  is_its k = some_or_not slot k

  low : (k : ℕ) → k < length (exchanged s r b e j lead slot).rows → k < length s.rows
  low k l = omega (arith, l, swap.slots)

  lowest_slot : (k : ℕ) → k < length s.rows → slot ≡ Some k → IsPrimitive (taken s.width j lead)
  lowest_slot k l q d all =
      is.primitive k l d (λ i x h. subst (λ (y : ℤ). d ∣ unsigned_abs y) (sym (get_or_default (short_row s k) i x (pos 0) h)) (divides i (omega (arith, h, is.widths k l))))
    where
      mine : place_of s b ≡ Kept k
      mine = its_slot k q

      of_taken : (i : ℕ) → i < s.width + 2 → d ∣ unsigned_abs (get_or (taken s.width j lead) i (pos 0))
      of_taken i h = all i (pos 0) (omega (arith, h, taken_width s.width j lead may.lead_is.width inside))

      -- each entry of the lead stands in it
      of_lead : (i : ℕ) → i < s.width + 2 → d ∣ unsigned_abs (get_or lead i (pos 0))
      of_lead i h =
          ⊎_elim
          (λ (f : i ≡ j). subst (λ (y : ℤ). d ∣ unsigned_abs y) (taken_own s.width j lead may.lead_is.width inside ∙ ap (λ (x : ℕ). get_or lead x (pos 0)) (sym f)) (of_taken s.width (omega arith)))
          (λ off. ⊎_elim
          (λ (f : i ≡ s.width). subst (λ (y : ℤ). d ∣ unsigned_abs y) (taken_column s.width j lead may.lead_is.width inside ∙ ap (λ (x : ℕ). get_or lead x (pos 0)) (sym f)) (of_taken j (omega (arith, inside))))
          (λ away. subst (λ (y : ℤ). d ∣ unsigned_abs y) (taken_other s.width j lead may.lead_is.width inside i off away) (of_taken i h))
          (cases_eq i s.width))
          (cases_eq i j)

      -- and is the slot's, times the sign
      signed : (i : ℕ) → i < s.width + 2 → get_or lead i (pos 0) ≡ sign *ℤ cell s k i
      signed i h =
          ⊎_elim
          (λ (within : i < s.width). let c = is.all_columns i within in may.lead_is.columns c.0 i c.1 c.2 ∙ ap (λ (x : ℤ). sign *ℤ x) (entry_kept c.0 ∙ ap (entry_at s k) c.2))
          (λ past. ⊎_elim
          (λ (f : i ≡ s.width). ap (λ (x : ℕ). get_or lead x (pos 0)) f ∙ may.lead_is.own_is ∙ ap (λ (x : ℤ). sign *ℤ x) (entry_kept b ∙ kept_own s k b mine) ∙ ap (λ (x : ℕ). sign *ℤ cell s k x) (sym f))
          (λ off. let f : i ≡ s.width + 1 = omega (arith, h, past, off) in
          ap (λ (x : ℕ). get_or lead x (pos 0)) f ∙ may.lead_is.right ∙ ap (λ (x : ℤ). sign *ℤ x) (ap (right_by s b) mine) ∙ ap (λ (x : ℕ). sign *ℤ cell s k x) (sym f))
          (cases_eq i s.width))
          (cases_lt i s.width)
        where
          entry_kept : (v : ℕ) → entry_of s b v ≡ kept_entry s k v
          entry_kept v = ap (λ (x : Place). entry_by s b x v) mine

      divides : (i : ℕ) → i < s.width + 2 → d ∣ unsigned_abs (cell s k i)
      divides i h = ⊎_elim
          (λ (one : sign ≡ pos 1). let e : get_or lead i (pos 0) ≡ pos 1 *ℤ cell s k i = signed i h ∙ ap (λ (x : ℤ). x *ℤ cell s k i) one in
          let f : unsigned_abs (get_or lead i (pos 0)) ≡ unsigned_abs (cell s k i) = omega (arith, ints, e) in subst (λ (n : ℕ). d ∣ n) f (of_lead i h))
          (λ (minus_one : sign ≡ negsuc 0). let e : get_or lead i (pos 0) ≡ negsuc 0 *ℤ cell s k i = signed i h ∙ ap (λ (x : ℤ). x *ℤ cell s k i) minus_one in
          let f : unsigned_abs (get_or lead i (pos 0)) ≡ unsigned_abs (cell s k i) = omega (arith, ints, e) in subst (λ (n : ℕ). d ∣ n) f (of_lead i h))
          may.lead_is.sign_is

  pub exchanged_store : IsStore (exchanged s r b e j lead slot)
  exchanged_store = swapped s (exchanged s r b e j lead slot) r b e j is swap
      (λ k l. ⊎_elim
      (λ q. ap length (short_slot k (low k l) q) ∙ taken_width s.width j lead may.lead_is.width inside)
      (λ q. ap length (short_other k (low k l) q) ∙ cleared_width s.width j lead (short_row s k) may.lead_is.width (is.widths k (low k l)) inside may.lead_is.positive (is.positive k (low k l)))
      (is_its k))
      (λ k l. ⊎_elim
      (λ q. subst (λ (x : ℤ). pos 0 <ℤ x) (sym (taken_cell k (low k l) q s.width ∙ taken_own s.width j lead may.lead_is.width inside)) may.lead_is.positive)
      (λ q. subst (λ (xs : List ℤ). pos 0 <ℤ get_or xs s.width (pos 0)) (sym (short_other k (low k l) q)) (cleared_own s.width j lead (short_row s k) may.lead_is.width (is.widths k (low k l)) inside may.lead_is.positive (is.positive k (low k l))))
      (is_its k))
      (λ k l. ⊎_elim
      (λ q. subst IsPrimitive (sym (short_slot k (low k l) q)) (lowest_slot k (low k l) q))
      (λ q. subst IsPrimitive (sym (short_other k (low k l) q)) (cleared_lowest s.width j lead (short_row s k) may.lead_is.width (is.widths k (low k l)) inside may.lead_is.positive (is.positive k (low k l))))
      (is_its k))

  -- ---- and its solutions
  lead_sum : (y : ℕ → ℤ) (d : ℤ) → HoldsOf s y d b → sum_from (variables_of s) 0 (λ v. lead_at v *ℤ y v) ≡ last *ℤ d
  lead_sum y d holds =
      sum_from-same (variables_of s) 0 _ _ (λ v h i. same (times (times (leaf sign) (leaf (entry_of s b v))) (leaf (y v))) (times (leaf sign) (times (leaf (entry_of s b v)) (leaf (y v)))) (omega arith))
      ∙ sum_from-scale (variables_of s) 0 sign (λ v. entry_of s b v *ℤ y v)
      ∙ ap (λ (x : ℤ). sign *ℤ x) holds
      ∙ same (times (leaf sign) (times (leaf (right_of s b)) (leaf d))) (times (times (leaf sign) (leaf (right_of s b))) (leaf d)) (omega arith)

  other_holds : (y : ℕ → ℤ) (d : ℤ) → HoldsKept s y d → HoldsOf s y d b → (k : ℕ) → k < length s.rows → slot ≢ Some k
      → sum_from (variables_of s) 0 (λ v. kept_entry (exchanged s r b e j lead slot) k v *ℤ y v) ≡ kept_right (exchanged s r b e j lead slot) k *ℤ d
  other_holds y d kept holds k l q =
      let p = get_or lead j (pos 0) in
      let x = kept_entry s k e in
      let g = pos (row_gcd (mix s.width j lead (short_row s k))) in
      let new = λ (v : ℕ). kept_entry (exchanged s r b e j lead slot) k v in
      cancel g (sum_from (variables_of s) 0 (λ v. new v *ℤ y v)) (kept_right (exchanged s r b e j lead slot) k *ℤ d) (divisor_positive k l q)
      (sym (sum_from-scale (variables_of s) 0 g (λ v. new v *ℤ y v))
      ∙ sum_from-same (variables_of s) 0 _ _ (λ v h i. spread g (new v) p (kept_entry s k v) x (lead_at v) (y v) (other_entry k l q v (omega (arith, i))))
      ∙ sum_from-combine (variables_of s) 0 p x (λ v. kept_entry s k v *ℤ y v) (λ v. lead_at v *ℤ y v)
      ∙ ap (λ (z : ℤ). p *ℤ z -ℤ x *ℤ sum_from (variables_of s) 0 (λ v. lead_at v *ℤ y v)) (kept.slots k l)
      ∙ ap (λ (z : ℤ). p *ℤ (kept_right s k *ℤ d) -ℤ x *ℤ z) (lead_sum y d holds)
      ∙ sym (spread g (kept_right (exchanged s r b e j lead slot) k) p (kept_right s k) x last d (other_right k l q)))

  pub exchanged_holds : (y : ℕ → ℤ) (d : ℤ) → Holds (tableau (table_of s)) y d → Holds (tableau (table_of (exchanged s r b e j lead slot))) y d
  exchanged_holds y d holds =
      let kept = holds_kept s y d is holds in
      let of_leaving : HoldsOf s y d b = subst (HoldsOf s y d) may.basic (row_holds s y d r may.row holds) in
      kept_holds (exchanged s r b e j lead slot) y d exchanged_store (record {
        slots = λ k l. subst (λ (n : ℕ). sum_from n 0 (λ v. kept_entry (exchanged s r b e j lead slot) k v *ℤ y v) ≡ kept_right (exchanged s r b e j lead slot) k *ℤ d) (sym swap.variables)
            (⊎_elim
            (λ q. sum_from-same (variables_of s) 0 _ _ (λ v h i. ap (λ (x : ℤ). x *ℤ y v) (slot_entry k (low k l) q v (omega (arith, i)))) ∙ lead_sum y d of_leaving ∙ ap (λ (x : ℤ). x *ℤ d) (sym (slot_right k (low k l) q)))
            (λ q. other_holds y d kept of_leaving k (low k l) q)
            (is_its k));
        pairs = λ v p l pair. kept.pairs v p (omega (arith, l, swap.variables)) pair;
      })

  -- the form is the next one
  pub exchanged_is_next : IsForm (table_of s) → entry_of s b e ≢ pos 0 → next_form (table_of s) r e ≡ table_of (exchanged s r b e j lead slot)
  exchanged_is_next form nonzero =
      let within : r < length (table_of s).rows = omega (arith, may.row, height s) in
      let not_zero : entry (table_of s) r e ≢ pos 0 = λ f. nonzero (ap (λ (x : ℕ). entry_of s x e) (sym may.basic) ∙ sym (entry_is s r e may.row may.entering) ∙ f) in
      let reduced = reduced_next (table_of s) r e form within may.entering not_zero in
      forms_are_one (next_form (table_of s) r e) (table_of (exchanged s r b e j lead slot))
      (record {
        widths = λ i l. let row = reduced i [] l in row.0;
        basics = length-set s.basis r e ∙ sym (height s) ∙ sym (length-map_from _ 0 (table_of s).rows);
        solved = solved_next (table_of s) r e form within may.entering not_zero;
      })
      (store_shaped (exchanged s r b e j lead slot) exchanged_store) reduced (store_reduced (exchanged s r b e j lead slot) exchanged_store)
      swap.variables refl
      (λ y d holds. exchanged_holds y d ((solutions_kept (table_of s) r e form within may.entering not_zero y d).0 holds))
