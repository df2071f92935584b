-- A basic and a nonbasic variable change places.
use Rattle.std.proofs.Common.{ℕ, ◌≡◌, ◌≢◌, ◌<◌, ◌+◌, arith, refl, ap, sym, ◌∙◌, ◌⊎◌, ⊎_elim, subst, inl, inr, List, length, get_or, set, Some, None, Option}
use Rattle.std.specs.Prelude.{pos, ◌<ℤ◌, ◌==◌, if◌then◌else◌}
use Rattle.std.proofs.lemmas.Bool.{cases_eq}
use Rattle.std.proofs.lemmas.Bool.Decides.{nat_tests}
use Rattle.std.proofs.lemmas.List.{get_or-set_other, get_or-set_same, length-set}
use Rattle.exact_num.specs.Divisors.{IsPrimitive}
use Rattle.pivot_form.specs.declared.places.Pair.{Pair}
use Rattle.pivot_form.specs.declared.places.Place.{Place}
use Rattle.pivot_form.specs.declared.places.Place.TheVariants.{Column, Kept, Paired}
use Rattle.pivot_form.specs.Kept.{Store, IsStore, variables_of, place_of, pair_of, own, short_row}

-- t is s after the variable e, in the column j, takes the place of the basic variable b of the equation r, and b its; what the
-- slots of t keep is left open
pub record IsSwap (s t : Store) (r b e j : ℕ) : Type 0 where
  pub row : r < length s.basis
  pub basic : get_or s.basis r 0 ≡ b
  pub entering : e < variables_of s
  pub column : place_of s e ≡ Column j
  pub width : t.width ≡ s.width
  pub variables : variables_of t ≡ variables_of s
  pub basis : t.basis ≡ set s.basis r e
  pub leaving_place : place_of t b ≡ Column j
  pub entering_place : place_of t e ≡ place_of s b
  pub other_place : (v : ℕ) → v ≢ b → v ≢ e → place_of t v ≡ place_of s v
  pub pairs : t.pairs ≡ s.pairs
  pub slots : length t.rows ≡ length s.rows
  pub may : (place_of s b ≢ Paired) ⊎ ((p : Pair) × (pair_of s b ≡ Some p) × (p.other ≡ e))

is_paired : (p : Place) → (p ≢ Paired) ⊎ (p ≡ Paired)
is_paired (Column j) = inl (λ e. column_paired' j e)
  where
    column_paired' : (j : ℕ) → Column j ≡ Paired → ⊥
    column_paired' j e = cc
is_paired (Kept k) = inl (λ e. kept_paired' k e)
  where
    kept_paired' : (k : ℕ) → Kept k ≡ Paired → ⊥
    kept_paired' k e = cc
is_paired Paired = inr refl

-- who had the place that v has after b and e changed places
abbrev before : ℕ → ℕ → ℕ → ℕ
before b e v = if v == b then e else (if v == e then b else v)

before_leaving : (b e v : ℕ) → v ≡ b → before b e v ≡ e
before_leaving b e v f = grind (arith, nat_tests)

before_entering : (b e v : ℕ) → v ≢ b → v ≡ e → before b e v ≡ b
before_entering b e v away f = grind (arith, nat_tests)

before_other : (b e v : ℕ) → v ≢ b → v ≢ e → before b e v ≡ v
before_other b e v away off = grind (arith, nat_tests)

before_twice : (b e v : ℕ) → before b e (before b e v) ≡ v
before_twice b e v = grind (arith, nat_tests)

before_one : (b e v w : ℕ) → before b e v ≡ before b e w → v ≡ w
before_one b e v w f = sym (before_twice b e v) ∙ ap (before b e) f ∙ before_twice b e w

column_kept : {A : Type 0} (j k : ℕ) → Column j ≡ Kept k → A
column_kept j k e = absurd (cc)

column_paired : {A : Type 0} (j : ℕ) → Column j ≡ Paired → A
column_paired j e = absurd (cc)

kept_paired : {A : Type 0} (k : ℕ) → Kept k ≡ Paired → A
kept_paired k e = absurd (cc)

module _ (s t : Store) (r b e j : ℕ) (is : IsStore s) (swap : IsSwap s t r b e j) where
  leaving : b < variables_of s
  leaving = subst (λ (x : ℕ). x < variables_of s) swap.basic (is.basics r swap.row)

  no_column : (i : ℕ) → place_of s b ≢ Column i
  no_column i q = is.basic_place r i swap.row (ap (place_of s) swap.basic ∙ q)

  apart : b ≢ e
  apart f = no_column j (ap (place_of s) f ∙ swap.column)

  nonbasic : (i : ℕ) → i < length s.basis → get_or s.basis i 0 ≢ e
  nonbasic i l f = is.basic_place i j l (ap (place_of s) f ∙ swap.column)

  basis_here : get_or t.basis r 0 ≡ e
  basis_here = ap (λ (xs : List ℕ). get_or xs r 0) swap.basis ∙ get_or-set_same s.basis r e 0 swap.row

  basis_off : (i : ℕ) → i ≢ r → get_or t.basis i 0 ≡ get_or s.basis i 0
  basis_off i away = ap (λ (xs : List ℕ). get_or xs i 0) swap.basis ∙ get_or-set_other s.basis r i e 0 away

  height : length t.basis ≡ length s.basis
  height = ap length swap.basis ∙ length-set s.basis r e

  off_leaving : (i : ℕ) → i < length s.basis → i ≢ r → get_or s.basis i 0 ≢ b
  off_leaving i l away f = is.one_basic i r l swap.row away (f ∙ sym swap.basic)

  off_places : (i : ℕ) → i < length s.basis → i ≢ r → place_of t (get_or s.basis i 0) ≡ place_of s (get_or s.basis i 0)
  off_places i l away = swap.other_place (get_or s.basis i 0) (off_leaving i l away) (nonbasic i l)

  pair_stays : (v : ℕ) → pair_of t v ≡ pair_of s v
  pair_stays v = ap (λ (xs : List (Option Pair)). get_or xs v None) swap.pairs

  -- v has the place that another variable had
  place_from : (v : ℕ) → place_of t v ≡ place_of s (before b e v)
  place_from v =
      ⊎_elim
      (λ (f : v ≡ b). ap (place_of t) f ∙ swap.leaving_place ∙ sym swap.column ∙ ap (place_of s) (sym (before_leaving b e v f)))
      (λ away. ⊎_elim
      (λ (f : v ≡ e). ap (place_of t) f ∙ swap.entering_place ∙ ap (place_of s) (sym (before_entering b e v away f)))
      (λ off. swap.other_place v away off ∙ ap (place_of s) (sym (before_other b e v away off)))
      (cases_eq v e))
      (cases_eq v b)

  within : (v : ℕ) → v < variables_of t → before b e v < variables_of s
  within v l =
      ⊎_elim
      (λ (f : v ≡ b). subst (λ (x : ℕ). x < variables_of s) (sym (before_leaving b e v f)) swap.entering)
      (λ away. ⊎_elim
      (λ (f : v ≡ e). subst (λ (x : ℕ). x < variables_of s) (sym (before_entering b e v away f)) leaving)
      (λ off. subst (λ (x : ℕ). x < variables_of s) (sym (before_other b e v away off)) (omega (arith, l, swap.variables)))
      (cases_eq v e))
      (cases_eq v b)

  -- a variable that isn't paired now and has a pair: the other one is
  paired_now : (v : ℕ) (p : Pair) → v < variables_of s → pair_of s v ≡ Some p → place_of t v ≢ Paired → place_of t p.other ≡ Paired
  paired_now v p l pair other =
      ⊎_elim
      (λ (f : v ≡ b). at_leaving f)
      (λ away. ⊎_elim
      (λ (f : v ≡ e). at_entering f away)
      (λ off. elsewhere away off (is.one_paired v p l pair (λ q. other (swap.other_place v away off ∙ q))))
      (cases_eq v e))
      (cases_eq v b)
    where
      good : (p.other < variables_of s) × (p.other ≢ v) × (pair_of s p.other ≡ Some (record { other = v; sum = p.sum }))
      good = is.pairs v p l pair

      -- another one that is paired before and neither leaves nor enters stays so
      stays : place_of s p.other ≡ Paired → p.other ≢ b → place_of t p.other ≡ Paired
      stays q away = swap.other_place p.other away (λ f. column_paired j (sym swap.column ∙ ap (place_of s) (sym f) ∙ q)) ∙ q

      at_leaving : v ≡ b → place_of t p.other ≡ Paired
      at_leaving f = ⊎_elim
          (λ (unpaired : place_of s b ≢ Paired). stays (is.one_paired v p l pair (λ q. unpaired (ap (place_of s) (sym f) ∙ q))) (λ g. good.1 (g ∙ sym f)))
          (λ found. let same : Some found.0 ≡ Some p = sym found.1 ∙ ap (pair_of s) (sym f) ∙ pair in
          let q : found.0 ≡ p = cc in
          ⊎_elim
          (λ (kept : place_of s b ≢ Paired). stays (is.one_paired v p l pair (λ z. kept (ap (place_of s) (sym f) ∙ z))) (λ g. good.1 (g ∙ sym f)))
          (λ (paired : place_of s b ≡ Paired). ap (λ (x : Pair). place_of t x.other) (sym q) ∙ ap (place_of t) found.2 ∙ swap.entering_place ∙ paired)
          (is_paired (place_of s b)))
          swap.may

      at_entering : v ≡ e → v ≢ b → place_of t p.other ≡ Paired
      at_entering f away =
          let q : place_of s p.other ≡ Paired = is.one_paired v p l pair (λ z. column_paired j (sym swap.column ∙ ap (place_of s) (sym f) ∙ z)) in
          stays q (λ g. ⊎_elim
          (λ (unpaired : place_of s b ≢ Paired). unpaired (ap (place_of s) (sym g) ∙ q))
          (λ found. other (ap (place_of t) f ∙ swap.entering_place ∙ ap (place_of s) (sym g) ∙ q))
          swap.may)

      elsewhere : v ≢ b → v ≢ e → place_of s p.other ≡ Paired → place_of t p.other ≡ Paired
      elsewhere away off q = stays q (λ g. ⊎_elim
          (λ (unpaired : place_of s b ≢ Paired). unpaired (ap (place_of s) (sym g) ∙ q))
          (λ found. let same : Some found.0 ≡ Some (record { other = v; sum = p.sum }) = sym found.1 ∙ ap (pair_of s) (sym g) ∙ good.2 in
          let back : found.0.other ≡ v = cc in off (sym back ∙ found.2))
          swap.may)

  -- a variable that is paired now has a pair, and the other one isn't
  other_now : (v : ℕ) → v < variables_of s → place_of t v ≡ Paired → (p : Pair) × (pair_of s v ≡ Some p) × (place_of t p.other ≢ Paired)
  other_now v l q =
      ⊎_elim
      (λ (f : v ≡ b). column_paired j (sym swap.leaving_place ∙ ap (place_of t) (sym f) ∙ q))
      (λ away. ⊎_elim
      (λ (f : v ≡ e). at_entering f)
      (λ off. elsewhere away off (is.paired v l (sym (swap.other_place v away off) ∙ q)))
      (cases_eq v e))
      (cases_eq v b)
    where
      leaving_now : place_of t b ≢ Paired
      leaving_now z = column_paired j (sym swap.leaving_place ∙ z)

      at_entering : v ≡ e → (p : Pair) × (pair_of s v ≡ Some p) × (place_of t p.other ≢ Paired)
      at_entering f = ⊎_elim
          (λ (unpaired : place_of s b ≢ Paired). absurd (unpaired (sym swap.entering_place ∙ ap (place_of t) (sym f) ∙ q)))
          (λ found. let good = is.pairs b found.0 leaving found.1 in
          (record { other = b; sum = found.0.sum }, (ap (pair_of s) (f ∙ sym found.2) ∙ good.2), leaving_now))
          swap.may

      elsewhere : v ≢ b → v ≢ e → ((p : Pair) × (pair_of s v ≡ Some p) × (place_of s p.other ≢ Paired)) → (p : Pair) × (pair_of s v ≡ Some p) × (place_of t p.other ≢ Paired)
      elsewhere away off found = (
        found.0,
        found.1,
        λ z.
            ⊎_elim
            (λ (f : found.0.other ≡ b). leaving_now (ap (place_of t) (sym f) ∙ z))
            (λ apart'. ⊎_elim
            (λ (f : found.0.other ≡ e). ⊎_elim
            (λ (unpaired : place_of s b ≢ Paired). unpaired (sym swap.entering_place ∙ ap (place_of t) (sym f) ∙ z))
            (λ mine. let good = is.pairs b mine.0 leaving mine.1 in
            let theirs = is.pairs v found.0 l found.1 in
            let same : Some (record { other = b; sum = mine.0.sum }) ≡ Some (record { other = v; sum = found.0.sum })
            = sym good.2 ∙ ap (pair_of s) (mine.2 ∙ sym f) ∙ theirs.2 in
            let whole : record { other = b; sum = mine.0.sum } ≡ record { other = v; sum = found.0.sum } = cc in
            away (sym (ap (λ (x : Pair). x.other) whole)))
            swap.may)
            (λ off'. found.2 (sym (swap.other_place found.0.other apart' off') ∙ z))
            (cases_eq found.0.other e))
            (cases_eq found.0.other b),
      )

  -- so what is kept of t is a form again, where its slots keep equations
  pub swapped : ((k : ℕ) → k < length t.rows → length (short_row t k) ≡ t.width + 2) → ((k : ℕ) → k < length t.rows → pos 0 <ℤ own t k) → ((k : ℕ) → k < length t.rows → IsPrimitive (short_row t k)) → IsStore t
  swapped widths positive primitive = record {
    all_pairs = ap length swap.pairs ∙ is.all_pairs ∙ sym swap.variables;
    widths = widths;
    basics = λ i l. ⊎_elim
        (λ (f : i ≡ r). subst (λ (x : ℕ). x < variables_of t) (sym (ap (λ (k : ℕ). get_or t.basis k 0) f ∙ basis_here)) (omega (arith, swap.entering, swap.variables)))
        (λ away. subst (λ (x : ℕ). x < variables_of t) (sym (basis_off i away)) (omega (arith, is.basics i (low i l), swap.variables)))
        (cases_eq i r);
    one_basic = λ i k l m away. ⊎_elim
        (λ (f : i ≡ r). λ g. nonbasic k (low k m) (sym (basis_off k (λ h. away (f ∙ sym h))) ∙ sym g ∙ ap (λ (x : ℕ). get_or t.basis x 0) f ∙ basis_here))
        (λ off. ⊎_elim
        (λ (f : k ≡ r). λ g. nonbasic i (low i l) (sym (basis_off i off) ∙ g ∙ ap (λ (x : ℕ). get_or t.basis x 0) f ∙ basis_here))
        (λ off'. λ g. is.one_basic i k (low i l) (low k m) away (sym (basis_off i off) ∙ g ∙ basis_off k off'))
        (cases_eq k r))
        (cases_eq i r);
    basic_place = λ i c l q. ⊎_elim
        (λ (f : i ≡ r). no_column c (sym swap.entering_place ∙ ap (place_of t) (sym (ap (λ (k : ℕ). get_or t.basis k 0) f ∙ basis_here)) ∙ q))
        (λ away. is.basic_place i c (low i l) (sym (off_places i (low i l) away) ∙ ap (place_of t) (sym (basis_off i away)) ∙ q))
        (cases_eq i r);
    other_place = λ v l none. ⊎_elim
        (λ (f : v ≡ b). (j, ap (place_of t) f ∙ swap.leaving_place))
        (λ away. ⊎_elim
        (λ (f : v ≡ e). absurd (none r (omega (arith, swap.row, height)) (basis_here ∙ sym f)))
        (λ off. let found = is.other_place v (omega (arith, l, swap.variables)) (λ i h g. ⊎_elim (λ (f : i ≡ r). away (sym g ∙ ap (λ (k : ℕ). get_or s.basis k 0) f ∙ swap.basic)) (λ elsewhere. none i (omega (arith, h, height)) (basis_off i elsewhere ∙ g)) (cases_eq i r)) in
        (found.0, swap.other_place v away off ∙ found.1))
        (cases_eq v e))
        (cases_eq v b);
    columns = λ v c l q. omega (arith, swap.width, is.columns (before b e v) c (within v l) (sym (place_from v) ∙ q));
    one_column = λ v w c l m q z. before_one b e v w (is.one_column (before b e v) (before b e w) c (within v l) (within w m) (sym (place_from v) ∙ q) (sym (place_from w) ∙ z));
    all_columns = λ c l. let found = is.all_columns c (omega (arith, l, swap.width)) in
        (before b e found.0, within' found.0 found.1, place_from (before b e found.0) ∙ ap (place_of s) (before_twice b e found.0) ∙ found.2);
    kept = λ v k l q. omega (arith, swap.slots, is.kept (before b e v) k (within v l) (sym (place_from v) ∙ q));
    one_kept = λ v w k l m q z. before_one b e v w (is.one_kept (before b e v) (before b e w) k (within v l) (within w m) (sym (place_from v) ∙ q) (sym (place_from w) ∙ z));
    all_kept = λ k l. let found = is.all_kept k (omega (arith, l, swap.slots)) in (
      found.0,
      omega (arith, found.1, height),
      ⊎_elim
          (λ (f : found.0 ≡ r). ap (place_of t) (ap (λ (x : ℕ). get_or t.basis x 0) f ∙ basis_here) ∙ swap.entering_place ∙ ap (place_of s) (sym swap.basic ∙ ap (λ (x : ℕ). get_or s.basis x 0) (sym f)) ∙ found.2)
          (λ away. ap (place_of t) (basis_off found.0 away) ∙ off_places found.0 found.1 away ∙ found.2)
          (cases_eq found.0 r),
    );
    pairs = λ v p l pair. let good = is.pairs v p (omega (arith, l, swap.variables)) (sym (pair_stays v) ∙ pair) in
        (omega (arith, good.0, swap.variables), good.1, pair_stays p.other ∙ good.2);
    paired = λ v l q. let found = other_now v (omega (arith, l, swap.variables)) q in (found.0, pair_stays v ∙ found.1, found.2);
    one_paired = λ v p l pair q. paired_now v p (omega (arith, l, swap.variables)) (sym (pair_stays v) ∙ pair) q;
    positive = positive;
    primitive = primitive;
  }
    where
      low : (i : ℕ) → i < length t.basis → i < length s.basis
      low i l = omega (arith, l, height)

      within' : (v : ℕ) → v < variables_of s → before b e v < variables_of t
      within' v l = omega (arith, swap.variables, within v (omega (arith, l, swap.variables)))
