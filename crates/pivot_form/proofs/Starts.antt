-- What is kept of a program's first form.
use Rattle.std.proofs.Common.{ℕ, zero, suc, ◌≡◌, ◌≢◌, ◌<◌, ◌≤◌, ◌+◌, ◌-◌, arith, refl, ap, sym, ◌∙◌, ⊎_elim, subst, List, [], ◌∷◌, length, get_or, map, Some, None, Option}
use Rattle.std.specs.Prelude.{ℤ, pos, negsuc, unsigned_abs}
use lib.IntN.{neg_ℤ}
use Prim.Native.Nat.{◌∣◌}
use Rattle.std.specs.List.{range_with_len}
use Rattle.std.proofs.lemmas.Int.{ints}
use Rattle.std.proofs.lemmas.Bool.{cases_eq, cases_lt}
use Rattle.std.proofs.lemmas.Bool.Decides.{nat_tests}
use Rattle.std.proofs.lemmas.List.{ext_get_or}
use Rattle.std.proofs.lemmas.List.FromFn.{get_or-map-range_with_len, length-map-range_with_len}
use Rattle.std.proofs.Math.Nat.{eq-one_of_dvd-one}
use Rattle.row_program.specs.declared.program.Term.{Term}
use Rattle.row_program.specs.declared.program.Row.{Row}
use Rattle.row_program.specs.declared.program.Program.{Program}
use Rattle.row_program.specs.declared.limits.TheConstants.{TERM_LIMIT}
use Rattle.row_program.specs.Forms.{entry, coefficient, empty_row, first_basic, first_entry, first_form, first_row, variable_count}
use Rattle.pivot_form.specs.declared.places.Pair.{Pair}
use Rattle.pivot_form.specs.declared.places.Place.{Place}
use Rattle.pivot_form.specs.declared.places.Place.TheVariants.{Column, Kept, Paired}
use Rattle.pivot_form.specs.Invariant.{IsForm}
use Rattle.pivot_form.specs.Kept.{Store, IsStore, entry_at, entry_beside, entry_by, entry_of, entry_paired, kept_entry, own, pair_entry, place_of, right_beside, right_by, right_of, right_paired, row_entry, table_of, variables_of, whole_row}
use Rattle.pivot_form.specs.Shorts.{IsShort}
use Rattle.pivot_form.specs.Starts.{AreFirstRows, ArePairs, IsClassPair, IsFirstRow, basic_place, first_place, pair_in, slots_before}
use Rattle.pivot_form.proofs.FirstForm.{basic_at, cost_own, first_at, first_is_form, first_solved, height_is, row_entry as first_cell, row_at as first_row_at, slack_constant, slack_first, slack_other, slack_own, slack_variable}
use Rattle.pivot_form.proofs.FirstSlots.{first_column, first_slack, place_in_column, place_of_slack, slots_apart, slots_found, slots_one}
use Rattle.pivot_form.proofs.NextForm.{make_same}
use Rattle.pivot_form.proofs.Whole.{cell_at, height, pair_first, pair_none, pair_second, row_at, row_entry_inside, row_entry_last, width_at}

-- ---- the first form's basic variables
basic_one : (n i k : ℕ) → first_basic n i ≡ first_basic n k → i ≡ k
basic_one n zero zero e = refl
basic_one n zero (suc k) e = absurd (omega (arith, e))
basic_one n (suc i) zero e = absurd (omega (arith, e))
basic_one n (suc i) (suc k) e = omega (arith, e)

basic_within : (p : Program) (i : ℕ) → i < length p.rows + 1 → first_basic (length p.costs) i < variable_count p
basic_within p i h = let solved = first_solved p in subst (λ (b : ℕ). b < variable_count p) (basic_at p i h) (solved.within i (omega (arith, h, height_is p)))

own_entry : (p : Program) (i : ℕ) → i < length p.rows + 1 → first_entry p i (first_basic (length p.costs) i) ≡ pos 1
own_entry p zero h = cost_own p.costs 0 refl
own_entry p (suc i) h = slack_own (length p.costs) (length p.rows) i (get_or p.rows i empty_row) (1 + length p.costs + i) (omega (arith, h)) refl

other_entry : (p : Program) (i k : ℕ) → i < length p.rows + 1 → k < length p.rows + 1 → k ≢ i → first_entry p k (first_basic (length p.costs) i) ≡ pos 0
other_entry p i k h l apart =
    let solved = first_solved p in
    let within = basic_within p i h in
    sym (first_at p k (first_basic (length p.costs) i) l (omega (arith, within)))
    ∙ ap (λ (b : ℕ). entry (first_form p) k b) (sym (basic_at p i h))
    ∙ solved.clear i k (omega (arith, h, height_is p)) (omega (arith, l, height_is p)) apart

-- ---- what is kept
abbrev pub start_of : Program → List (Option Pair) → List (List ℤ) → Store
start_of p pairs rows = record {
  width = length p.costs;
  basis = (first_form p).basis;
  places = map (first_place (length p.costs) pairs) (range_with_len 0 (variable_count p));
  pairs = pairs;
  rows = rows;
}

record IsColumnOf (p : Program) (s : Store) (v j : ℕ) : Type 0 where
  within : j < length p.costs
  is : v ≡ 1 + j
  place : place_of s v ≡ Column j

record IsKeptOf (p : Program) (s : Store) (v e : ℕ) : Type 0 where
  within : e < length p.rows + 1
  is : v ≡ first_basic (length p.costs) e
  pair : pair_in s.pairs v ≡ None
  place : place_of s v ≡ Kept (slots_before (length p.costs) s.pairs e)

record IsPairedOf (p : Program) (s : Store) (v e : ℕ) (q : Pair) : Type 0 where
  within : e < length p.rows + 1
  is : v ≡ first_basic (length p.costs) e
  pair : pair_in s.pairs v ≡ Some q
  place : place_of s v ≡ Paired

pub no_cost_pair : (n : ℕ) (rows : List Row) (seen : ℕ) (pairs : List (Option Pair)) → ArePairs n rows seen pairs → pair_in pairs 0 ≡ None
no_cost_pair n rows seen pairs are = by (pair_in pairs 0) refl
  where
    by : (q : Option Pair) → pair_in pairs 0 ≡ q → pair_in pairs 0 ≡ None
    by None e = e
    by (Some q) e =
        let back = are.slacks q.other (record { other = 0; sum = q.sum }) (are.both 0 q e) (are.sides 0 q e (omega arith)) in
        absurd (omega (arith, back.above))

module _ (p : Program) (pairs : List (Option Pair)) (rows : List (List ℤ)) (are : ArePairs (length p.costs) p.rows (length p.rows) pairs) (keep : AreFirstRows p pairs (length p.rows + 1) rows) where
  count : variables_of (start_of p pairs rows) ≡ variable_count p
  count = length-map-range_with_len (first_place (length p.costs) pairs) 0 (variable_count p)

  equations : length (first_form p).basis ≡ length p.rows + 1
  equations = length-map-range_with_len (first_basic (length p.costs)) 0 (length p.rows + 1)

  placed : (v : ℕ) → v < variable_count p → place_of (start_of p pairs rows) v ≡ first_place (length p.costs) pairs v
  placed v h = get_or-map-range_with_len (first_place (length p.costs) pairs) 0 (variable_count p) v v Paired h (omega arith)

  place_basic : (e : ℕ) → e < length p.rows + 1 → place_of (start_of p pairs rows) (first_basic (length p.costs) e) ≡ basic_place (pair_in pairs (first_basic (length p.costs) e)) (slots_before (length p.costs) pairs e)
  place_basic zero h = placed 0 (omega arith) ∙ sym (ap (λ (q : Option Pair). basic_place q 0) (no_cost_pair (length p.costs) p.rows (length p.rows) pairs are))
  place_basic (suc e) h = placed (1 + length p.costs + e) (omega (arith, h)) ∙ place_of_slack (length p.costs) pairs (1 + length p.costs + e) (suc e) (omega arith) (omega arith)

  kind : {P : Type 0} (v : ℕ) → v < variable_count p → ((j : ℕ) → IsColumnOf p (start_of p pairs rows) v j → P) → ((e : ℕ) → IsKeptOf p (start_of p pairs rows) v e → P) → ((e : ℕ) (q : Pair) → IsPairedOf p (start_of p pairs rows) v e q → P) → P
  kind {P} v h at_column at_kept at_paired =
      ⊎_elim
      (λ (e : v ≡ 0). at_basic 0 (omega arith) e)
      (λ apart. ⊎_elim
      (λ (low : v < length p.costs + 1). at_column (v - 1) (record {
        within = omega (arith, low, apart);
        is = omega (arith, apart);
        place = placed v h ∙ first_column (length p.costs) pairs v (omega (arith, apart)) (omega (arith, low));
      }))
      (λ past. at_basic (suc (v - 1 - length p.costs)) (omega (arith, past, h)) (omega (arith, past)))
      (cases_lt v (length p.costs + 1)))
      (cases_eq v 0)
    where
      at_basic : (e : ℕ) → e < length p.rows + 1 → v ≡ first_basic (length p.costs) e → P
      at_basic e l is = by (pair_in pairs v) refl
        where
          there : (q : Option Pair) → pair_in pairs v ≡ q → place_of (start_of p pairs rows) v ≡ basic_place q (slots_before (length p.costs) pairs e)
          there q f = ap (place_of (start_of p pairs rows)) is ∙ place_basic e l ∙ ap (λ (x : Option Pair). basic_place x (slots_before (length p.costs) pairs e)) (sym (ap (pair_in pairs) is) ∙ f)

          by : (q : Option Pair) → pair_in pairs v ≡ q → P
          by None f = at_kept e (record { within = l; is = is; pair = f; place = there None f })
          by (Some q) f = at_paired e q (record { within = l; is = is; pair = f; place = there (Some q) f })

  of_column : (v j : ℕ) → v < variable_count p → place_of (start_of p pairs rows) v ≡ Column j → (j < length p.costs) × (v ≡ 1 + j)
  of_column v j h e =
      kind v h
      (λ i is. let same : i ≡ j = let f : Column i ≡ Column j = sym is.place ∙ e in cc in (omega (arith, is.within, same), omega (arith, is.is, same)))
      (λ i is. let f : Kept (slots_before (length p.costs) pairs i) ≡ Column j = sym is.place ∙ e in cc)
      (λ i q is. let f : Paired ≡ Column j = sym is.place ∙ e in cc)

  of_kept : (v k : ℕ) → v < variable_count p → place_of (start_of p pairs rows) v ≡ Kept k → (e : ℕ) × IsKeptOf p (start_of p pairs rows) v e × (slots_before (length p.costs) pairs e ≡ k)
  of_kept v k h e =
      kind v h
      (λ i is. let f : Column i ≡ Kept k = sym is.place ∙ e in cc)
      (λ i is. (i, is, let f : Kept (slots_before (length p.costs) pairs i) ≡ Kept k = sym is.place ∙ e in cc))
      (λ i q is. let f : Paired ≡ Kept k = sym is.place ∙ e in cc)

  -- what a slot keeps is an equation of the first form
  slot_row : (k : ℕ) → k < length rows → (e : ℕ) × (e < length p.rows + 1) × (pair_in pairs (first_basic (length p.costs) e) ≡ None) × (slots_before (length p.costs) pairs e ≡ k) × IsFirstRow p e (get_or rows k [])
  slot_row k h =
      let found = slots_found (length p.costs) pairs (length p.rows + 1) k (omega (arith, h, keep.height)) in
      (found.0, omega (arith, found.1), found.2, found.3, subst (λ (x : ℕ). IsFirstRow p found.0 (get_or rows x [])) found.3 (keep.each found.0 found.1 found.2))

  place_slot : (e : ℕ) → e < length p.rows + 1 → pair_in pairs (first_basic (length p.costs) e) ≡ None → place_of (start_of p pairs rows) (first_basic (length p.costs) e) ≡ Kept (slots_before (length p.costs) pairs e)
  place_slot e h none = place_basic e h ∙ ap (λ (q : Option Pair). basic_place q (slots_before (length p.costs) pairs e)) none

  pair_within : (v : ℕ) (q : Pair) → pair_in pairs v ≡ Some q → v < variable_count p
  pair_within v q e =
      ⊎_elim
      (λ (inside : v < variable_count p). inside)
      (λ past. let f : None ≡ Some q = sym (are.later v past) ∙ e in cc)
      (cases_lt v (variable_count p))

  basis_at : (i : ℕ) → i < length (first_form p).basis → get_or (first_form p).basis i 0 ≡ first_basic (length p.costs) i
  basis_at i h = basic_at p i (omega (arith, h, equations))

  -- the pair of a slack, and that of a variable
  slack_pair : (v : ℕ) (q : Pair) → pair_in pairs v ≡ Some q → length p.costs < v → (q.other ≢ v) × (place_of (start_of p pairs rows) q.other ≡ Column (q.other - 1)) × (place_of (start_of p pairs rows) v ≡ Paired)
  slack_pair v q e h =
      let class_pair = are.slacks v q e h in
      let above = class_pair.above in
      let low = class_pair.variable in (
        λ f. absurd (omega (arith, f, h, low)),
        placed q.other (omega (arith, low)) ∙ first_column (length p.costs) pairs q.other above low,
        placed v (pair_within v q e) ∙ first_slack (length p.costs) pairs v h ∙ ap (λ (x : Option Pair). basic_place x (slots_before (length p.costs) pairs (v - length p.costs))) e,
      )

  -- a pair's facts, by its slack
  by_slack : {P : Type 0} (v : ℕ) (q : Pair) → pair_in pairs v ≡ Some q → (length p.costs < v → P) → (length p.costs < q.other → pair_in pairs q.other ≡ Some (record { other = v; sum = q.sum }) → P) → P
  by_slack v q e at_slack at_variable =
      ⊎_elim
      (λ (low : length p.costs < v). at_slack low)
      (λ past. at_variable (are.sides v q e past) (are.both v q e))
      (cases_lt (length p.costs) v)

  pub start_store : IsStore (start_of p pairs rows)
  start_store = record {
    all_pairs = are.width ∙ sym count;
    widths = λ k h. let row = slot_row k h in row.4.width;
    basics = λ i h. let e = basis_at i h in let within = basic_within p i (omega (arith, h, equations)) in omega (arith, e, within, count);
    one_basic = λ i k h l apart same. apart (basic_one (length p.costs) i k (sym (basis_at i h) ∙ same ∙ basis_at k l));
    basic_place = λ i j h e. no_column i j (omega (arith, h, equations)) (sym (ap (place_of (start_of p pairs rows)) (basis_at i h)) ∙ e);
    other_place = λ v h none. kind v (omega (arith, h, count))
        (λ j is. (j, is.place))
        (λ e is. absurd (none e (omega (arith, is.within, equations)) (basis_at e (omega (arith, is.within, equations)) ∙ sym is.is)))
        (λ e q is. absurd (none e (omega (arith, is.within, equations)) (basis_at e (omega (arith, is.within, equations)) ∙ sym is.is)));
    columns = λ v j h e. let of = of_column v j (omega (arith, h, count)) e in of.0;
    one_column = λ v w j h l e f. let a = of_column v j (omega (arith, h, count)) e in let b = of_column w j (omega (arith, l, count)) f in a.1 ∙ sym b.1;
    all_columns = λ j h. (1 + j, omega (arith, h, count), placed (1 + j) (omega (arith, h)) ∙ place_in_column (length p.costs) pairs (1 + j) j h refl);
    kept = λ v k h e. let of = of_kept v k (omega (arith, h, count)) e in
        let low = slots_apart (length p.costs) pairs of.0 (length p.rows + 1) (omega (arith, of.1.within)) (ap (pair_in pairs) (sym of.1.is) ∙ of.1.pair) in
        omega (arith, low, of.2, keep.height);
    one_kept = λ v w k h l e f. let a = of_kept v k (omega (arith, h, count)) e in let b = of_kept w k (omega (arith, l, count)) f in
        let same = slots_one (length p.costs) pairs a.0 b.0 (ap (pair_in pairs) (sym a.1.is) ∙ a.1.pair) (ap (pair_in pairs) (sym b.1.is) ∙ b.1.pair) (a.2 ∙ sym b.2) in
        a.1.is ∙ ap (first_basic (length p.costs)) same ∙ sym b.1.is;
    all_kept = λ k h. let row = slot_row k h in
        let low : row.0 < length (first_form p).basis = omega (arith, row.1, equations) in
        (row.0, low, ap (place_of (start_of p pairs rows)) (basis_at row.0 low) ∙ place_slot row.0 row.1 row.2 ∙ ap Kept row.3);
    pairs = λ v q h e. let back = are.both v q e in (
      omega (arith, pair_within q.other (record { other = v; sum = q.sum }) back, count),
      by_slack v q e (λ low. let of = slack_pair v q e low in of.0) (λ low f g. let of = slack_pair q.other (record { other = v; sum = q.sum }) f low in of.0 (sym g)),
      back,
    );
    paired = λ v h e. kind v (omega (arith, h, count))
        (λ j is. let f : Column j ≡ Paired = sym is.place ∙ e in cc)
        (λ i is. let f : Kept (slots_before (length p.costs) pairs i) ≡ Paired = sym is.place ∙ e in cc)
        (λ i q is. (q, is.pair, λ f. not_paired v q is.pair e f));
    one_paired = λ v q h e apart. by_slack v q e
        (λ low. let of = slack_pair v q e low in absurd (apart of.2))
        (λ low back. let of = slack_pair q.other (record { other = v; sum = q.sum }) back low in of.2);
    positive = λ k h. let row = slot_row k h in let own_is = row.4.own in omega (arith, ints, own_is);
    primitive = λ k h d all. let row = slot_row k h in
        eq-one_of_dvd-one (subst (λ (x : ℤ). d ∣ unsigned_abs x) row.4.own (all (length p.costs) (pos 0) (omega (arith, row.4.width))));
  }
    where
      no_column : (i j : ℕ) → i < length p.rows + 1 → place_of (start_of p pairs rows) (first_basic (length p.costs) i) ≡ Column j → ⊥
      no_column i j h e = let of = of_column (first_basic (length p.costs) i) j (basic_within p i h) e in no_number i j of.0 of.1
        where
          no_number : (i j : ℕ) → j < length p.costs → first_basic (length p.costs) i ≡ 1 + j → ⊥
          no_number zero j l f = omega (arith, f)
          no_number (suc i) j l f = omega (arith, l, f)

      not_paired : (v : ℕ) (q : Pair) → pair_in pairs v ≡ Some q → place_of (start_of p pairs rows) v ≡ Paired → place_of (start_of p pairs rows) q.other ≡ Paired → ⊥
      not_paired v q e f g =
          by_slack v q e
          (λ low. let of = slack_pair v q e low in let h : Column (q.other - 1) ≡ Paired = sym of.1 ∙ g in cc)
          (λ low back. let of = slack_pair q.other (record { other = v; sum = q.sum }) back low in let h : Column (v - 1) ≡ Paired = sym of.1 ∙ f in cc)

  -- ---- the form is the first one
  right_first : (e : ℕ) → e < length p.rows + 1 → right_of (start_of p pairs rows) (first_basic (length p.costs) e) ≡ first_entry p e (variable_count p)
  right_first e h = by (pair_in pairs (first_basic (length p.costs) e)) refl
    where
      at_pair : (e : ℕ) (q : Pair) → e < length p.rows + 1 → pair_in pairs (first_basic (length p.costs) e) ≡ Some q → right_of (start_of p pairs rows) (first_basic (length p.costs) e) ≡ first_entry p e (variable_count p)
      at_pair zero q h f = let none = no_cost_pair (length p.costs) p.rows (length p.rows) pairs are in let g : None ≡ Some q = sym none ∙ f in cc
      at_pair (suc i) q h f =
          let of = slack_pair (1 + length p.costs + i) q f (omega arith) in
          let class_pair = are.slacks (1 + length p.costs + i) q f (omega arith) in
          ap (right_by (start_of p pairs rows) (1 + length p.costs + i)) of.2
          ∙ ap (right_paired (start_of p pairs rows)) f
          ∙ ap (right_beside (start_of p pairs rows) q) of.1
          ∙ class_pair.sum
          ∙ ap (λ (k : ℕ). (get_or p.rows k empty_row).constant) (omega arith)
          ∙ sym (slack_constant (length p.costs) (length p.rows) i (get_or p.rows i empty_row) (variable_count p) refl)

      by : (x : Option Pair) → pair_in pairs (first_basic (length p.costs) e) ≡ x → right_of (start_of p pairs rows) (first_basic (length p.costs) e) ≡ first_entry p e (variable_count p)
      by None f =
          let row = keep.each e (omega (arith, h)) f in
          ap (right_by (start_of p pairs rows) (first_basic (length p.costs) e)) (place_slot e h f) ∙ row.right
      by (Some q) f = at_pair e q h f

  -- a row's entries, where a slot keeps it
  kept_first : (e v : ℕ) → e < length p.rows + 1 → pair_in pairs (first_basic (length p.costs) e) ≡ None → v < variable_count p → kept_entry (start_of p pairs rows) (slots_before (length p.costs) pairs e) v ≡ first_entry p e v
  kept_first e v h none l =
      let row = keep.each e (omega (arith, h)) none in
      let k = slots_before (length p.costs) pairs e in
      kind v l
      (λ j is. ap (entry_at (start_of p pairs rows) k) is.place ∙ row.columns j is.within ∙ ap (first_entry p e) (sym is.is))
      (λ i is. ⊎_elim
      (λ (same : i ≡ e).
      ap (entry_at (start_of p pairs rows) k) is.place
      ∙ entry_same (start_of p pairs rows) k (slots_before (length p.costs) pairs i) (ap (slots_before (length p.costs) pairs) same)
      ∙ row.own ∙ sym (own_entry p e h) ∙ ap (first_entry p e) (ap (first_basic (length p.costs)) (sym same) ∙ sym is.is))
      (λ apart.
      ap (entry_at (start_of p pairs rows) k) is.place
      ∙ entry_off (start_of p pairs rows) k (slots_before (length p.costs) pairs i) (λ f. apart (slots_one (length p.costs) pairs i e (ap (pair_in pairs) (sym is.is) ∙ is.pair) none f))
      ∙ sym (other_entry p i e is.within h (λ f. apart (sym f))) ∙ ap (first_entry p e) (sym is.is))
      (cases_eq i e))
      (λ i q is.
      ap (entry_at (start_of p pairs rows) k) is.place
      ∙ sym (other_entry p i e is.within h (λ f. let g : None ≡ Some q = sym none ∙ ap (λ (x : ℕ). pair_in pairs (first_basic (length p.costs) x)) f ∙ ap (pair_in pairs) (sym is.is) ∙ is.pair in cc))
      ∙ ap (first_entry p e) (sym is.is))
    where
      entry_same : (s : Store) (k l : ℕ) → l ≡ k → entry_at s k (Kept l) ≡ own s k
      entry_same s k l e = grind (arith, nat_tests)

      entry_off : (s : Store) (k l : ℕ) → l ≢ k → entry_at s k (Kept l) ≡ pos 0
      entry_off s k l apart = grind (arith, nat_tests)

  -- and where it is a pair's
  pair_first_entry : (e v : ℕ) (q : Pair) → e < length p.rows + 1 → pair_in pairs (first_basic (length p.costs) e) ≡ Some q → v < variable_count p → pair_entry (first_basic (length p.costs) e) q.other v ≡ first_entry p e v
  pair_first_entry zero v q h f l = let none = no_cost_pair (length p.costs) p.rows (length p.rows) pairs are in let g : None ≡ Some q = sym none ∙ f in cc
  pair_first_entry (suc i) v q h f l =
      ⊎_elim
      (λ (same : v ≡ b). pair_first b q.other v same (λ g. absurd (omega (arith, g, same, class_pair.variable))) ∙ sym (own_entry p (suc i) h) ∙ ap (first_entry p (suc i)) (sym same))
      (λ off. ⊎_elim
      (λ (same : v ≡ q.other). pair_second b q.other v off same
      ∙ sym (omega (arith, ints, at_variable v same (omega (arith, same, class_pair.above)) (omega (arith, same, class_pair.variable)))))
      (λ away. pair_none b q.other v off away ∙ sym (⊎_elim
      (λ (z : v ≡ 0). slack_first (length p.costs) (length p.rows) i (get_or p.rows i empty_row) v z)
      (λ past. ⊎_elim
      (λ (low : v < length p.costs + 1). omega (arith, ints, elsewhere v away (omega (arith, past)) (omega (arith, low))))
      (λ high. slack_other (length p.costs) (length p.rows) i (get_or p.rows i empty_row) v (omega (arith, high)) (λ g. absurd (omega (arith, g, l))) off)
      (cases_lt v (length p.costs + 1)))
      (cases_eq v 0)))
      (cases_eq v q.other))
      (cases_eq v b)
    where
      b : ℕ
      b = 1 + length p.costs + i

      class_pair : IsClassPair (length p.costs) p.rows (1 + length p.costs + i) q
      class_pair = are.slacks (1 + length p.costs + i) q f (omega arith)

      terms_are : (get_or p.rows i empty_row).terms ≡ record { variable = q.other - 1; times = neg_ℤ (pos 1) } ∷ []
      terms_are = let k : i ≡ 1 + length p.costs + i - (1 + length p.costs) = omega arith in ap (λ (x : ℕ). (get_or p.rows x empty_row).terms) k ∙ class_pair.class_row.terms

      one_term : (u w : ℕ) → u ≡ w → coefficient (record { variable = u; times = neg_ℤ (pos 1) } ∷ []) w ≡ negsuc 0
      one_term u w e = grind (arith, ints, nat_tests)

      no_term : (u w : ℕ) → u ≢ w → coefficient (record { variable = u; times = neg_ℤ (pos 1) } ∷ []) w ≡ pos 0
      no_term u w e = grind (arith, ints, nat_tests)

      at_variable : (v : ℕ) → v ≡ q.other → 0 < v → v ≤ length p.costs → first_entry p (suc i) v ≡ neg_ℤ (negsuc 0)
      at_variable v same above low =
          slack_variable (length p.costs) (length p.rows) i (get_or p.rows i empty_row) v above low
          ∙ ap (λ (t : List Term). neg_ℤ (coefficient t (v - 1))) terms_are
          ∙ ap neg_ℤ (one_term (q.other - 1) (v - 1) (ap (λ (x : ℕ). x - 1) (sym same)))

      elsewhere : (v : ℕ) → v ≢ q.other → 0 < v → v ≤ length p.costs → first_entry p (suc i) v ≡ neg_ℤ (pos 0)
      elsewhere v away above low =
          slack_variable (length p.costs) (length p.rows) i (get_or p.rows i empty_row) v above low
          ∙ ap (λ (t : List Term). neg_ℤ (coefficient t (v - 1))) terms_are
          ∙ ap neg_ℤ (no_term (q.other - 1) (v - 1) (λ e. away (omega (arith, e, above, class_pair.above))))

  entry_first : (e v : ℕ) → e < length p.rows + 1 → v < variable_count p → entry_of (start_of p pairs rows) (first_basic (length p.costs) e) v ≡ first_entry p e v
  entry_first e v h l = by (pair_in pairs (first_basic (length p.costs) e)) refl
    where
      b : ℕ
      b = first_basic (length p.costs) e

      above : (e : ℕ) (q : Pair) → pair_in pairs (first_basic (length p.costs) e) ≡ Some q → length p.costs < first_basic (length p.costs) e
      above zero q f = let none = no_cost_pair (length p.costs) p.rows (length p.rows) pairs are in let g : None ≡ Some q = sym none ∙ f in cc
      above (suc i) q f = omega arith

      by : (x : Option Pair) → pair_in pairs (first_basic (length p.costs) e) ≡ x → entry_of (start_of p pairs rows) (first_basic (length p.costs) e) v ≡ first_entry p e v
      by None f = ap (λ (x : Place). entry_by (start_of p pairs rows) b x v) (place_slot e h f) ∙ kept_first e v h f l
      by (Some q) f =
          let of = slack_pair b q f (above e q f) in
          ap (λ (x : Place). entry_by (start_of p pairs rows) b x v) of.2
          ∙ ap (λ (x : Option Pair). entry_paired (start_of p pairs rows) b x v) f
          ∙ ap (λ (x : Place). entry_beside (start_of p pairs rows) b q x v) of.1
          ∙ pair_first_entry e v q h f l

  whole_first : (e : ℕ) → e < length p.rows + 1 → whole_row (start_of p pairs rows) (first_basic (length p.costs) e) ≡ first_row p e
  whole_first e h = ext_get_or (pos 0) (whole_row (start_of p pairs rows) (first_basic (length p.costs) e)) (first_row p e)
      (wide ∙ ap (λ (k : ℕ). k + 1) count ∙ sym (length-map-range_with_len (first_entry p e) 0 (variable_count p + 1)))
      (λ v l. let low : v < variable_count p + 1 = omega (arith, l, wide, count) in
      cell_at (start_of p pairs rows) (first_basic (length p.costs) e) v (omega (arith, low, count)) ∙ same v low ∙ sym (first_cell p e v low))
    where
      wide : length (whole_row (start_of p pairs rows) (first_basic (length p.costs) e)) ≡ variables_of (start_of p pairs rows) + 1
      wide = width_at (start_of p pairs rows) (first_basic (length p.costs) e)

      same : (v : ℕ) → v < variable_count p + 1 → row_entry (start_of p pairs rows) (first_basic (length p.costs) e) v ≡ first_entry p e v
      same v l =
          ⊎_elim
          (λ (last : v ≡ variables_of (start_of p pairs rows)). ap (row_entry (start_of p pairs rows) (first_basic (length p.costs) e)) last ∙ row_entry_last (start_of p pairs rows) (first_basic (length p.costs) e) ∙ right_first e h ∙ ap (first_entry p e) (sym (last ∙ count)))
          (λ apart. row_entry_inside (start_of p pairs rows) (first_basic (length p.costs) e) v (omega (arith, l, apart, count)) ∙ entry_first e v h (omega (arith, l, apart, count)))
          (cases_eq v (variables_of (start_of p pairs rows)))

  pub start_is_first : table_of (start_of p pairs rows) ≡ first_form p
  start_is_first = make_same (variables_of (start_of p pairs rows)) (variable_count p) (table_of (start_of p pairs rows)).rows (first_form p).rows (first_form p).basis (first_form p).basis count
      (ext_get_or [] (table_of (start_of p pairs rows)).rows (first_form p).rows (tall ∙ equations ∙ sym (height_is p))
      (λ k l. let low : k < length (first_form p).basis = omega (arith, l, tall) in
      row_at (start_of p pairs rows) k low ∙ ap (whole_row (start_of p pairs rows)) (basis_at k low) ∙ whole_first k (omega (arith, low, equations)) ∙ sym (first_row_at p k (omega (arith, low, equations)))))
      refl
    where
      tall : length (table_of (start_of p pairs rows)).rows ≡ length (first_form p).basis
      tall = height (start_of p pairs rows)

  small_pair : (v : ℕ) (q : Pair) → pair_in pairs v ≡ Some q → length p.costs < v → unsigned_abs q.sum < TERM_LIMIT
  small_pair v q e h =
      let class_pair = are.slacks v q e h in
      let good = p.bounds.good_rows (v - (1 + length p.costs)) empty_row (omega (arith, h, pair_within v q e)) in
      subst (λ (x : ℤ). unsigned_abs x < TERM_LIMIT) (sym class_pair.sum) good.small_constant

  pub start_short : IsShort (start_of p pairs rows)
  start_short = record {
    few = omega (arith, p.bounds.few_variables);
    sums = λ v q h e. by_slack v q e (λ low. small_pair v q e low) (λ low back. small_pair q.other (record { other = v; sum = q.sum }) back low);
    store = start_store;
    form = subst IsForm (sym start_is_first) (first_is_form p);
  }

-- ---- as code puts it together
abbrev store : ℕ → List ℕ → List Place → List (Option Pair) → List (List ℤ) → Store
store width basis places pairs rows = record { width = width; basis = basis; places = places; pairs = pairs; rows = rows }

pub made_start : (p : Program) (width height : ℕ) (basis : List ℕ) (places : List Place) (pairs lent : List (Option Pair)) (rows : List (List ℤ)) → width ≡ length p.costs → height ≡ length p.rows → lent ≡ pairs
    → ArePairs (length p.costs) p.rows (length p.rows) pairs → basis ≡ map (first_basic width) (range_with_len 0 (height + 1)) → places ≡ map (first_place width lent) (range_with_len 0 (length lent))
    → store width basis places pairs rows ≡ start_of p pairs rows
made_start p width height basis places pairs lent rows e f g are basis_is places_are =
    ap (λ (x : ℕ). store x basis places pairs rows) e
    ∙ ap (λ (x : List ℕ). store (length p.costs) x places pairs rows) (basis_is ∙ ap (λ (x : ℕ). map (first_basic x) (range_with_len 0 (height + 1))) e ∙ ap (λ (x : ℕ). map (first_basic (length p.costs)) (range_with_len 0 (x + 1))) f)
    ∙ ap (λ (x : List Place). store (length p.costs) (first_form p).basis x pairs rows)
    (places_are
    ∙ ap (λ (x : ℕ). map (first_place x lent) (range_with_len 0 (length lent))) e
    ∙ ap (λ (x : List (Option Pair)). map (first_place (length p.costs) x) (range_with_len 0 (length x))) g
    ∙ ap (λ (x : ℕ). map (first_place (length p.costs) pairs) (range_with_len 0 x)) are.width)
