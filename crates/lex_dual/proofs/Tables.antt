-- Where the basic variables stand, and the table of their rows.
use Rattle.std.proofs.Common.{ℕ, zero, suc, ◌≡◌, ◌≢◌, ◌<◌, ◌+◌, ◌-◌, ◌^◌, arith, refl, ap, sym, ◌∙◌, subst, List, [], ◌∷◌, ◌++◌, length, get_or, set, Some, None, ⊎_elim, true, false}
use Rattle.std.specs.Prelude.{pos, Option, ◌<ℤ◌, ◌==◌, unsigned_abs}
use Rattle.std.specs.List.{position, position_or_len}
use Rattle.std.proofs.lemmas.Int.{ints}
use Rattle.std.proofs.lemmas.Bool.{cases_eq}
use Rattle.std.proofs.lemmas.Bool.Decides.{nat_tests}
use Rattle.std.proofs.lemmas.List.{get_or-set_same, get_or-set_other, length-set}
use Rattle.std.proofs.lemmas.List.FromFn.{length-map-range_with_len, get_or-map-range_with_len, fill_by_all}
use Rattle.std.proofs.lemmas.List.Sums.{position_or_len_is}
use Rattle.std.proofs.lemmas.List.Quantifiers.{position-Some}
use Rattle.row_program.specs.declared.program.Program.{Program}
use Rattle.row_program.specs.Forms.{Table, entry, right_side, basic_of, tableau, first_form, first_basic, next_form, next_row, turned, row_of, IsNonbasic}
use Rattle.row_program.specs.Method.{row_of_basic, value_count}
use Rattle.pivot_form.specs.Invariant.{IsForm}
use Rattle.pivot_form.proofs.Equations.{length-map_from}
use Rattle.pivot_form.proofs.FirstForm.{basic_at, height_is, first_is_form}
use Rattle.dual_theory.proofs.Found.{position_none}
use Rattle.lex_dual.specs.Choices.{places_of}

-- ---- the place of a number in a list
place_found : (v i : ℕ) (xs : List ℕ) → i < length xs → get_or xs i 0 ≡ v → ((k : ℕ) → k < i → get_or xs k 0 ≢ v) → position (λ b. b == v) xs ≡ Some i
place_found v i xs h e first =
    let at : position_or_len (λ b. b == v) xs ≡ i = position_or_len_is (λ b. b == v) xs i 0 (omega (arith, h)) (λ k l. let apart = first k l in grind (arith, nat_tests)) (λ l. grind (arith, nat_tests)) in
    grind (arith, nat_tests)

place_none : (v : ℕ) (xs : List ℕ) → ((k : ℕ) → k < length xs → get_or xs k 0 ≢ v) → position (λ b. b == v) xs ≡ None
place_none v xs apart =
    let at : position_or_len (λ b. b == v) xs ≡ length xs = position_or_len_is (λ b. b == v) xs (length xs) 0 (omega arith) (λ k l. let other = apart k l in grind (arith, nat_tests)) (λ l. absurd (omega (arith, l))) in
    grind (arith, nat_tests)

-- where the place of v is: at the one row whose basic variable it is, or at none
abbrev pub IsPlace : List ℕ → ℕ → Option ℕ → Type 0
IsPlace xs v None = (k : ℕ) → k < length xs → get_or xs k 0 ≢ v
IsPlace xs v (Some i) = (i < length xs) × (get_or xs i 0 ≡ v)

passes : (b v : ℕ) → (b == v) ≡ true → b ≡ v
passes b v e = grind (arith, nat_tests)

pub place_of : (xs : List ℕ) (v : ℕ) (o : Option ℕ) → position (λ b. b == v) xs ≡ o → IsPlace xs v o
place_of xs v (Some i) e = let found = position-Some (λ b. b == v) xs i 0 e in (found.0, passes (get_or xs i 0) v found.1)
place_of xs v None e = λ k h is. let fails : (get_or xs k 0 == v) ≡ false = position_none (λ b. b == v) xs e k 0 h in grind (arith, nat_tests)

-- no two rows have one basic variable
abbrev pub IsApart : List ℕ → Type 0
IsApart xs = (i k : ℕ) → i < length xs → k < length xs → get_or xs i 0 ≡ get_or xs k 0 → i ≡ k

pub place_is : (xs : List ℕ) (v : ℕ) (o : Option ℕ) → IsApart xs → IsPlace xs v o → position (λ b. b == v) xs ≡ o
place_is xs v (Some i) apart at = place_found v i xs at.0 at.1 (λ k l e. let same : k ≡ i = apart k i (omega (arith, l, at.0)) at.0 (e ∙ sym at.1) in absurd (omega (arith, same, l)))
place_is xs v None apart at = place_none v xs at

pub apart_basics : (t : Table) → IsForm t → IsApart t.basis
apart_basics t form i k h l e = ⊎_elim
    (λ (same : i ≡ k). same)
    (λ other.
    let zero_there : entry t k (basic_of t i) ≡ pos 0 = form.solved.clear i k (omega (arith, h, form.basics)) (omega (arith, l, form.basics)) (λ f. other (sym f)) in
    let above : pos 0 <ℤ entry t k (basic_of t k) = form.solved.positive k (omega (arith, l, form.basics)) in
    let same_entry : entry t k (basic_of t i) ≡ entry t k (basic_of t k) = ap (entry t k) e in
    absurd (omega (arith, ints, zero_there, above, same_entry)))
    (cases_eq i k)

pub entry_small : (t : Table) (i j : ℕ) → IsForm t → i < length t.rows → j < t.variables + 1 → unsigned_abs (entry t i j) < 2 ^ 63
entry_small t i j form h l = let equation = form.equations i [] h in equation.small j (pos 0) (omega (arith, l, equation.width))

-- ---- a write at a place
set_place : (xs : List ℕ) (r c v : ℕ) (o : Option ℕ) → r < length xs → v ≢ c → get_or xs r 0 ≢ v → IsPlace xs v o → IsPlace (set xs r c) v o
set_place xs r c v (Some i) h other off at =
    let apart : i ≢ r = λ e. off (sym (ap (λ (k : ℕ). get_or xs k 0) e) ∙ at.1) in
    let wide = length-set xs r c in
    (omega (arith, at.0, wide), get_or-set_other xs r i c 0 apart ∙ at.1)
set_place xs r c v None h other off at = λ k l e. ⊎_elim
    (λ (same : k ≡ r). other (sym e ∙ ap (λ (j : ℕ). get_or (set xs r c) j 0) same ∙ get_or-set_same xs r c 0 h))
    (λ apart. at k (omega (arith, l, length-set xs r c)) (sym (get_or-set_other xs r k c 0 apart) ∙ e))
    (cases_eq k r)

left_place : (xs : List ℕ) (r c v : ℕ) → r < length xs → IsApart xs → v ≢ c → get_or xs r 0 ≡ v → IsPlace (set xs r c) v None
left_place xs r c v h apart other there k l e = ⊎_elim
    (λ (same : k ≡ r). other (sym e ∙ ap (λ (j : ℕ). get_or (set xs r c) j 0) same ∙ get_or-set_same xs r c 0 h))
    (λ off. off (apart k r (omega (arith, l, length-set xs r c)) h (sym (get_or-set_other xs r k c 0 off) ∙ e ∙ sym there)))
    (cases_eq k r)

set_apart : (xs : List ℕ) (r c : ℕ) → r < length xs → IsApart xs → ((k : ℕ) → k < length xs → get_or xs k 0 ≢ c) → IsApart (set xs r c)
set_apart xs r c h apart none i k l m e = ⊎_elim
    (λ (at : i ≡ r). ⊎_elim
    (λ (there : k ≡ r). at ∙ sym there)
    (λ off. absurd (none k inside_k (sym (get_or-set_other xs r k c 0 off) ∙ sym e ∙ ap (λ (j : ℕ). get_or (set xs r c) j 0) at ∙ get_or-set_same xs r c 0 h)))
    (cases_eq k r))
    (λ off. ⊎_elim
    (λ (there : k ≡ r). absurd (none i inside_i (sym (get_or-set_other xs r i c 0 off) ∙ e ∙ ap (λ (j : ℕ). get_or (set xs r c) j 0) there ∙ get_or-set_same xs r c 0 h)))
    (λ away. apart i k inside_i inside_k (sym (get_or-set_other xs r i c 0 off) ∙ e ∙ get_or-set_other xs r k c 0 away))
    (cases_eq k r))
    (cases_eq i r)
  where
    inside_i : i < length xs
    inside_i = omega (arith, l, length-set xs r c)

    inside_k : k < length xs
    inside_k = omega (arith, m, length-set xs r c)

-- ---- the table
pub length-places_of : (t : Table) → length (places_of t) ≡ value_count t
length-places_of t = length-map-range_with_len (row_of_basic t) 0 (value_count t)

pub place_at : (t : Table) (places : List (Option ℕ)) (v : ℕ) (d : Option ℕ) → places ≡ places_of t → v < length places → get_or places v d ≡ row_of_basic t v
place_at t places v d e h = ap (λ (xs : List (Option ℕ)). get_or xs v d) e ∙ get_or-map-range_with_len (row_of_basic t) 0 (value_count t) v v d (omega (arith, h, ap length e, length-places_of t)) (omega arith)

-- a variable's row
pub row_place : (t : Table) (v : ℕ) (o : Option ℕ) → row_of_basic t v ≡ o → IsPlace t.basis v o
row_place t v o e = place_of t.basis v o e

pub exchanged : (t : Table) (r c : ℕ) (places : List (Option ℕ)) → IsForm t → r < length t.rows → IsNonbasic (tableau t) c → places ≡ places_of t → set (set places (basic_of t r) None) c (Some r) ≡ places_of (next_form t r c)
exchanged t r c places form h nonbasic e = fill_by_all (row_of_basic u) new n None wide each
  where
    u : Table
    u = next_form t r c

    n : ℕ
    n = value_count u

    l : ℕ
    l = basic_of t r

    mid : List (Option ℕ)
    mid = set places l None

    new : List (Option ℕ)
    new = set mid c (Some r)

    old_wide : length places ≡ n
    old_wide = ap length e ∙ length-places_of t ∙ ap (λ (m : ℕ). t.variables + 1 - m) (sym (length-map_from (next_row r c (turned c (row_of t r))) 0 t.rows))

    wide : length new ≡ n
    wide = length-set mid c (Some r) ∙ length-set places l None ∙ old_wide

    within : r < length t.basis
    within = omega (arith, h, form.basics)

    none : (k : ℕ) → k < length t.basis → get_or t.basis k 0 ≢ c
    none k m = nonbasic k (omega (arith, m, form.basics))

    apart : IsApart t.basis
    apart = apart_basics t form

    next_apart : IsApart (set t.basis r c)
    next_apart = set_apart t.basis r c within apart none

    each : (v : ℕ) → v < n → get_or new v None ≡ row_of_basic u v
    each v m = ⊎_elim
        (λ (at : v ≡ c). ap (λ (j : ℕ). get_or new j None) at ∙ get_or-set_same mid c (Some r) None (omega (arith, m, at, length-set places l None, old_wide)) ∙ sym (place_is (set t.basis r c) v (Some r) next_apart (omega (arith, within, length-set t.basis r c), get_or-set_same t.basis r c 0 within ∙ sym at)))
        (λ other. get_or-set_other mid c v (Some r) None other ∙ ⊎_elim
        (λ (at : v ≡ l). ap (λ (j : ℕ). get_or mid j None) at ∙ get_or-set_same places l None None (omega (arith, m, at, old_wide)) ∙ sym (place_is (set t.basis r c) v None next_apart (left_place t.basis r c v within apart other (sym at))))
        (λ off. get_or-set_other places l v None None off ∙ place_at t places v None e (omega (arith, m, old_wide)) ∙ sym (place_is (set t.basis r c) v (row_of_basic t v) next_apart (set_place t.basis r c v (row_of_basic t v) within other (λ f. off (sym f)) (row_place t v (row_of_basic t v) refl))))
        (cases_eq v l))
        (cases_eq v c)

-- one more that is the default
pub get_or-more : {X : Type 0} (xs : List X) (k : ℕ) (d : X) → get_or (xs ++ d ∷ []) k d ≡ get_or xs k d
get_or-more [] zero d = refl
get_or-more [] (suc k) d = refl
get_or-more (x ∷ xs) zero d = refl
get_or-more (x ∷ xs) (suc k) d = get_or-more xs k d

pub first_placed : (p : Program) (places : List (Option ℕ)) → length places ≡ length p.costs + 1 → get_or places 0 None ≡ Some 0 → ((k : ℕ) → get_or places (suc k) None ≡ None) → places ≡ places_of (first_form p)
first_placed p places e here none = fill_by_all (row_of_basic t) places (value_count t) None wide each
  where
    t : Table
    t = first_form p

    height : length t.rows ≡ length p.rows + 1
    height = height_is p

    basics : length t.basis ≡ length p.rows + 1
    basics = length-map-range_with_len (first_basic (length p.costs)) 0 (length p.rows + 1)

    wide : length places ≡ value_count t
    wide = e ∙ omega (arith, height)

    each : (v : ℕ) → v < value_count t → get_or places v None ≡ row_of_basic t v
    each zero m = here ∙ sym (place_is t.basis 0 (Some 0) (apart_basics t (first_is_form p)) (omega (arith, basics), basic_at p 0 (omega arith)))
    each (suc v) m = none v ∙ sym (place_is t.basis (suc v) None (apart_basics t (first_is_form p)) lacks)
      where
        lacks : (k : ℕ) → k < length t.basis → get_or t.basis k 0 ≢ suc v
        lacks zero l f = let at : get_or t.basis 0 0 ≡ 0 = basic_at p 0 (omega arith) in omega (arith, at, f)
        lacks (suc k) l f = let at : get_or t.basis (suc k) 0 ≡ 1 + length p.costs + k = basic_at p (suc k) (omega (arith, l, basics)) in omega (arith, at, f, m, height)

-- where the variable v is basic in the row i
pub record IsBasicAt (t : Table) (v i : ℕ) : Type 0 where
  pub inside : i < length t.rows
  pub column : v < t.variables
  pub positive : pos 0 <ℤ entry t i v
  pub small_right : unsigned_abs (right_side t i) < 2 ^ 63
  pub small_entry : unsigned_abs (entry t i v) < 2 ^ 63

pub basic_at_place : (t : Table) (v i : ℕ) → IsForm t → row_of_basic t v ≡ Some i → IsBasicAt t v i
basic_at_place t v i form e =
    let at = row_place t v (Some i) e in
    let inside : i < length t.rows = omega (arith, at.0, form.basics) in
    let column : v < t.variables = subst (λ (k : ℕ). k < t.variables) at.1 (form.solved.within i inside) in
    record {
      inside = inside;
      column = column;
      positive = subst (λ (k : ℕ). pos 0 <ℤ entry t i k) at.1 (form.solved.positive i inside);
      small_right = entry_small t i t.variables form inside (omega arith);
      small_entry = entry_small t i v form inside (omega (arith, column));
    }

pub basic_here : (t : Table) (places : List (Option ℕ)) (v i : ℕ) → IsForm t → places ≡ places_of t → v < length places → get_or places v None ≡ Some i → IsBasicAt t v i
basic_here t places v i form e h is = basic_at_place t v i form (sym (place_at t places v None e h) ∙ is)
