-- What leaves and what enters.
use Rattle.std.proofs.Common.{ℕ, zero, suc, ◌≡◌, ◌<◌, arith, refl, ap, sym, ◌∙◌, inl, inr, ◌⊎◌, ⊎_elim, subst, List, [], ◌∷◌, length, get_or, Some, None, true, false, eqb}
use Rattle.std.specs.Prelude.{ℤ, pos, ◌<ℤ◌, ◌≤ℤ◌, Option, find, int_lt}
use lib.IntN.{neg_ℤ}
use Rattle.std.specs.List.{All, range_with_len}
use Rattle.std.proofs.lemmas.Bool.{cases_eq, cases_Bool, eq-eqb, ne_eqb, cond-true, cond-false}
use Rattle.std.proofs.lemmas.Int.{ints}
use Rattle.std.proofs.lemmas.List.Elements.{All-cons}
use Rattle.std.proofs.lemmas.List.FromFn.{length-range_with_len, get_or-range_with_len}
use Rattle.row_program.specs.Forms.{Table, entry, right_side, basic_of, tableau, next_form, IsNonbasic, IsSolved}
use Rattle.row_program.specs.Method.{row_of_basic, is_negative, negative_in, row_of_found, leaving, value_count, column, column_in, difference, comes_before, candidates, first_least, first_least_of, entering, step, step_at, pivot_at}
use Rattle.pivot_form.proofs.NextForm.{IsShaped}
use Rattle.dual_theory.specs.Runs.{GoesOn}
use Rattle.dual_theory.proofs.Lex.{LexNonnegative}
use Rattle.dual_theory.proofs.Orders.{IsColumn}
use Rattle.dual_theory.proofs.Found.{option_cases, none_some, some_same, find_some, find_none, row_of_some, row_of_is, row_of_free, AtMost, least_of, filter_all, filter_has}

pub tells_below : (x y : ℤ) → int_lt x y ≡ true → x <ℤ y
tells_below x y h = grind (arith, ints)

pub tells_above : (x y : ℤ) → int_lt x y ≡ false → y ≤ℤ x
tells_above x y h = grind (arith, ints)

pub shows_below : (x y : ℤ) → x <ℤ y → int_lt x y ≡ true
shows_below x y h = grind (arith, ints)

-- ---- what leaves
leaving_at : (t : Table) (o : Option ℕ) (r : ℕ) → row_of_found t o ≡ Some r → (v : ℕ) × (o ≡ Some v) × (row_of_basic t v ≡ Some r)
leaving_at t None r e = none_some None r refl e
leaving_at t (Some v) r e = (v, refl, e)

-- the variable that leaves, which is basic in the row
pub leaving_of : (t : Table) (r : ℕ) → leaving t ≡ Some r → (v : ℕ) × (row_of_basic t v ≡ Some r) × (right_side t r <ℤ pos 0)
leaving_of t r e =
    let at = leaving_at t (find (is_negative t) (range_with_len 0 t.variables)) r e in
    let negative : is_negative t at.0 ≡ true = find_some (is_negative t) (range_with_len 0 t.variables) at.0 at.1 in
    (at.0, at.2, tells_below (right_side t r) (pos 0) (sym (ap (negative_in t) at.2) ∙ negative))

pub leaving_negative : (t : Table) (r : ℕ) → leaving t ≡ Some r → right_side t r <ℤ pos 0
leaving_negative t r e = let of = leaving_of t r e in of.2

pub leaving_row : (t : Table) (r : ℕ) → length t.basis ≡ length t.rows → leaving t ≡ Some r → r < length t.rows
leaving_row t r basics e = let of = leaving_of t r e in let found = row_of_some t of.0 r basics of.1 in found.0

in_range : (n v : ℕ) → v < n → get_or (range_with_len 0 n) v 0 ≡ v
in_range n v h = get_or-range_with_len 0 n v 0 h ∙ omega arith

leaving_some : (t : Table) (o : Option ℕ) (v i : ℕ) → o ≡ Some v → row_of_basic t v ≡ Some i → row_of_found t o ≡ None → ⊥
leaving_some t None v i e f g = none_some None v refl e
leaving_some t (Some u) v i e f g = let h : u ≡ v = some_same (Some u) u v refl e in none_some (row_of_basic t u) i g (ap (row_of_basic t) h ∙ f)

-- where nothing leaves, nothing is negative
pub leaving_none : (t : Table) (i : ℕ) → IsShaped t → leaving t ≡ None → i < length t.rows → pos 0 ≤ℤ right_side t i
leaving_none t i shape e h =
    let v = basic_of t i in
    let inside : v < t.variables = shape.solved.within i h in
    let row : row_of_basic t v ≡ Some i = row_of_is t i shape h in
    let test : is_negative t v ≡ int_lt (right_side t i) (pos 0) = ap (negative_in t) row in
    ⊎_elim
    (λ (none : find (is_negative t) (range_with_len 0 t.variables) ≡ None).
    let off : is_negative t (get_or (range_with_len 0 t.variables) v 0) ≡ false = find_none (is_negative t) (range_with_len 0 t.variables) none v 0 (omega (arith, inside, length-range_with_len 0 t.variables)) in
    tells_above (right_side t i) (pos 0) (sym test ∙ sym (ap (is_negative t) (in_range t.variables v inside)) ∙ off))
    (λ some. absurd (let negative : is_negative t some.0 ≡ true = find_some (is_negative t) (range_with_len 0 t.variables) some.0 some.1 in
    ⊎_elim
    (λ none. let clash : false ≡ true = sym (ap (negative_in t) none) ∙ negative in cc)
    (λ there. leaving_some t (find (is_negative t) (range_with_len 0 t.variables)) some.0 there.0 some.1 there.1 e)
    (option_cases (row_of_basic t some.0))))
    (option_cases (find (is_negative t) (range_with_len 0 t.variables)))

-- ---- what enters
all_below : (n : ℕ) → All (λ j. j < n) (range_with_len 0 n)
all_below n k d h =
    let l : k < n = omega (arith, h, length-range_with_len 0 n) in
    subst (λ (j : ℕ). j < n) (sym (get_or-range_with_len 0 n k d l)) (omega (arith, l))

pub candidates_are : (t : Table) (r : ℕ) → All (λ j. (j < t.variables) × (int_lt (entry t r j) (pos 0) ≡ true)) (candidates t r)
candidates_are t r = filter_all (λ j. int_lt (entry t r j) (pos 0)) (λ j. j < t.variables) (range_with_len 0 t.variables) (all_below t.variables)

pub candidates_have : (t : Table) (r : ℕ) (Q : ℕ → Type 0) → All Q (candidates t r) → (j : ℕ) → j < t.variables → entry t r j <ℤ pos 0 → Q j
candidates_have t r Q a j h negative =
    let at : get_or (range_with_len 0 t.variables) j 0 ≡ j = in_range t.variables j h in
    subst Q at (filter_has (λ k. int_lt (entry t r k) (pos 0)) Q (range_with_len 0 t.variables) a j (omega (arith, h, length-range_with_len 0 t.variables)) (subst (λ (k : ℕ). int_lt (entry t r k) (pos 0) ≡ true) (sym at) (shows_below (entry t r j) (pos 0) negative)))

entering_at : (t : Table) (r : ℕ) (js : List ℕ) (c : ℕ) → All (λ j. (j < t.variables) × (int_lt (entry t r j) (pos 0) ≡ true)) js → first_least_of (comes_before t r) js ≡ Some c
    → ((c < t.variables) × (int_lt (entry t r c) (pos 0) ≡ true)) × All (AtMost (value_count t) (column t) (λ j. neg_ℤ (entry t r j)) c) js
entering_at t r [] c a e = none_some None c refl e
entering_at t r (j ∷ js) c a e =
    let got = least_of (value_count t) (column t) (λ k. neg_ℤ (entry t r k)) (λ k. (k < t.variables) × (int_lt (entry t r k) (pos 0) ≡ true)) (λ k both. let low = tells_below (entry t r k) (pos 0) both.1 in omega (arith, ints, low)) j js (a zero 0 (omega arith)) (λ k d h. a (suc k) d (omega (arith, h))) in
    let is : first_least (comes_before t r) j js ≡ c = some_same (Some (first_least (comes_before t r) j js)) (first_least (comes_before t r) j js) c refl e in
    subst (λ (x : ℕ). ((x < t.variables) × (int_lt (entry t r x) (pos 0) ≡ true)) × All (AtMost (value_count t) (column t) (λ k. neg_ℤ (entry t r k)) x) (j ∷ js)) is
    (got.0, All-cons (AtMost (value_count t) (column t) (λ k. neg_ℤ (entry t r k)) (first_least (comes_before t r) j js)) j js got.1 got.2)

pub entering_column : (t : Table) (r c : ℕ) → entering t r ≡ Some c → c < t.variables
entering_column t r c e = let got = entering_at t r (candidates t r) c (candidates_are t r) e in got.0.0

pub entering_negative : (t : Table) (r c : ℕ) → entering t r ≡ Some c → entry t r c <ℤ pos 0
entering_negative t r c e = let got = entering_at t r (candidates t r) c (candidates_are t r) e in tells_below (entry t r c) (pos 0) got.0.1

-- the column that enters is least among those of the candidates
pub entering_least : (t : Table) (r c : ℕ) → entering t r ≡ Some c → (j : ℕ) → j < t.variables → entry t r j <ℤ pos 0 → LexNonnegative (value_count t) 0 (difference (column t j) (neg_ℤ (entry t r j)) (column t c) (neg_ℤ (entry t r c)))
entering_least t r c e j h negative =
    let got = entering_at t r (candidates t r) c (candidates_are t r) e in
    candidates_have t r (AtMost (value_count t) (column t) (λ k. neg_ℤ (entry t r k)) c) got.1 j h negative

-- an entry other than 0 in a row whose basic entry is positive and another's basic entries are 0
pub entering_free : (t : Table) (r c : ℕ) → IsSolved (tableau t) → r < length t.rows → entry t r c <ℤ pos 0 → IsNonbasic (tableau t) c
entering_free t r c solved within negative i h e =
    ⊎_elim
    (λ (same : i ≡ r).
    let there : basic_of t r ≡ c = sym (ap (basic_of t) same) ∙ e in
    let p : pos 0 <ℤ entry t r c = subst (λ (x : ℕ). pos 0 <ℤ entry t r x) there (solved.positive r within) in
    absurd (omega (arith, ints, p, negative)))
    (λ apart.
    let z : entry t r c ≡ pos 0 = subst (λ (x : ℕ). entry t r x ≡ pos 0) e (solved.clear i r h within (λ f. apart (sym f))) in
    absurd (omega (arith, ints, z, negative)))
    (cases_eq i r)

none_at : (t : Table) (r : ℕ) (js : List ℕ) → first_least_of (comes_before t r) js ≡ None → js ≡ []
none_at t r [] e = refl
none_at t r (j ∷ js) e = none_some (Some (first_least (comes_before t r) j js)) (first_least (comes_before t r) j js) e refl

-- where nothing enters, no entry of the row is negative
pub entering_none : (t : Table) (r j : ℕ) → entering t r ≡ None → j < t.variables → pos 0 ≤ℤ entry t r j
entering_none t r j e h =
    ⊎_elim
    (λ (low : int_lt (entry t r j) (pos 0) ≡ true). absurd (candidates_have t r (λ k. ⊥) (subst (All (λ k. ⊥)) (sym (none_at t r (candidates t r) e)) (λ k d l. absurd (omega (arith, l)))) j h (tells_below (entry t r j) (pos 0) low)))
    (λ high. tells_above (entry t r j) (pos 0) high)
    (cases_Bool (int_lt (entry t r j) (pos 0)))

-- ---- columns
pub is_column : (t : Table) (j : ℕ) → IsShaped t → IsNonbasic (tableau t) j → IsColumn (tableau t) j (column t j)
is_column t j shape free = record {
  of_basic = λ i h. ap (column_in t j (basic_of t i)) (row_of_is t i shape h);
  of_self = ap (column_in t j j) (row_of_free t j shape.basics free) ∙ cond-true (eqb j j) (pos 1) (pos 0) (eq-eqb j j refl);
  of_nonbasic = λ v off apart. ap (column_in t j v) (row_of_free t v shape.basics off) ∙ cond-false (eqb v j) (pos 1) (pos 0) (ne_eqb v j apart);
}

-- ---- steps
pub step_is_next : (t : Table) (r c : ℕ) → leaving t ≡ Some r → entering t r ≡ Some c → step t ≡ next_form t r c
step_is_next t r c e f = ap (step_at t) e ∙ ap (pivot_at t r) f

pub step_stays_best : (t : Table) → leaving t ≡ None → step t ≡ t
step_stays_best t e = ap (step_at t) e

pub step_stays_never : (t : Table) (r : ℕ) → leaving t ≡ Some r → entering t r ≡ None → step t ≡ t
step_stays_never t r e f = ap (step_at t) e ∙ ap (pivot_at t r) f

-- a form goes on, or is the last
pub goes_on : (t : Table) → GoesOn t ⊎ (step t ≡ t)
goes_on t =
    ⊎_elim
    (λ none. inr (step_stays_best t none))
    (λ some. ⊎_elim (λ none. inr (step_stays_never t some.0 some.1 none)) (λ there. inl (some.0, there.0, some.1, there.1)) (option_cases (entering t some.0)))
    (option_cases (leaving t))
