-- What leaves, one row at a time, and the order of columns.
use Rattle.std.proofs.Common.{ℕ, zero, suc, ◌≡◌, ◌≢◌, ◌<◌, ◌≤◌, ◌+◌, arith, refl, ap, sym, ◌∙◌, subst, List, length, get_or, Some, None, ◌⊎◌, inl, inr, ⊎_elim, Bool, true, false}
use Rattle.std.specs.Prelude.{ℤ, pos, negsuc, ◌<ℤ◌, ◌≤ℤ◌, int_lt, Option, find}
use Rattle.std.specs.List.{range_with_len}
use Rattle.std.proofs.lemmas.Int.{ints}
use Rattle.std.proofs.lemmas.Bool.{cases_eq}
use Rattle.row_program.specs.Forms.{Table, right_side, basic_of}
use Rattle.row_program.specs.Method.{row_of_basic, is_negative, negative_in, row_of_found, leaving, lex_negative}
use Rattle.pivot_form.specs.Invariant.{IsForm}
use Rattle.lex_dual.specs.Choices.{IsFirstNegative}
use Rattle.lex_dual.proofs.Tables.{row_place, place_is, apart_basics, IsPlace}

pub is_below : (x : ℤ) → x <ℤ pos 0 → int_lt x (pos 0) ≡ true
is_below x h = grind (arith, ints)

pub not_below : (x : ℤ) → pos 0 ≤ℤ x → int_lt x (pos 0) ≡ false
not_below x h = grind (arith, ints)

-- ---- the order of columns
is_above : (x : ℤ) → pos 0 <ℤ x → int_lt (pos 0) x ≡ true
is_above x h = grind (arith, ints)

not_above : (x : ℤ) → x ≤ℤ pos 0 → int_lt (pos 0) x ≡ false
not_above x h = grind (arith, ints)

pub lex_past : (n m v : ℕ) (f : ℕ → ℤ) → n ≡ m + 1 → f v ≡ pos 0 → lex_negative n v f ≡ lex_negative m (v + 1) f
lex_past zero m v f h z = absurd (omega (arith, h))
lex_past (suc n) m v f h z =
    let low = not_below (f v) (omega (arith, ints, z)) in
    let high = not_above (f v) (omega (arith, ints, z)) in
    rw (low, high) (let e : suc v ≡ v + 1 = omega arith in let d : n ≡ m = omega (arith, h) in ap (λ (k : ℕ). lex_negative n k f) e ∙ ap (λ (k : ℕ). lex_negative k (v + 1) f) d)

pub lex_here : (n v : ℕ) (f : ℕ → ℤ) (x : ℤ) → 0 < n → f v ≡ x → x ≢ pos 0 → lex_negative n v f ≡ int_lt x (pos 0)
lex_here zero v f x h e apart = absurd (omega (arith, h))
lex_here (suc n) v f x h e apart = ⊎_elim
    (λ (low : x <ℤ pos 0). rw (is_below (f v) (omega (arith, ints, low, e))) (sym (is_below x low)))
    (λ (high : pos 0 <ℤ x). rw (not_below (f v) (omega (arith, ints, high, e)), is_above (f v) (omega (arith, ints, high, e))) (sym (not_below x (omega (arith, ints, high)))))
    (signs x apart)
  where
    signs : (x : ℤ) → x ≢ pos 0 → (x <ℤ pos 0) ⊎ (pos 0 <ℤ x)
    signs (pos zero) apart = absurd (apart refl)
    signs (pos (suc n)) apart = inr (omega (arith, ints))
    signs (negsuc n) apart = inl (omega (arith, ints))

-- ---- what leaves
leaves : (t : Table) (n : ℕ) (v i : ℕ) → find (is_negative t) (range_with_len 0 n) ≡ Some v → row_of_basic t v ≡ Some i → row_of_found t (find (is_negative t) (range_with_len 0 n)) ≡ Some i
leaves t n v i e f = ap (row_of_found t) e ∙ f

-- the first of a range that passes
found_in : (p : ℕ → Bool) (a n v : ℕ) → a ≤ v → v < a + n → p v ≡ true → ((u : ℕ) → a ≤ u → u < v → p u ≡ false) → find p (range_with_len a n) ≡ Some v
found_in p a zero v h l e first = absurd (omega (arith, h, l))
found_in p a (suc n) v h l e first = ⊎_elim
    (λ (at : a ≡ v). let here : p a ≡ true = ap p at ∙ e in rw here (ap (λ (m : ℕ). Some m) at))
    (λ apart. let past : p a ≡ false = first a (omega arith) (omega (arith, h, apart)) in rw past (found_in p (a + 1) n v (omega (arith, h, apart)) (omega (arith, l)) e (λ u m k. first u (omega (arith, m)) k)))
    (cases_eq a v)

none_in : (p : ℕ → Bool) (a n : ℕ) → ((u : ℕ) → a ≤ u → u < a + n → p u ≡ false) → find p (range_with_len a n) ≡ None
none_in p a zero fails = refl
none_in p a (suc n) fails = let here : p a ≡ false = fails a (omega arith) (omega arith) in rw here (none_in p (a + 1) n (λ u h l. fails u (omega (arith, h)) (omega (arith, l))))

negative_at : (t : Table) (v i : ℕ) → row_of_basic t v ≡ Some i → right_side t i <ℤ pos 0 → is_negative t v ≡ true
negative_at t v i e low = ap (negative_in t) e ∙ is_below (right_side t i) low

-- a variable isn't negative, unless it is basic in a negative row
not_negative : (t : Table) (v : ℕ) (o : Option ℕ) → row_of_basic t v ≡ o → ((i : ℕ) → o ≡ Some i → pos 0 ≤ℤ right_side t i) → is_negative t v ≡ false
not_negative t v None e above = ap (negative_in t) e
not_negative t v (Some i) e above = ap (negative_in t) e ∙ not_below (right_side t i) (above i refl)

in_row : (xs : List ℕ) (v i : ℕ) (o : Option ℕ) → IsPlace xs v o → o ≡ Some i → (i < length xs) × (get_or xs i 0 ≡ v)
in_row xs v i (Some k) at e = let same : k ≡ i = cc in subst (λ (m : ℕ). (m < length xs) × (get_or xs m 0 ≡ v)) same at
in_row xs v i None at e = absurd (let clash : Some i ≡ None = sym e in cc)

pub first_leaves : (t : Table) (o : Option ℕ) → IsForm t → IsFirstNegative t (length t.rows) o → leaving t ≡ o
first_leaves t None form none = ap (row_of_found t) (none_in (is_negative t) 0 t.variables (λ u h l. not_negative t u (row_of_basic t u) refl (λ i e. let at = in_row t.basis u i (row_of_basic t u) (row_place t u (row_of_basic t u) refl) e in none i (omega (arith, at.0, form.basics)))))
first_leaves t (Some b) form first =
    let inside : b < length t.basis = omega (arith, first.0, form.basics) in
    let at : row_of_basic t (basic_of t b) ≡ Some b = place_is t.basis (basic_of t b) (Some b) (apart_basics t form) (inside, refl) in
    leaves t t.variables (basic_of t b) b
    (found_in (is_negative t) 0 t.variables (basic_of t b) (omega arith) (let low = form.solved.within b first.0 in omega (arith, low)) (negative_at t (basic_of t b) b at first.1)
    (λ u h l. not_negative t u (row_of_basic t u) refl (λ i e.
    let there = in_row t.basis u i (row_of_basic t u) (row_place t u (row_of_basic t u) refl) e in
    ⊎_elim
    (λ (low : right_side t i <ℤ pos 0). let least = first.2 i (omega (arith, there.0, form.basics)) low in absurd (omega (arith, least, there.1, l)))
    (λ (high : pos 0 ≤ℤ right_side t i). high)
    (signs (right_side t i)))))
    at
  where
    signs : (x : ℤ) → (x <ℤ pos 0) ⊎ (pos 0 ≤ℤ x)
    signs (pos n) = inr (omega (arith, ints))
    signs (negsuc n) = inl (omega (arith, ints))
