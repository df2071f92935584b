-- Lemmas on equations: combinations, turned rows, reduced rows and large entries.
use Rattle.std.proofs.Common.{ℕ, zero, suc, ◌≡◌, ◌≢◌, ◌<◌, ◌≤◌, ◌+◌, ◌*◌, ◌%◌, ◌/◌, ◌^◌, arith, refl, ap, sym, ◌∙◌, List, [], ◌∷◌, length, get_or, set, map, drop, ◌++◌, subst, Some, None, inl, inr, ◌⊎◌, ⊎_elim, Bool, true, false, cond}
use Rattle.std.specs.Prelude.{ℤ, pos, negsuc, ◌*ℤ◌, ◌-ℤ◌, ◌<ℤ◌, ◌≤ℤ◌, int_lt, unsigned_abs, Option, Vec}
use lib.IntN.{neg_ℤ}
use Prim.Native.Nat.{◌∣◌}
use Rattle.std.specs.List.{All}
use Rattle.std.specs.Option.{option_or}
use Rattle.std.specs.Int.RustNames.{int_div}
use Rattle.std.proofs.lemmas.Int.{ints, unsigned_abs-mul}
use Rattle.std.proofs.lemmas.Bool.{cases_lt}
use Rattle.std.proofs.lemmas.Bool.Decides.{nat_tests}
use Rattle.std.proofs.lemmas.List.{length-map, ext_get_or}
use Rattle.std.proofs.lemmas.List.Elements.{All-cons}
use Rattle.std.proofs.lemmas.Nat.Gcd.{dvd-zero, mod-eq-zero_of_dvd, le_of_dvd}
use Rattle.std.proofs.Math.ListN.{get_or-map}
use Rattle.std.proofs.Math.Nat.{dvd-mul_right, dvd_of_mul-dvd-mul_right}
use Rattle.std.specs.Int.{IsGcd}
use Rattle.exact_num.specs.Divisors.{gcd_of, row_gcd, primitive, IsPrimitive}
use Rattle.exact_num.proofs.Divisors.{fold_divides, fold_greatest, exact, zero_map, zero_fold, primitive_times, primitive_lowest, gauss, IsGcd-gcd_of}
use Rattle.exact_num.proofs.Bounds.{small_step}
use Rattle.exact_num.proofs.Ring.{leaf, times, minus, same}
use Rattle.row_program.specs.Forms.{combination, eliminated, turned, map_from, first_large, first_large_of}
use Rattle.pivot_form.specs.Invariant.{row_lists}
use Rattle.pivot_form.proofs.Sums.{cancel}

-- ---- combinations
pub length-combination : (p q : ℤ) (row lead : List ℤ) → length lead ≡ length row → length (combination p row q lead) ≡ length row
length-combination p q [] lead h = refl
length-combination p q (x ∷ row) [] h = h
length-combination p q (x ∷ row) (y ∷ lead) h = ap suc (length-combination p q row lead (omega (arith, h)))

pub get_or-combination : (p q : ℤ) (row lead : List ℤ) (k : ℕ) (d : ℤ) → length lead ≡ length row → k < length row → get_or (combination p row q lead) k d ≡ p *ℤ get_or row k d -ℤ q *ℤ get_or lead k d
get_or-combination p q [] lead k d h l = absurd (omega (arith, l))
get_or-combination p q (x ∷ row) [] k d h l = absurd (omega (arith, h))
get_or-combination p q (x ∷ row) (y ∷ lead) zero d h l = refl
get_or-combination p q (x ∷ row) (y ∷ lead) (suc k) d h l = get_or-combination p q row lead k d (omega (arith, h)) (omega (arith, l))

pub small_combination : (p q : ℤ) (row lead : List ℤ) → length lead ≡ length row → unsigned_abs p < 2 ^ 63 → unsigned_abs q < 2 ^ 63 → All (λ x. unsigned_abs x < 2 ^ 63) row → All (λ x. unsigned_abs x < 2 ^ 63) lead → All (λ x. unsigned_abs x < 2 ^ 127) (combination p row q lead)
small_combination p q row lead n h i a b k d l =
    let within : k < length row = omega (arith, l, length-combination p q row lead n) in
    subst (λ (z : ℤ). unsigned_abs z < 2 ^ 127) (sym (get_or-combination p q row lead k d n within)) (small_step p (get_or row k d) q (get_or lead k d) h (a k d within) i (b k d (omega arith)))

-- ---- turned rows
below_zero : (x : ℤ) → x <ℤ pos 0 → int_lt x (pos 0) ≡ true
below_zero (pos n) h = absurd (omega (arith, ints, h))
below_zero (negsuc n) h = refl

not_below_zero : (x : ℤ) → pos 0 ≤ℤ x → int_lt x (pos 0) ≡ false
not_below_zero x h = grind (arith, ints)

pub at_true : {X : Type 0} (b : Bool) (x y : X) → b ≡ true → cond b x y ≡ x
at_true true x y e = refl
at_true false x y e = cc

pub at_false : {X : Type 0} (b : Bool) (x y : X) → b ≡ false → cond b x y ≡ y
at_false true x y e = cc
at_false false x y e = refl

pub turned_negative : (column : ℕ) (row : List ℤ) → get_or row column (pos 0) <ℤ pos 0 → turned column row ≡ map (λ x. neg_ℤ x) row
turned_negative column row h = at_true (int_lt (get_or row column (pos 0)) (pos 0)) (map (λ x. neg_ℤ x) row) row (below_zero (get_or row column (pos 0)) h)

pub turned_positive : (column : ℕ) (row : List ℤ) → pos 0 ≤ℤ get_or row column (pos 0) → turned column row ≡ row
turned_positive column row h = at_false (int_lt (get_or row column (pos 0)) (pos 0)) (map (λ x. neg_ℤ x) row) row (not_below_zero (get_or row column (pos 0)) h)

-- a turned row is the row times a sign
pub record IsTurned (column : ℕ) (row : List ℤ) (s : ℤ) : Type 0 where
  pub sign : (s ≡ pos 1) ⊎ (s ≡ negsuc 0)
  pub width : length (turned column row) ≡ length row
  pub entries : (j : ℕ) → get_or (turned column row) j (pos 0) ≡ s *ℤ get_or row j (pos 0)
  pub sizes : (j : ℕ) → unsigned_abs (get_or (turned column row) j (pos 0)) ≡ unsigned_abs (get_or row j (pos 0))

pub signed_once : (x : ℤ) → x ≡ pos 1 *ℤ x
signed_once x = omega (arith, ints)

pub signed_over : (x : ℤ) → neg_ℤ x ≡ negsuc 0 *ℤ x
signed_over x = omega (arith, ints)

size_of_neg : (x : ℤ) → unsigned_abs (neg_ℤ x) ≡ unsigned_abs x
size_of_neg x = omega (arith, ints)

pub turned_over : (column : ℕ) (row : List ℤ) → get_or row column (pos 0) <ℤ pos 0 → IsTurned column row (negsuc 0)
turned_over column row h = record {
  sign = inr refl;
  width = ap length is ∙ length-map row (λ x. neg_ℤ x);
  entries = λ j. at j ∙ signed_over (get_or row j (pos 0));
  sizes = λ j. ap unsigned_abs (at j) ∙ size_of_neg (get_or row j (pos 0));
}
  where
    is : turned column row ≡ map (λ x. neg_ℤ x) row
    is = turned_negative column row h

    at : (j : ℕ) → get_or (turned column row) j (pos 0) ≡ neg_ℤ (get_or row j (pos 0))
    at j = ap (λ (r : List ℤ). get_or r j (pos 0)) is ∙ get_or-map (λ x. neg_ℤ x) row j (pos 0)

pub turned_not : (column : ℕ) (row : List ℤ) → pos 0 ≤ℤ get_or row column (pos 0) → IsTurned column row (pos 1)
turned_not column row h = record {
  sign = inl refl;
  width = ap length (turned_positive column row h);
  entries = λ j. at j ∙ signed_once (get_or row j (pos 0));
  sizes = λ j. ap unsigned_abs (at j);
}
  where
    at : (j : ℕ) → get_or (turned column row) j (pos 0) ≡ get_or row j (pos 0)
    at j = ap (λ (r : List ℤ). get_or r j (pos 0)) (turned_positive column row h)

-- where the entry isn't 0, the turned row's is positive
pub turned_by : (column : ℕ) (row : List ℤ) → get_or row column (pos 0) ≢ pos 0 → (s : ℤ) × IsTurned column row s × (pos 0 <ℤ get_or (turned column row) column (pos 0))
turned_by column row apart = by_sign (get_or row column (pos 0)) refl
  where
    by_sign : (x : ℤ) → get_or row column (pos 0) ≡ x → (s : ℤ) × IsTurned column row s × (pos 0 <ℤ get_or (turned column row) column (pos 0))
    by_sign (pos zero) e = absurd (apart e)
    by_sign (pos (suc n)) e =
        let above : pos 0 ≤ℤ get_or row column (pos 0) = omega (arith, ints, e) in
        let is = turned_not column row above in
        (pos 1, is, omega (arith, ints, is.entries column, e))
    by_sign (negsuc n) e =
        let below : get_or row column (pos 0) <ℤ pos 0 = omega (arith, ints, e) in
        let is = turned_over column row below in
        (negsuc 0, is, omega (arith, ints, is.entries column, e))

-- ---- a row that is cleared already
pub scaled_zero : (p : ℤ) (row lead : List ℤ) → length lead ≡ length row → combination p row (pos 0) lead ≡ map (λ x. p *ℤ x) row
scaled_zero p [] lead h = refl
scaled_zero p (x ∷ row) [] h = absurd (omega (arith, h))
scaled_zero p (x ∷ row) (y ∷ lead) h =
    let first : p *ℤ x -ℤ pos 0 *ℤ y ≡ p *ℤ x = omega (arith, ints) in
    let rest : combination p row (pos 0) lead ≡ map (λ z. p *ℤ z) row = scaled_zero p row lead (omega (arith, h)) in
    cc

whole_times : (p g : ℕ) → p ∣ g → g ≡ g / p * p
whole_times p g h = let z = mod-eq-zero_of_dvd p h in omega (arith, z, split p g)
  where
    split : (p g : ℕ) → g ≡ g / p * p + g % p
    split p g = omega arith

pub scaled_entry : (p : ℕ) (row : List ℤ) (k : ℕ) → get_or (map (λ x. pos p *ℤ x) row) k (pos 0) ≡ pos p *ℤ get_or row k (pos 0)
scaled_entry p row k = subst (λ (z : ℤ). get_or (map (λ x. pos p *ℤ x) row) k z ≡ pos p *ℤ get_or row k (pos 0)) none (get_or-map (λ x. pos p *ℤ x) row k (pos 0))
  where
    none : pos p *ℤ pos 0 ≡ pos 0
    none = omega (arith, ints)

divides_scaled : (p : ℕ) (x : ℤ) → p ∣ unsigned_abs (pos p *ℤ x)
divides_scaled p x = subst (λ (n : ℕ). p ∣ n) (sym (unsigned_abs-mul (pos p) x)) (dvd-mul_right p (unsigned_abs x))

pub all_at : (P : ℤ → Type 0) (row : List ℤ) → ((k : ℕ) → k < length row → P (get_or row k (pos 0))) → All P row
all_at P [] h = λ k d l. absurd (omega (arith, l))
all_at P (x ∷ row) h = All-cons P x row (h zero (omega arith)) (all_at P row (λ k l. h (suc k) (omega (arith, l))))

scaled_gcd : (p : ℕ) (row : List ℤ) → 0 < p → IsPrimitive row → row_gcd (map (λ x. pos p *ℤ x) row) ≡ p
scaled_gcd p row h lowest =
    let scaled : List ℤ = map (λ x. pos p *ℤ x) row in
    let g : ℕ = row_gcd scaled in
    let wide : length scaled ≡ length row = length-map row (λ x. pos p *ℤ x) in
    let below : p ∣ g = fold_greatest p 0 scaled (dvd-zero p) (all_at (λ x. p ∣ unsigned_abs x) scaled (λ k l. subst (λ (z : ℤ). p ∣ unsigned_abs z) (sym (scaled_entry p row k)) (divides_scaled p (get_or row k (pos 0))))) in
    let whole : g ≡ g / p * p = whole_times p g below in
    let one : g / p ≡ 1 = lowest (g / p) (all_at (λ x. g / p ∣ unsigned_abs x) row (λ k l. dvd_of_mul-dvd-mul_right (g / p) h (subst (λ (n : ℕ). g / p * p ∣ n) (size k) (subst (λ (m : ℕ). m ∣ unsigned_abs (get_or scaled k (pos 0))) whole ((fold_divides 0 scaled).1 k (pos 0) (omega (arith, l, wide))))))) in
    whole ∙ ap (λ (n : ℕ). n * p) one ∙ omega arith
  where
    size : (k : ℕ) → unsigned_abs (get_or (map (λ x. pos p *ℤ x) row) k (pos 0)) ≡ unsigned_abs (get_or row k (pos 0)) * p
    size k = ap unsigned_abs (scaled_entry p row k) ∙ unsigned_abs-mul (pos p) (get_or row k (pos 0)) ∙ omega arith

divided_back : (p : ℕ) (x : ℤ) → 0 < p → int_div (pos p *ℤ x) (pos p) ≡ x
divided_back p x h =
    let e = exact (pos p *ℤ x) p (divides_scaled p x) in
    let Z = leaf (int_div (pos p *ℤ x) (pos p)) in
    cancel (pos p) (int_div (pos p *ℤ x) (pos p)) x (omega (arith, ints, h)) (same (times (leaf (pos p)) Z) (times Z (leaf (pos p))) (omega arith) ∙ e)

scaled_back : (p : ℕ) (row : List ℤ) → 0 < p → map (λ x. int_div x (pos p)) (map (λ x. pos p *ℤ x) row) ≡ row
scaled_back p [] h = refl
scaled_back p (x ∷ row) h =
    let first : int_div (pos p *ℤ x) (pos p) ≡ x = divided_back p x h in
    let rest : map (λ y. int_div y (pos p)) (map (λ y. pos p *ℤ y) row) ≡ row = scaled_back p row h in
    cc

pub scaled_primitive : (p : ℕ) (row : List ℤ) → 0 < p → IsPrimitive row → primitive (map (λ x. pos p *ℤ x) row) ≡ row
scaled_primitive p row h lowest = ap (λ (g : ℕ). map (λ x. int_div x (pos g)) (map (λ x. pos p *ℤ x) row)) (scaled_gcd p row h lowest) ∙ scaled_back p row h

-- ---- a row times a positive number is reduced to the same
zero_scaled : (p : ℕ) → pos p *ℤ pos 0 ≡ pos 0
zero_scaled p = omega (arith, ints)

scaled_twice : (p g : ℕ) (row : List ℤ) → map (λ x. pos p *ℤ x) (map (λ x. x *ℤ pos g) row) ≡ map (λ x. pos (p * g) *ℤ x) row
scaled_twice p g [] = refl
scaled_twice p g (x ∷ row) =
    let P = leaf (pos p) in let G = leaf (pos g) in let X = leaf x in
    let first : pos p *ℤ (x *ℤ pos g) ≡ pos (p * g) *ℤ x = same (times P (times X G)) (times (times P G) X) (omega arith) in
    let rest : map (λ y. pos p *ℤ y) (map (λ y. y *ℤ pos g) row) ≡ map (λ y. pos (p * g) *ℤ y) row = scaled_twice p g row in
    cc

product_positive : (p g : ℕ) → 0 < p → 0 < g → 0 < p * g
product_positive zero g h i = absurd (omega (arith, h))
product_positive (suc p) zero h i = absurd (omega (arith, i))
product_positive (suc p) (suc g) h i = omega arith

pub primitive_scaled : (p : ℕ) (row : List ℤ) → 0 < p → primitive (map (λ x. pos p *ℤ x) row) ≡ primitive row
primitive_scaled p row h = ⊎_elim none some (cases_lt 0 (row_gcd row))
  where
    some : row_gcd row ≤ 0 → primitive (map (λ x. pos p *ℤ x) row) ≡ primitive row
    some z = ap primitive (zero_map (λ x. pos p *ℤ x) row (zero_scaled p) (zero_fold 0 row (omega (arith, z))).1)

    none : 0 < row_gcd row → primitive (map (λ x. pos p *ℤ x) row) ≡ primitive row
    none above =
        let g = row_gcd row in
        ap (λ (r : List ℤ). primitive (map (λ x. pos p *ℤ x) r)) (sym (primitive_times row))
        ∙ ap primitive (scaled_twice p g (primitive row))
        ∙ scaled_primitive (p * g) (primitive row) (product_positive p g h above) (primitive_lowest row above)

pub positive_is : (p : ℤ) → pos 0 <ℤ p → p ≡ pos (unsigned_abs p)
positive_is p h = omega (arith, ints, h)

pub eliminated_kept : (column : ℕ) (row lead : List ℤ) → length lead ≡ length row → pos 0 <ℤ get_or lead column (pos 0) → get_or row column (pos 0) ≡ pos 0 → IsPrimitive row → eliminated column row lead ≡ row
eliminated_kept column row lead same_length above zero_there lowest =
    ap (λ (q : ℤ). primitive (combination (get_or lead column (pos 0)) row q lead)) zero_there
    ∙ ap primitive (scaled_zero (get_or lead column (pos 0)) row lead same_length)
    ∙ ap (λ (p : ℤ). primitive (map (λ x. p *ℤ x) row)) (positive_is (get_or lead column (pos 0)) above)
    ∙ scaled_primitive (unsigned_abs (get_or lead column (pos 0))) row (omega (arith, ints, above)) lowest

-- the same multiple of the lead, as a fraction over another denominator: d / n is q / p
scaled_combination : (p q n d : ℤ) (row lead : List ℤ) → n *ℤ p ≡ q *ℤ d → map (λ x. d *ℤ x) (combination p row q lead) ≡ map (λ x. p *ℤ x) (combination d row n lead)
scaled_combination p q n d [] lead e = refl
scaled_combination p q n d (x ∷ row) [] e = refl
scaled_combination p q n d (x ∷ row) (y ∷ lead) e =
    let P = leaf p in let Q = leaf q in let N = leaf n in let D = leaf d in let X = leaf x in let Y = leaf y in
    let left : d *ℤ (p *ℤ x -ℤ q *ℤ y) ≡ (p *ℤ d) *ℤ x -ℤ (q *ℤ d) *ℤ y = same (times D (minus (times P X) (times Q Y))) (minus (times (times P D) X) (times (times Q D) Y)) (omega arith) in
    let right : p *ℤ (d *ℤ x -ℤ n *ℤ y) ≡ (p *ℤ d) *ℤ x -ℤ (n *ℤ p) *ℤ y = same (times P (minus (times D X) (times N Y))) (minus (times (times P D) X) (times (times N P) Y)) (omega arith) in
    let first : d *ℤ (p *ℤ x -ℤ q *ℤ y) ≡ p *ℤ (d *ℤ x -ℤ n *ℤ y) = left ∙ ap (λ (z : ℤ). (p *ℤ d) *ℤ x -ℤ z *ℤ y) (sym e) ∙ sym right in
    let rest : map (λ z. d *ℤ z) (combination p row q lead) ≡ map (λ z. p *ℤ z) (combination d row n lead) = scaled_combination p q n d row lead e in
    cc

primitive_positive : (p : ℤ) (row : List ℤ) → pos 0 <ℤ p → primitive (map (λ x. p *ℤ x) row) ≡ primitive row
primitive_positive p row h = ap (λ (m : ℤ). primitive (map (λ x. m *ℤ x) row)) (positive_is p h) ∙ primitive_scaled (unsigned_abs p) row (omega (arith, ints, h))

pub primitive_factor : (p q n d : ℤ) (row lead : List ℤ) → pos 0 <ℤ p → pos 0 <ℤ d → n *ℤ p ≡ q *ℤ d → primitive (combination d row n lead) ≡ primitive (combination p row q lead)
primitive_factor p q n d row lead h i e =
    sym (primitive_positive p (combination d row n lead) h)
    ∙ ap primitive (sym (scaled_combination p q n d row lead e))
    ∙ primitive_positive d (combination p row q lead) i

-- the numerator in lowest terms is no larger
pub factor_small : (p q n d : ℤ) (bound : ℕ) → gcd_of (unsigned_abs n) (unsigned_abs d) ≡ 1 → n *ℤ p ≡ q *ℤ d → pos 0 <ℤ p → unsigned_abs q < bound → unsigned_abs n < bound
factor_small p q n d bound one e above small =
    let sizes : unsigned_abs n * unsigned_abs p ≡ unsigned_abs q * unsigned_abs d = sym (unsigned_abs-mul n p) ∙ ap unsigned_abs e ∙ unsigned_abs-mul q d in
    let is : IsGcd (unsigned_abs n) (unsigned_abs d) 1 = subst (λ (g : ℕ). IsGcd (unsigned_abs n) (unsigned_abs d) g) one (IsGcd-gcd_of (unsigned_abs n) (unsigned_abs d)) in
    let divides : unsigned_abs n ∣ unsigned_abs q = gauss (unsigned_abs n) (unsigned_abs d) (unsigned_abs q) is (subst (λ (m : ℕ). unsigned_abs n ∣ m) sizes (dvd-mul_right (unsigned_abs n) (unsigned_abs p))) in
    bounded (unsigned_abs n) (unsigned_abs q) (unsigned_abs p) (unsigned_abs d) sizes divides (omega (arith, ints, above)) small
  where
    bounded : (a b m k : ℕ) → a * m ≡ b * k → a ∣ b → 0 < m → b < bound → a < bound
    bounded zero b m k s h i l = omega (arith, l)
    bounded (suc a) zero zero k s h i l = absurd (omega (arith, i))
    bounded (suc a) zero (suc m) k s h i l = absurd (omega (arith, s))
    bounded (suc a) (suc b) m k s h i l = let no_more : suc a ≤ suc b = le_of_dvd (omega arith) h in omega (arith, no_more, l)

-- ---- large entries
pub first_large_here : (x : ℤ) (row : List ℤ) → 2 ^ 63 ≤ unsigned_abs x → first_large (x ∷ row) ≡ Some (unsigned_abs x)
first_large_here x row h = grind (arith, nat_tests)

pub first_large_past : (x : ℤ) (row : List ℤ) → unsigned_abs x < 2 ^ 63 → first_large (x ∷ row) ≡ first_large row
first_large_past x row h = grind (arith, nat_tests)

clash : {P : Type 0} {n : ℕ} → Some n ≡ None → P
clash e = cc

-- all entries are small where none is large
pub small_from_none : (row : List ℤ) → first_large row ≡ None → All (λ x. unsigned_abs x < 2 ^ 63) row
small_from_none [] e = λ k d l. absurd (omega (arith, l))
small_from_none (x ∷ row) e = ⊎_elim (λ low. All-cons (λ (y : ℤ). unsigned_abs y < 2 ^ 63) x row low (small_from_none row (sym (first_large_past x row low) ∙ e))) (λ high. clash (sym (first_large_here x row high) ∙ e)) (cases_lt (unsigned_abs x) (2 ^ 63))

pub none_from_small : (row : List ℤ) → All (λ x. unsigned_abs x < 2 ^ 63) row → first_large row ≡ None
none_from_small [] a = refl
none_from_small (x ∷ row) a = first_large_past x row (a zero (pos 0) (omega arith)) ∙ none_from_small row (λ k d h. a (suc k) d (omega (arith, h)))

-- the first of rows that are small is none
pub rows_past : (row : List ℤ) (rows : List (List ℤ)) → first_large row ≡ None → first_large_of (row ∷ rows) ≡ first_large_of rows
rows_past row rows e = ap (λ (o : Option ℕ). option_or o (first_large_of rows)) e

none_left : (a b : Option ℕ) → option_or a b ≡ None → (a ≡ None) × (b ≡ None)
none_left None b e = (refl, e)
none_left (Some n) b e = clash e

pub small_rows_from_none : (rows : List (List ℤ)) → first_large_of rows ≡ None → All (λ row. All (λ x. unsigned_abs x < 2 ^ 63) row) rows
small_rows_from_none [] e = λ k d l. absurd (omega (arith, l))
small_rows_from_none (row ∷ rows) e = let both = none_left (first_large row) (first_large_of rows) e in All-cons (λ (r : List ℤ). All (λ x. unsigned_abs x < 2 ^ 63) r) row rows (small_from_none row both.0) (small_rows_from_none rows both.1)

pub none_from_small_rows : (rows : List (List ℤ)) → All (λ row. All (λ x. unsigned_abs x < 2 ^ 63) row) rows → first_large_of rows ≡ None
none_from_small_rows [] a = refl
none_from_small_rows (row ∷ rows) a = rows_past row rows (none_from_small row (a zero [] (omega arith))) ∙ none_from_small_rows rows (λ k d h. a (suc k) d (omega (arith, h)))

-- ---- f of each item and its number
pub length-map_from : {X : Type 0} (f : ℕ → X → X) (i : ℕ) (xs : List X) → length (map_from f i xs) ≡ length xs
length-map_from f i [] = refl
length-map_from f i (x ∷ xs) = ap suc (length-map_from f (suc i) xs)

pub get_or-map_from : {X : Type 0} (f : ℕ → X → X) (i : ℕ) (xs : List X) (k j : ℕ) (d : X) → k < length xs → i + k ≡ j → get_or (map_from f i xs) k d ≡ f j (get_or xs k d)
get_or-map_from f i [] k j d h e = absurd (omega (arith, h))
get_or-map_from f i (x ∷ xs) zero j d h e = ap (λ (m : ℕ). f m x) (omega (arith, e))
get_or-map_from f i (x ∷ xs) (suc k) j d h e = get_or-map_from f (suc i) xs k j d (omega (arith, h)) (omega (arith, e))

pub same_combination : (p q : ℤ) (out row lead : List ℤ) → length row ≡ length out → length lead ≡ length out → ((k : ℕ) → k < length out → get_or out k (pos 0) ≡ p *ℤ get_or row k (pos 0) -ℤ q *ℤ get_or lead k (pos 0)) → out ≡ combination p row q lead
same_combination p q out row lead h i e = ext_get_or (pos 0) out (combination p row q lead) (omega (arith, h, i, length-combination p q row lead (omega (arith, h, i)))) (λ k l. e k l ∙ sym (get_or-combination p q row lead k (pos 0) (omega (arith, h, i)) (omega (arith, h, l))))

-- ---- turned rows, as code makes them
-- ---- f of the first n items, with their numbers
abbrev pub map_front_from : {X : Type 0} → (ℕ → X → X) → ℕ → ℕ → List X → List X
map_front_from f zero i xs = xs
map_front_from f (suc n) i [] = []
map_front_from f (suc n) i (x ∷ xs) = f i x ∷ map_front_from f n (suc i) xs

pub get_or-map_front_from : {X : Type 0} (f : ℕ → X → X) (n i : ℕ) (xs : List X) (d : X) → get_or (map_front_from f n i xs) n d ≡ get_or xs n d
get_or-map_front_from f zero i xs d = refl
get_or-map_front_from f (suc n) i [] d = refl
get_or-map_front_from f (suc n) i (x ∷ xs) d = get_or-map_front_from f n (suc i) xs d

pub map_front_from_more : {X : Type 0} (f : ℕ → X → X) (n i j : ℕ) (xs : List X) (d : X) → n < length xs → i + n ≡ j → set (map_front_from f n i xs) n (f j (get_or xs n d)) ≡ map_front_from f (n + 1) i xs
map_front_from_more f n i j [] d h e = absurd (omega (arith, h))
map_front_from_more f zero i j (x ∷ xs) d h e = let k : j ≡ i = omega (arith, e) in ap (λ (m : ℕ). f m x ∷ xs) k
map_front_from_more f (suc n) i j (x ∷ xs) d h e = ap (λ (r : List _). f i x ∷ r) (map_front_from_more f n (suc i) j xs d (omega (arith, h)) (omega (arith, e))) ∙ (let k : suc (n + 1) ≡ suc n + 1 = omega arith in ap (λ (m : ℕ). map_front_from f m i (x ∷ xs)) k)

pub map_front_from_all : {X : Type 0} (f : ℕ → X → X) (n i : ℕ) (xs : List X) → length xs ≤ n → map_front_from f n i xs ≡ map_from f i xs
map_front_from_all f zero i [] h = refl
map_front_from_all f zero i (x ∷ xs) h = absurd (omega (arith, h))
map_front_from_all f (suc n) i [] h = refl
map_front_from_all f (suc n) i (x ∷ xs) h = ap (λ (r : List _). f i x ∷ r) (map_front_from_all f n (suc i) xs (omega (arith, h)))

pub map_from_drop : {X : Type 0} (f : ℕ → X → X) (n i : ℕ) (xs : List X) (d : X) → n < length xs → map_from f i (drop n xs) ≡ f i (get_or xs n d) ∷ map_from f (i + 1) (drop (n + 1) xs)
map_from_drop f n i [] d h = absurd (omega (arith, h))
map_from_drop f zero i (x ∷ xs) d h = let k : suc i ≡ i + 1 = omega arith in ap (λ (m : ℕ). f i x ∷ map_from f m xs) k
map_from_drop f (suc n) i (x ∷ xs) d h = map_from_drop f n i xs d (omega (arith, h)) ∙ (let k : suc (n + 1) ≡ suc n + 1 = omega arith in ap (λ (m : ℕ). f i (get_or xs n d) ∷ map_from f (i + 1) (drop m (x ∷ xs))) k)

-- ---- rows in vectors
pub row_lists-set : {A : Type 0} (rows : List (Vec ℤ A)) (i : ℕ) (v : Vec ℤ A) → row_lists (set rows i v) ≡ set (row_lists rows) i v.items
row_lists-set [] i v = refl
row_lists-set (r ∷ rows) zero v = refl
row_lists-set (r ∷ rows) (suc i) v = ap (λ (xs : List (List ℤ)). r.items ∷ xs) (row_lists-set rows i v)

pub row_lists-get : {A : Type 0} (rows : List (Vec ℤ A)) (i : ℕ) (d : Vec ℤ A) → i < length rows → get_or (row_lists rows) i [] ≡ (get_or rows i d).items
row_lists-get [] i d h = absurd (omega (arith, h))
row_lists-get (r ∷ rows) zero d h = refl
row_lists-get (r ∷ rows) (suc i) d h = row_lists-get rows i d (omega (arith, h))

pub row_lists-push : {A : Type 0} (rows : List (Vec ℤ A)) (v : Vec ℤ A) → row_lists (rows ++ v ∷ []) ≡ row_lists rows ++ v.items ∷ []
row_lists-push [] v = refl
row_lists-push (r ∷ rows) v = ap (λ (xs : List (List ℤ)). r.items ∷ xs) (row_lists-push rows v)

pub length-row_lists : {A : Type 0} (rows : List (Vec ℤ A)) → length (row_lists rows) ≡ length rows
length-row_lists rows = length-map rows (λ r. r.items)

pub small_negated : (row : List ℤ) → All (λ x. unsigned_abs x < 2 ^ 63) row → All (λ x. unsigned_abs x < 2 ^ 63) (map neg_ℤ row)
small_negated row small = all_at (λ x. unsigned_abs x < 2 ^ 63) (map neg_ℤ row) (λ k l. subst (λ (n : ℕ). n < 2 ^ 63) (sym (ap unsigned_abs (get_or-map neg_ℤ row k (pos 0)) ∙ size_of_neg (get_or row k (pos 0)))) (small k (pos 0) (omega (arith, l, length-map row neg_ℤ))))
