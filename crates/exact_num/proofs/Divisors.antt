-- The greatest common divisor of two numbers and of a row.
use Rattle.std.proofs.Common.{ℕ, zero, suc, ◌≡◌, ◌<◌, ◌+◌, ◌*◌, ◌%◌, ◌/◌, arith, refl, ap, sym, ◌∙◌, List, [], ◌∷◌, length, get_or, take, map, subst}
use Rattle.std.specs.Prelude.{ℤ, pos, negsuc, ◌*ℤ◌, ◌<ℤ◌, unsigned_abs}
use Prim.Native.Nat.{◌∣◌}
use Rattle.std.specs.List.{All, fold}
use Rattle.std.specs.Int.{IsGcd}
use Rattle.std.specs.Int.RustNames.{int_div, int_rem}
use lib.IntN.{neg_ℤ}
use Rattle.std.proofs.lemmas.Int.{ints, quot-rem, unsigned_abs-mul}
use Rattle.std.proofs.lemmas.List.Elements.{All-cons}
use Rattle.std.proofs.lemmas.List.{length-map, length-take, get_or-take}
use Rattle.std.proofs.lemmas.Nat.Gcd.{dvd_refl, dvd_trans, mod-eq-zero_of_dvd, dvd-zero, le_of_dvd, IsGcd-from_mod, IsGcd-from_zero, same_from_IsGcd}
use Rattle.exact_num.proofs.Ring.{leaf, times, same}
use Rattle.exact_num.specs.Divisors.{gcd_of, gcd_with, row_gcd, primitive, euclid, IsPrimitive}
use Rattle.std.proofs.Math.Nat.{dvd-add_iff_right, dvd-mul_right_of_dvd, dvd-mul_left, eq-zero_of_zero-dvd, zero-div, zero-mul, mul-dvd-mul_right, one-dvd, eq-one_of_dvd-one}

-- enough steps give the greatest common divisor
pub IsGcd-euclid : (steps a b : ℕ) → b < steps → IsGcd a b (euclid steps a b)
IsGcd-euclid zero a b h = absurd (omega (arith, h))
IsGcd-euclid (suc steps) a zero h = IsGcd-from_zero a zero refl
IsGcd-euclid (suc steps) a (suc b) h = IsGcd-from_mod a (suc b) (euclid steps (suc b) (a % suc b)) (IsGcd-euclid steps (suc b) (a % suc b) (omega arith))

pub IsGcd-gcd_of : (a b : ℕ) → IsGcd a b (gcd_of a b)
unfolding gcd_of
IsGcd-gcd_of a b = IsGcd-euclid (suc b) a b (omega arith)

pub gcd_of_is : (a b g : ℕ) → IsGcd a b g → g ≡ gcd_of a b
gcd_of_is a b g h = same_from_IsGcd a b g (gcd_of a b) h (IsGcd-gcd_of a b)

pub IsGcd-swapped : (a b g : ℕ) → IsGcd a b g → IsGcd b a g
IsGcd-swapped a b g h = (h.1, h.0, λ d i j. h.2 d j i)

-- ---- a row whose greatest common divisor is 0
zero_from_gcd : (a b : ℕ) → gcd_of a b ≡ 0 → (a ≡ 0) × (b ≡ 0)
zero_from_gcd a b e = let g = IsGcd-gcd_of a b in (eq-zero_of_zero-dvd (subst (λ (m : ℕ). m ∣ a) e g.0), eq-zero_of_zero-dvd (subst (λ (m : ℕ). m ∣ b) e g.1))

zero_abs : (x : ℤ) → unsigned_abs x ≡ 0 → x ≡ pos 0
zero_abs x h = omega (arith, ints, h)

pub zero_fold : (g : ℕ) (row : List ℤ) → fold gcd_with g row ≡ 0 → (g ≡ 0) × All (λ x. x ≡ pos 0) row
zero_fold g [] e = (e, λ k d h. absurd (omega (arith, h)))
zero_fold g (x ∷ row) e =
    let rest = zero_fold (gcd_with g x) row e in
    let both = zero_from_gcd g (unsigned_abs x) rest.0 in
    (both.0, All-cons (λ (y : ℤ). y ≡ pos 0) x row (zero_abs x both.1) rest.1)

pub zero_map : (f : ℤ → ℤ) (row : List ℤ) → f (pos 0) ≡ pos 0 → All (λ x. x ≡ pos 0) row → map f row ≡ row
zero_map f [] z a = refl
zero_map f (x ∷ row) z a =
    let here : x ≡ pos 0 = a 0 (pos 0) (omega arith) in
    let first : f x ≡ x = ap f here ∙ z ∙ sym here in
    let rest : map f row ≡ row = zero_map f row z (λ k d h. a (suc k) d (omega (arith, h))) in
    cc

pub primitive_zero : (row : List ℤ) → row_gcd row ≡ 0 → row ≡ primitive row
primitive_zero row e = sym (zero_map (λ x. int_div x (pos (row_gcd row))) row (ap pos (zero-div (row_gcd row))) (zero_fold 0 row e).1)

-- ---- what divides a row
pub fold_divides : (g : ℕ) (row : List ℤ) → (fold gcd_with g row ∣ g) × All (λ x. fold gcd_with g row ∣ unsigned_abs x) row
fold_divides g [] = (dvd_refl g, λ k d h. absurd (omega (arith, h)))
fold_divides g (x ∷ row) =
    let rest = fold_divides (gcd_with g x) row in
    let both = IsGcd-gcd_of g (unsigned_abs x) in
    (dvd_trans _ rest.0 both.0, All-cons (λ (y : ℤ). fold gcd_with (gcd_with g x) row ∣ unsigned_abs y) x row (dvd_trans _ rest.0 both.1) rest.1)

pub fold_greatest : (d g : ℕ) (row : List ℤ) → d ∣ g → All (λ x. d ∣ unsigned_abs x) row → d ∣ fold gcd_with g row
fold_greatest d g [] h a = h
fold_greatest d g (x ∷ row) h a = fold_greatest d (gcd_with g x) row ((IsGcd-gcd_of g (unsigned_abs x)).2 d h (a zero (pos 0) (omega arith))) (λ k e l. a (suc k) e (omega (arith, l)))

no_rest : (x : ℤ) (g : ℕ) → g ∣ unsigned_abs x → int_rem x (pos g) ≡ pos 0
no_rest (pos n) g h = ap pos (mod-eq-zero_of_dvd g h)
no_rest (negsuc n) g h = ap (λ (m : ℕ). neg_ℤ (pos m)) (mod-eq-zero_of_dvd g h)

-- an exact quotient
pub exact : (x : ℤ) (g : ℕ) → g ∣ unsigned_abs x → int_div x (pos g) *ℤ pos g ≡ x
exact x g h = let e = quot-rem x (pos g) in let z = no_rest x g h in omega (arith, ints, e, z)

get_or-map : {A B : Type 0} (f : A → B) (xs : List A) (k : ℕ) (a : A) (b : B) → k < length xs → get_or (map f xs) k b ≡ f (get_or xs k a)
get_or-map f [] k a b h = absurd (omega (arith, h))
get_or-map f (x ∷ xs) zero a b h = refl
get_or-map f (x ∷ xs) (suc k) a b h = get_or-map f xs k a b (omega (arith, h))

-- the entries of a reduced row times the divisor are those of the row
pub primitive_entry : (row : List ℤ) (k : ℕ) (d : ℤ) → k < length row → get_or (primitive row) k d *ℤ pos (row_gcd row) ≡ get_or row k d
primitive_entry row k d h = ap (λ (x : ℤ). x *ℤ pos (row_gcd row)) (get_or-map (λ x. int_div x (pos (row_gcd row))) row k d d h) ∙ exact (get_or row k d) (row_gcd row) ((fold_divides 0 row).1 k d h)

-- a reduced row times the divisor is the row
unreduced : (g : ℕ) (row : List ℤ) → All (λ x. g ∣ unsigned_abs x) row → map (λ x. x *ℤ pos g) (map (λ x. int_div x (pos g)) row) ≡ row
unreduced g [] a = refl
unreduced g (x ∷ row) a =
    let first : int_div x (pos g) *ℤ pos g ≡ x = exact x g (a zero (pos 0) (omega arith)) in
    let rest : map (λ y. y *ℤ pos g) (map (λ y. int_div y (pos g)) row) ≡ row = unreduced g row (λ k d h. a (suc k) d (omega (arith, h))) in
    cc

pub primitive_times : (row : List ℤ) → map (λ x. x *ℤ pos (row_gcd row)) (primitive row) ≡ row
primitive_times row = unreduced (row_gcd row) row (fold_divides 0 row).1

-- what is left beside the greatest common divisor is 1
pub one_left : (d g : ℕ) → 0 < g → d * g ∣ g → d ≡ 1
one_left zero g h k = let none : g ≡ 0 = eq-zero_of_zero-dvd (subst (λ (m : ℕ). m ∣ g) (zero-mul g) k) in absurd (omega (arith, none, h))
one_left (suc zero) g h k = refl
one_left (suc (suc d)) g h k = absurd (omega (arith, h, le_of_dvd h k))

-- what divides a reduced number, times the divisor, divides the number
pub divides_times : (d g : ℕ) (x y : ℤ) → x *ℤ pos g ≡ y → d ∣ unsigned_abs x → d * g ∣ unsigned_abs y
divides_times d g x y e h = subst (λ (n : ℕ). d * g ∣ n) (sym (unsigned_abs-mul x (pos g)) ∙ ap unsigned_abs e) (mul-dvd-mul_right d h g)

pub primitive_lowest : (row : List ℤ) → 0 < row_gcd row → IsPrimitive (primitive row)
primitive_lowest row h d all =
    one_left d (row_gcd row) h (fold_greatest (d * row_gcd row) 0 row (dvd-zero (d * row_gcd row)) (λ k e l. divides_times d (row_gcd row) (get_or (primitive row) k e) (get_or row k e) (primitive_entry row k e l) (all k e (omega (arith, l, length-map row (λ x. int_div x (pos (row_gcd row))))))))

-- two numbers divided by their greatest common divisor have none but 1
pub lowest_terms : (x y a b : ℤ) (g : ℕ) → 0 < g → IsGcd (unsigned_abs x) (unsigned_abs y) g → a *ℤ pos g ≡ x → b *ℤ pos g ≡ y → gcd_of (unsigned_abs a) (unsigned_abs b) ≡ 1
lowest_terms x y a b g h is e f = sym (gcd_of_is (unsigned_abs a) (unsigned_abs b) 1 (one-dvd (unsigned_abs a), one-dvd (unsigned_abs b), λ d i j. subst (λ (m : ℕ). m ∣ 1) (sym (one_left d g h (is.2 (d * g) (divides_times d g a x e i) (divides_times d g b y f j)))) (dvd_refl 1)))

pub divisor_positive : (x : ℤ) (g : ℕ) → pos 0 <ℤ x → g ∣ unsigned_abs x → 0 < g
divisor_positive x zero h k = let none : unsigned_abs x ≡ 0 = eq-zero_of_zero-dvd k in absurd (omega (arith, ints, none, h))
divisor_positive x (suc g) h k = omega arith

pub positive_part : (a x : ℤ) (g : ℕ) → pos 0 <ℤ x → a *ℤ pos g ≡ x → pos 0 <ℤ a
positive_part (pos zero) x g h e = absurd (omega (arith, ints, h, e))
positive_part (pos (suc a)) x g h e = omega (arith, ints)
positive_part (negsuc a) x zero h e = absurd (omega (arith, ints, h, e))
positive_part (negsuc a) x (suc g) h e = absurd (omega (arith, ints, h, e))

pub same_ratio : (x y a b : ℤ) (g : ℕ) → a *ℤ pos g ≡ x → b *ℤ pos g ≡ y → a *ℤ y ≡ x *ℤ b
same_ratio x y a b g e f =
    let A = leaf a in let B = leaf b in let G = leaf (pos g) in
    ap (λ (z : ℤ). a *ℤ z) (sym f) ∙ same (times A (times B G)) (times (times A G) B) (omega arith) ∙ ap (λ (z : ℤ). z *ℤ b) e

-- a row whose front has no common divisor but 1 is reduced
pub one_stays : (row : List ℤ) (i : ℕ) → fold gcd_with 0 (take i row) ≡ 1 → row_gcd row ≡ 1
one_stays row i e =
    let d = row_gcd row in
    eq-one_of_dvd-one (subst (λ (n : ℕ). d ∣ n) e (fold_greatest d 0 (take i row) (dvd-zero d) (λ k x h. subst (λ (y : ℤ). d ∣ unsigned_abs y) (sym (get_or-take i row k x (omega (arith, h, length-take i row)))) ((fold_divides 0 row).1 k x (omega (arith, h, length-take i row))))))

divided_by_one : (row : List ℤ) → map (λ x. int_div x (pos 1)) row ≡ row
divided_by_one [] = refl
divided_by_one (x ∷ row) =
    let e : int_div x (pos 1) *ℤ pos 1 ≡ x = exact x 1 (one-dvd (unsigned_abs x)) in
    let first : int_div x (pos 1) ≡ x = omega (arith, ints, e) in
    let rest : map (λ y. int_div y (pos 1)) row ≡ row = divided_by_one row in
    cc

pub primitive_one : (row : List ℤ) → row_gcd row ≡ 1 → row ≡ primitive row
primitive_one row e = sym (ap (λ (g : ℕ). map (λ x. int_div x (pos g)) row) e ∙ divided_by_one row)

-- ---- Gauss' lemma
-- what divides k a and k b divides k times what Euclid's steps give
scaled_divides : (steps a b k d : ℕ) → b < steps → d ∣ k * a → d ∣ k * b → d ∣ k * euclid steps a b
scaled_divides zero a b k d h i j = absurd (omega (arith, h))
scaled_divides (suc steps) a zero k d h i j = i
scaled_divides (suc steps) a (suc b) k d h i j =
    let q = a / suc b in
    let r = a % suc b in
    let whole : k * a ≡ (k * suc b) * q + k * r = omega (arith, ap (λ (n : ℕ). k * n) (split a (suc b))) in
    let rest : d ∣ k * r = (dvd-add_iff_right d (dvd-mul_right_of_dvd d j q)).1 (subst (λ (n : ℕ). d ∣ n) whole i) in
    scaled_divides steps (suc b) r k d (omega (arith, h, mod-lt a b)) j rest
  where
    split : (m n : ℕ) → m ≡ n * (m / n) + m % n
    split m n = omega arith

    mod-lt : (m n : ℕ) → m % suc n < suc n
    mod-lt m n = omega arith

pub gauss : (a b c : ℕ) → IsGcd a b 1 → a ∣ c * b → a ∣ c
gauss a b c one h =
    let d : a ∣ c * gcd_of a b = unfold gcd_of in scaled_divides (suc b) a b c a (omega arith) (dvd-mul_left a c) h in
    let g : 1 ≡ gcd_of a b = gcd_of_is a b 1 one in
    subst (λ (n : ℕ). a ∣ n) (ap (λ (n : ℕ). c * n) (sym g) ∙ omega arith) d

-- in lowest terms the denominator divides that of every equal fraction
pub lowest : (num den p e : ℕ) → IsGcd den num 1 → p * den ≡ num * e → den ∣ e
lowest num den p e one same = gauss den num e one (subst (λ (n : ℕ). den ∣ n) (same ∙ omega arith) (dvd-mul_left den p))
