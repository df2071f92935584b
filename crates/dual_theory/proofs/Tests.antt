-- The test of the lexicographic order, and the order of columns divided by positive numbers.
use Rattle.std.proofs.Common.{ℕ, zero, suc, ◌≡◌, arith, refl, sym, ◌∙◌, inl, inr, Bool, true, false, cond}
use Rattle.std.specs.Prelude.{ℤ, pos, negsuc, ◌+ℤ◌, ◌*ℤ◌, ◌-ℤ◌, ◌<ℤ◌, ◌≤ℤ◌, int_lt}
use lib.IntN.{neg_ℤ}
use Rattle.std.proofs.lemmas.Int.{ints}
use Rattle.row_program.specs.Sums.{LexPositive}
use Rattle.row_program.specs.Method.{lex_negative, difference}
use Rattle.exact_num.proofs.Ring.{leaf, plus, minus, times, same}
use Rattle.dual_theory.proofs.Lex.{LexNonnegative, LexNonnegative-add, LexNonnegative-same_signs, LexNonnegative-times}

test_true : (x y : ℤ) → x <ℤ y → int_lt x y ≡ true
test_true x y h = grind (arith, ints)

test_false : (x y : ℤ) → y ≤ℤ x → int_lt x y ≡ false
test_false x y h = grind (arith, ints)

-- by the signs of a whole number
by_sign : {P : Type 0} (x : ℤ) → (x <ℤ pos 0 → int_lt x (pos 0) ≡ true → P) → (x ≡ pos 0 → int_lt x (pos 0) ≡ false → int_lt (pos 0) x ≡ false → P) → (pos 0 <ℤ x → int_lt x (pos 0) ≡ false → int_lt (pos 0) x ≡ true → P) → P
by_sign (pos zero) a b c = b refl refl refl
by_sign (pos (suc n)) a b c = c (omega (arith, ints)) (test_false (pos (suc n)) (pos 0) (omega (arith, ints))) (test_true (pos 0) (pos (suc n)) (omega (arith, ints)))
by_sign (negsuc n) a b c = a (omega (arith, ints)) (test_true (negsuc n) (pos 0) (omega (arith, ints)))

cond_true : {A : Type 0} (b : Bool) (x y : A) → b ≡ true → cond b x y ≡ x
cond_true true x y e = refl
cond_true false x y e = cc

cond_false : {A : Type 0} (b : Bool) (x y : A) → b ≡ false → cond b x y ≡ y
cond_false true x y e = cc
cond_false false x y e = refl

-- the test decides
pub lex_test_false : (n v : ℕ) (f : ℕ → ℤ) → lex_negative n v f ≡ false → LexNonnegative n v f
lex_test_false zero v f e = tt
lex_test_false (suc n) v f e =
    by_sign (f v)
    (λ low t. let clash : true ≡ false = sym (cond_true (int_lt (f v) (pos 0)) true (cond (int_lt (pos 0) (f v)) false (lex_negative n (suc v) f)) t) ∙ e in cc)
    (λ z t s. inr (z, lex_test_false n (suc v) f (sym (cond_false (int_lt (f v) (pos 0)) true (cond (int_lt (pos 0) (f v)) false (lex_negative n (suc v) f)) t ∙ cond_false (int_lt (pos 0) (f v)) false (lex_negative n (suc v) f) s) ∙ e)))
    (λ high t s. inl high)

pub lex_test_true : (n v : ℕ) (f : ℕ → ℤ) → lex_negative n v f ≡ true → LexPositive n v (λ u. neg_ℤ (f u))
lex_test_true zero v f e = absurd (let clash : false ≡ true = e in cc)
lex_test_true (suc n) v f e =
    by_sign (f v)
    (λ low t. inl (omega (arith, ints, low)))
    (λ z t s. inr (omega (arith, ints, z), lex_test_true n (suc v) f (sym (cond_false (int_lt (f v) (pos 0)) true (cond (int_lt (pos 0) (f v)) false (lex_negative n (suc v) f)) t ∙ cond_false (int_lt (pos 0) (f v)) false (lex_negative n (suc v) f) s) ∙ e)))
    (λ high t s. let clash : false ≡ true = sym (cond_false (int_lt (f v) (pos 0)) true (cond (int_lt (pos 0) (f v)) false (lex_negative n (suc v) f)) t ∙ cond_true (int_lt (pos 0) (f v)) false (lex_negative n (suc v) f) s) ∙ e in cc)

-- the order of columns divided by positive numbers is transitive
pub difference_trans : (n v : ℕ) (f g h : ℕ → ℤ) (a b c : ℤ) → pos 0 <ℤ a → pos 0 <ℤ b → pos 0 <ℤ c → LexNonnegative n v (difference f a g b) → LexNonnegative n v (difference g b h c) → LexNonnegative n v (difference f a h c)
difference_trans n v f g h a b c i j k p q =
    LexNonnegative-same_signs (λ u. b) n v (λ u. c *ℤ difference f a g b u +ℤ a *ℤ difference g b h c u) (difference f a h c) (λ u l. (j, one (f u) (g u) (h u)))
    (LexNonnegative-add n v (λ u. c *ℤ difference f a g b u) (λ u. a *ℤ difference g b h c u) (LexNonnegative-times c (omega (arith, ints, k)) n v (difference f a g b) p) (LexNonnegative-times a (omega (arith, ints, i)) n v (difference g b h c) q))
  where
    one : (x y z : ℤ) → c *ℤ (x *ℤ b -ℤ y *ℤ a) +ℤ a *ℤ (y *ℤ c -ℤ z *ℤ b) ≡ b *ℤ (x *ℤ c -ℤ z *ℤ a)
    one x y z = let A = leaf a in let B = leaf b in let C = leaf c in let X = leaf x in let Y = leaf y in let Z = leaf z in same (plus (times C (minus (times X B) (times Y A))) (times A (minus (times Y C) (times Z B)))) (times B (minus (times X C) (times Z A))) (omega arith)
