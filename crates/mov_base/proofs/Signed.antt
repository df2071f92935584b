-- Sums of whole numbers over a list.
use Rattle.std.proofs.Common.{◌≡◌, ℕ, ◌*◌, List, [], ◌∷◌, sym, refl, ap, ◌∙◌, arith}
use Rattle.std.proofs.Math.IntN.{ℤ, pos, ◌+ℤ◌, ◌-ℤ◌, ◌*ℤ◌}
use Rattle.std.proofs.lemmas.Int.{ints}
use borrow.Author.Differences.{sum_is_lem}
use Rattle.mov_base.specs.Sums.{add_up, sum_z}

pub distrib : (l : ℕ) (a b : ℤ) → pos l *ℤ (a +ℤ b) ≡ (pos l *ℤ a) +ℤ (pos l *ℤ b)
distrib l a b = omega (arith, ints, ap (λ n. l * n) (sum_is_lem a b))

pub sum_z-add : {A : Type 0} (f g : A → ℤ) (xs : List A) → sum_z (λ x. f x +ℤ g x) xs ≡ sum_z f xs +ℤ sum_z g xs
sum_z-add f g [] = refl
sum_z-add f g (x ∷ xs) = let h = sum_z-add f g xs in omega (arith, ints)

pub sum_z-scale : {A : Type 0} (l : ℕ) (f : A → ℤ) (xs : List A) → sum_z (λ x. pos l *ℤ f x) xs ≡ pos l *ℤ sum_z f xs
sum_z-scale l f [] = omega (arith, ints)
sum_z-scale l f (x ∷ xs) = ap (λ z. (pos l *ℤ f x) +ℤ z) (sum_z-scale l f xs) ∙ sym (distrib l (f x) (sum_z f xs))

pub sum_z-zero : {A : Type 0} (xs : List A) → sum_z (λ x. pos 0) xs ≡ pos 0
sum_z-zero [] = refl
sum_z-zero (x ∷ xs) = let h = sum_z-zero xs in omega (arith, ints)

-- the difference of two sums of natural numbers
pub sum_z-difference : {A : Type 0} (f g : A → ℕ) (xs : List A) → sum_z (λ x. pos (f x) -ℤ pos (g x)) xs ≡ pos (add_up f xs) -ℤ pos (add_up g xs)
sum_z-difference f g [] = refl
sum_z-difference f g (x ∷ xs) = let h = sum_z-difference f g xs in omega (arith, ints)
