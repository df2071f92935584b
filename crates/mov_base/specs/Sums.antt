-- Sums over a list, and the greatest sum of at most so many numbers.
use Rattle.std.specs.Prelude.{ℕ, ◌+◌, List, [], ◌∷◌, max}
use Rattle.std.proofs.Common.{zero, suc}
use Rattle.std.proofs.Math.IntN.{ℤ, pos, ◌+ℤ◌}

-- the sum of a natural number per item
abbrev pub add_up : {A : Type 0} → (A → ℕ) → List A → ℕ
add_up f [] = 0
add_up f (x ∷ xs) = f x + add_up f xs

-- the sum of a whole number per item
abbrev pub sum_z : {A : Type 0} → (A → ℤ) → List A → ℤ
sum_z f [] = pos 0
sum_z f (x ∷ xs) = f x +ℤ sum_z f xs

-- the greatest sum of at most k of the numbers: each is taken or left
abbrev pub most : ℕ → List ℕ → ℕ
most k [] = 0
most zero (x ∷ xs) = 0
most (suc k) (x ∷ xs) = max (x + most k xs) (most (suc k) xs)
