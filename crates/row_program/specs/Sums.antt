-- Sums of the values of a function, and their lexicographic order.
use Rattle.std.specs.Prelude.{ℕ, ℤ, pos, suc, zero, ◌≡◌, ◌+ℤ◌, ◌<ℤ◌, ◌⊎◌}

-- f v + f (v + 1) + .., n terms
abbrev pub sum_from : ℕ → ℕ → (ℕ → ℤ) → ℤ
sum_from zero v f = pos 0
sum_from (suc n) v f = f v +ℤ sum_from n (suc v) f

-- the first of f v, f (v + 1), .., of n values, that isn't 0 is positive, and there is one
abbrev pub LexPositive : ℕ → ℕ → (ℕ → ℤ) → Type 0
LexPositive zero v f = ⊥
LexPositive (suc n) v f = (pos 0 <ℤ f v) ⊎ ((f v ≡ pos 0) × LexPositive n (suc v) f)
