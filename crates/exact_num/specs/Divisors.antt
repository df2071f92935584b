-- Greatest common divisors of numbers and of rows.
use Rattle.std.specs.Prelude.{ℕ, ℤ, pos, suc, zero, ◌≡◌, ◌%◌, List, map, unsigned_abs}
use Rattle.std.specs.List.{All, fold}
use Rattle.std.specs.Int.RustNames.{int_div}
use Prim.Native.Nat.{◌∣◌}

-- Euclid's method, cut off after `steps` remainders
abbrev pub euclid : ℕ → ℕ → ℕ → ℕ
euclid zero a b = a
euclid (suc steps) a zero = a
euclid (suc steps) a (suc b) = euclid steps (suc b) (a % suc b)

-- the greatest common divisor, which is 0 of 0 and 0; each remainder is below the number before it, so b + 1 steps do
unfoldable pub gcd_of : ℕ → ℕ → ℕ
gcd_of a b = euclid (suc b) a b

abbrev pub gcd_with : ℕ → ℤ → ℕ
gcd_with g x = gcd_of g (unsigned_abs x)

-- the greatest common divisor of all entries of a row, which is 0 of a row of zeros
abbrev pub row_gcd : List ℤ → ℕ
row_gcd row = fold gcd_with 0 row

-- the row divided by its greatest common divisor; a row of zeros stays
abbrev pub primitive : List ℤ → List ℤ
primitive row = map (λ x. int_div x (pos (row_gcd row))) row

-- the entries have no common divisor but 1
abbrev pub IsPrimitive : List ℤ → Type 0
IsPrimitive row = (d : ℕ) → All (λ x. d ∣ unsigned_abs x) row → d ≡ 1
