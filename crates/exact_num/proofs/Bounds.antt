-- Bounds of products.
use Rattle.std.proofs.Common.{ℕ, zero, suc, ◌<◌, ◌≤◌, ◌+◌, ◌*◌, ◌-◌, ◌^◌, arith}
use Rattle.std.specs.Prelude.{ℤ, pos, negsuc, ◌*ℤ◌, ◌-ℤ◌, ◌<ℤ◌, ◌≤ℤ◌, unsigned_abs}
use Rattle.std.proofs.Math.Nat.{mul-le-mul, mul-le-mul_left}
use Rattle.std.proofs.lemmas.Int.{ints, unsigned_abs-mul, fits_signed_mul}
use Rattle.std.specs.Int.RustNames.{FitsSigned}
use mir.Syntax.{w64, w128}
use Rattle.exact_num.proofs.Ring.{sub_one_mul}

step_bound : (a b c d : ℕ) → a < 2 ^ 63 → b < 2 ^ 63 → c < 2 ^ 63 → d < 2 ^ 63 → a * b + c * d < 2 ^ 127
step_bound a b c d h i j k =
    let m : ℕ = 2 ^ 63 - 1 in
    let x : a * b ≤ m * m = mul-le-mul {n₂ = m} {m₂ = m} (omega (arith, h)) (omega (arith, i)) in
    let y : c * d ≤ m * m = mul-le-mul {n₂ = m} {m₂ = m} (omega (arith, j)) (omega (arith, k)) in
    omega (arith, x, y)

-- p x - q y has at most 127 bits
pub small_step : (p x q y : ℤ) → unsigned_abs p < 2 ^ 63 → unsigned_abs x < 2 ^ 63 → unsigned_abs q < 2 ^ 63 → unsigned_abs y < 2 ^ 63 → unsigned_abs (p *ℤ x -ℤ q *ℤ y) < 2 ^ 127
small_step p x q y h i j k = omega (arith, ints, step_bound (unsigned_abs p) (unsigned_abs x) (unsigned_abs q) (unsigned_abs y) h i j k, unsigned_abs-mul p x, unsigned_abs-mul q y)

pub small_product : (p x : ℤ) → unsigned_abs p < 2 ^ 63 → unsigned_abs x < 2 ^ 63 → FitsSigned w128 (p *ℤ x)
small_product p x h i = fits_signed_mul w128 p x (2 ^ 63) (2 ^ 63) (omega (arith, h)) (omega (arith, i)) (omega arith)

-- what fits 64 bits fits 128
pub fits_wider : (x : ℤ) → FitsSigned w64 x → FitsSigned w128 x
fits_wider x h = record { sfits = omega (arith, h.sfits) }

one_below : (b : ℕ) → 1 ≤ suc b
one_below b = omega arith

-- a number rounded up is no larger in size than the number before, which is divided by 1 or more
pub between_fits : (a b r : ℤ) → FitsSigned w64 a → pos 0 <ℤ b → a ≤ℤ (r *ℤ b) → ((r -ℤ pos 1) *ℤ b) <ℤ a → FitsSigned w64 r
between_fits a (negsuc b) r h k i j = absurd (omega (arith, ints, k))
between_fits a (pos zero) r h k i j = absurd (omega (arith, ints, k))
between_fits a (pos (suc b)) (pos zero) h k i j = record { sfits = omega arith }
between_fits a (pos (suc b)) (pos (suc r)) h k i j = record { sfits = omega (arith, ints, j, h.sfits, sub_one_mul (pos (suc r)) (pos (suc b)), mul-le-mul_left r (one_below b)) }
between_fits a (pos (suc b)) (negsuc r) h k i j = record { sfits = omega (arith, ints, i, h.sfits) }
