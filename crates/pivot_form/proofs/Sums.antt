-- Signs of products, and sums of the values of a function.
use Rattle.std.proofs.Common.{ℕ, zero, suc, ◌≡◌, ◌<◌, ◌≤◌, ◌+◌, arith, refl, ap, ◌∙◌}
use Rattle.std.specs.Prelude.{ℤ, pos, negsuc, ◌*ℤ◌, ◌-ℤ◌, ◌<ℤ◌}
use Rattle.std.proofs.lemmas.Int.{ints}
use Rattle.row_program.specs.Sums.{sum_from}
use Rattle.exact_num.proofs.Ring.{mul_add, leaf, minus, times, same}

pub positive_product : (a b : ℤ) → pos 0 <ℤ a → pos 0 <ℤ b → pos 0 <ℤ (a *ℤ b)
positive_product (pos zero) b h k = absurd (omega (arith, ints, h))
positive_product (pos (suc a)) (pos zero) h k = absurd (omega (arith, ints, k))
positive_product (pos (suc a)) (pos (suc b)) h k = omega (arith, ints)
positive_product (pos (suc a)) (negsuc b) h k = absurd (omega (arith, ints, k))
positive_product (negsuc a) b h k = absurd (omega (arith, ints, h))

-- a positive factor leaves the sign
pub zero_factor : (a b : ℤ) → pos 0 <ℤ a → a *ℤ b ≡ pos 0 → b ≡ pos 0
zero_factor (pos zero) b h e = absurd (omega (arith, ints, h))
zero_factor (pos (suc a)) (pos zero) h e = refl
zero_factor (pos (suc a)) (pos (suc b)) h e = absurd (omega (arith, ints, e))
zero_factor (pos (suc a)) (negsuc b) h e = absurd (omega (arith, ints, e))
zero_factor (negsuc a) b h e = absurd (omega (arith, ints, h))

pub positive_factor : (a b : ℤ) → pos 0 <ℤ a → pos 0 <ℤ (a *ℤ b) → pos 0 <ℤ b
positive_factor (pos zero) b h k = absurd (omega (arith, ints, h))
positive_factor (pos (suc a)) (pos zero) h k = absurd (omega (arith, ints, k))
positive_factor (pos (suc a)) (pos (suc b)) h k = omega (arith, ints)
positive_factor (pos (suc a)) (negsuc b) h k = absurd (omega (arith, ints, k))
positive_factor (negsuc a) b h k = absurd (omega (arith, ints, h))

pub zero_times : (a b : ℤ) → b ≡ pos 0 → a *ℤ b ≡ pos 0
zero_times a b e = omega (arith, ints, ap (λ (x : ℤ). a *ℤ x) e)

-- a positive factor cancels
pub cancel : (g a b : ℤ) → pos 0 <ℤ g → g *ℤ a ≡ g *ℤ b → a ≡ b
cancel g a b h e =
    let ring : g *ℤ (a -ℤ b) ≡ g *ℤ a -ℤ g *ℤ b = same (times (leaf g) (minus (leaf a) (leaf b))) (minus (times (leaf g) (leaf a)) (times (leaf g) (leaf b))) (omega arith) in
    let gone : g *ℤ (a -ℤ b) ≡ pos 0 = ring ∙ omega (arith, ints, e) in
    let zero_difference = zero_factor g (a -ℤ b) h gone in
    omega (arith, ints, zero_difference)

pub sum_from-combine : (n v : ℕ) (p q : ℤ) (f g : ℕ → ℤ) → sum_from n v (λ j. p *ℤ f j -ℤ q *ℤ g j) ≡ p *ℤ sum_from n v f -ℤ q *ℤ sum_from n v g
sum_from-combine zero v p q f g = omega (arith, ints)
sum_from-combine (suc n) v p q f g = omega (arith, ints, sum_from-combine n (suc v) p q f g, mul_add p (f v) (sum_from n (suc v) f), mul_add q (g v) (sum_from n (suc v) g))

pub sum_from-same : (n v : ℕ) (f g : ℕ → ℤ) → ((u : ℕ) → v ≤ u → u < v + n → f u ≡ g u) → sum_from n v f ≡ sum_from n v g
sum_from-same zero v f g h = refl
sum_from-same (suc n) v f g h = omega (arith, ints, h v (omega arith) (omega arith), sum_from-same n (suc v) f g (λ u i j. h u (omega (arith, i)) (omega (arith, j))))

pub sum_from-scale : (n v : ℕ) (a : ℤ) (f : ℕ → ℤ) → sum_from n v (λ j. a *ℤ f j) ≡ a *ℤ sum_from n v f
sum_from-scale zero v a f = omega (arith, ints)
sum_from-scale (suc n) v a f = omega (arith, ints, sum_from-scale n (suc v) a f, mul_add a (f v) (sum_from n (suc v) f))
