-- Laws of products of whole numbers, and equations of polynomials.
use Rattle.std.proofs.Common.{ℕ, ◌≡◌, ◌+◌, ◌*◌, arith, refl, ap}
use Rattle.std.specs.Prelude.{ℤ, pos, ◌+ℤ◌, ◌*ℤ◌, ◌-ℤ◌}
use Rattle.std.proofs.lemmas.Int.{ints}
use borrow.Author.Differences.{up, down, same_in, product_is, sum_is_lem, neg_is}
use lib.IntN.{neg_ℤ}

-- a whole number, and two naturals whose difference it is
pub record Poly : Type 0 where
  pub value : ℤ
  pub more : ℕ
  pub less : ℕ
  pub right : up value + less ≡ more + down value

abbrev pub leaf : ℤ → Poly
leaf z = record { value = z; more = up z; less = down z; right = refl }

pub plus_right : (a b : ℤ) (m l n k : ℕ) → up a + l ≡ m + down a → up b + k ≡ n + down b → up (a +ℤ b) + (l + k) ≡ (m + n) + down (a +ℤ b)
plus_right a b m l n k e f = omega (arith, sum_is_lem a b)

pub neg_right : (a : ℤ) (m l : ℕ) → up a + l ≡ m + down a → up (neg_ℤ a) + m ≡ l + down (neg_ℤ a)
neg_right a m l e = omega (arith, neg_is a)

times_nat : (a c m l b d n k : ℕ) → a + l ≡ m + c → b + k ≡ n + d → (a * b + c * d) + (m * k + l * n) ≡ (m * n + l * k) + (a * d + c * b)
times_nat a c m l b d n k e f = omega (arith, ap (λ (x : ℕ). x * b) e, ap (λ (x : ℕ). x * d) e, ap (λ (x : ℕ). m * x) f, ap (λ (x : ℕ). l * x) f)

pub times_right : (a b : ℤ) (m l n k : ℕ) → up a + l ≡ m + down a → up b + k ≡ n + down b → up (a *ℤ b) + (m * k + l * n) ≡ (m * n + l * k) + down (a *ℤ b)
times_right a b m l n k e f = omega (arith, product_is a b, times_nat (up a) (down a) m l (up b) (down b) n k e f)

abbrev pub plus : Poly → Poly → Poly
plus p q = record { value = p.value +ℤ q.value; more = p.more + q.more; less = p.less + q.less; right = plus_right p.value q.value p.more p.less q.more q.less p.right q.right }

abbrev pub minus : Poly → Poly → Poly
minus p q = record { value = p.value -ℤ q.value; more = p.more + q.less; less = p.less + q.more; right = plus_right p.value (neg_ℤ q.value) p.more p.less q.less q.more p.right (neg_right q.value q.more q.less q.right) }

abbrev pub opposite : Poly → Poly
opposite p = record { value = neg_ℤ p.value; more = p.less; less = p.more; right = neg_right p.value p.more p.less p.right }

abbrev pub times : Poly → Poly → Poly
times p q = record { value = p.value *ℤ q.value; more = p.more * q.more + p.less * q.less; less = p.more * q.less + p.less * q.more; right = times_right p.value q.value p.more p.less q.more q.less p.right q.right }

pub same : (p q : Poly) → p.more + q.less ≡ q.more + p.less → p.value ≡ q.value
same p q e = same_in p.value q.value (omega (arith, p.right, q.right))

-- the laws
pub mul_add : (p a b : ℤ) → p *ℤ (a +ℤ b) ≡ p *ℤ a +ℤ p *ℤ b
mul_add p a b = same (times (leaf p) (plus (leaf a) (leaf b))) (plus (times (leaf p) (leaf a)) (times (leaf p) (leaf b))) (omega arith)

pub mul_sub : (p a b : ℤ) → p *ℤ (a -ℤ b) ≡ p *ℤ a -ℤ p *ℤ b
mul_sub p a b = same (times (leaf p) (minus (leaf a) (leaf b))) (minus (times (leaf p) (leaf a)) (times (leaf p) (leaf b))) (omega arith)

pub mul_assoc : (a b c : ℤ) → a *ℤ b *ℤ c ≡ a *ℤ (b *ℤ c)
mul_assoc a b c = same (times (times (leaf a) (leaf b)) (leaf c)) (times (leaf a) (times (leaf b) (leaf c))) (omega arith)

-- one elimination: degree three
pub row_step : (p q a b x : ℤ) → (p *ℤ a -ℤ q *ℤ b) *ℤ x ≡ p *ℤ (a *ℤ x) -ℤ q *ℤ (b *ℤ x)
row_step p q a b x = same (times (minus (times (leaf p) (leaf a)) (times (leaf q) (leaf b))) (leaf x)) (minus (times (leaf p) (times (leaf a) (leaf x))) (times (leaf q) (times (leaf b) (leaf x)))) (omega arith)

-- degree four
pub four : (a b c d : ℤ) → (a *ℤ b) *ℤ (c *ℤ d) ≡ (a *ℤ d) *ℤ (c *ℤ b)
four a b c d = same (times (times (leaf a) (leaf b)) (times (leaf c) (leaf d))) (times (times (leaf a) (leaf d)) (times (leaf c) (leaf b))) (omega arith)

pub four_sum : (a b c d e f : ℤ) → (a *ℤ b -ℤ c *ℤ d) *ℤ (e *ℤ f) ≡ (a *ℤ e) *ℤ (b *ℤ f) -ℤ (d *ℤ f) *ℤ (e *ℤ c)
four_sum a b c d e f = same (times (minus (times (leaf a) (leaf b)) (times (leaf c) (leaf d))) (times (leaf e) (leaf f))) (minus (times (times (leaf a) (leaf e)) (times (leaf b) (leaf f))) (times (times (leaf d) (leaf f)) (times (leaf e) (leaf c)))) (omega arith)

pub sub_one_mul : (a b : ℤ) → (a -ℤ pos 1) *ℤ b ≡ a *ℤ b -ℤ b
sub_one_mul a b = same (times (minus (leaf a) (leaf (pos 1))) (leaf b)) (minus (times (leaf a) (leaf b)) (leaf b)) (omega arith)

-- ---- the laws as equations of naturals, for `omega` at an atom
pub mul_add_is : (p a b : ℤ) → up (p *ℤ (a +ℤ b)) + down (p *ℤ a) + down (p *ℤ b) ≡ down (p *ℤ (a +ℤ b)) + up (p *ℤ a) + up (p *ℤ b)
mul_add_is p a b = omega (arith, ints, mul_add p a b)

pub add_mul : (a b p : ℤ) → (a +ℤ b) *ℤ p ≡ a *ℤ p +ℤ b *ℤ p
add_mul a b p = same (times (plus (leaf a) (leaf b)) (leaf p)) (plus (times (leaf a) (leaf p)) (times (leaf b) (leaf p))) (omega arith)

pub add_mul_is : (a b p : ℤ) → up ((a +ℤ b) *ℤ p) + down (a *ℤ p) + down (b *ℤ p) ≡ down ((a +ℤ b) *ℤ p) + up (a *ℤ p) + up (b *ℤ p)
add_mul_is a b p = omega (arith, ints, add_mul a b p)

pub mul_assoc_is : (a b c : ℤ) → up (a *ℤ (b *ℤ c)) + down (a *ℤ b *ℤ c) ≡ down (a *ℤ (b *ℤ c)) + up (a *ℤ b *ℤ c)
mul_assoc_is a b c = omega (arith, ints, mul_assoc a b c)

pub sub_one_mul_is : (a b : ℤ) → up ((a -ℤ pos 1) *ℤ b) + down (a *ℤ b) + up b ≡ down ((a -ℤ pos 1) *ℤ b) + up (a *ℤ b) + down b
sub_one_mul_is a b = omega (arith, ints, sub_one_mul a b)

-- sums under products, for `omega (arith, products)`
pub ruleset products = (ints, mul_add_is, add_mul_is, mul_assoc_is, sub_one_mul_is)
