-- The lexicographic order.
use Rattle.std.proofs.Common.{ℕ, zero, suc, ◌≡◌, ◌<◌, ◌≤◌, ◌+◌, ◌⊎◌, arith, refl, sym, ◌∙◌, inl, inr}
use Rattle.std.specs.Prelude.{ℤ, pos, negsuc, ◌+ℤ◌, ◌*ℤ◌, ◌<ℤ◌, ◌≤ℤ◌}
use Rattle.std.proofs.lemmas.Int.{ints}
use Rattle.row_program.specs.Sums.{sum_from, LexPositive}
use Rattle.pivot_form.proofs.Sums.{positive_product, positive_factor, zero_factor, zero_times}

-- the first of f v, f (v + 1), .., of n values, that isn't 0 is positive, or all are 0
abbrev pub LexNonnegative : ℕ → ℕ → (ℕ → ℤ) → Type 0
LexNonnegative zero v f = Unit {0}
LexNonnegative (suc n) v f = (pos 0 <ℤ f v) ⊎ ((f v ≡ pos 0) × LexNonnegative n (suc v) f)

pub weaken : (n v : ℕ) (f : ℕ → ℤ) → LexPositive n v f → LexNonnegative n v f
weaken zero v f h = absurd h
weaken (suc n) v f (inl p) = inl p
weaken (suc n) v f (inr r) = inr (r.0, weaken n (suc v) f r.1)

-- a sum of the two orders
pub LexPositive-add : (n v : ℕ) (f g : ℕ → ℤ) → LexPositive n v f → LexNonnegative n v g → LexPositive n v (λ u. f u +ℤ g u)
LexPositive-add zero v f g h k = h
LexPositive-add (suc n) v f g (inl p) (inl q) = inl (omega (arith, ints, p, q))
LexPositive-add (suc n) v f g (inl p) (inr s) = inl (omega (arith, ints, p, s))
LexPositive-add (suc n) v f g (inr r) (inl q) = inl (omega (arith, ints, r.0, q))
LexPositive-add (suc n) v f g (inr r) (inr s) = inr (omega (arith, ints, r.0, s.0), LexPositive-add n (suc v) f g r.1 s.1)

pub LexNonnegative-add : (n v : ℕ) (f g : ℕ → ℤ) → LexNonnegative n v f → LexNonnegative n v g → LexNonnegative n v (λ u. f u +ℤ g u)
LexNonnegative-add zero v f g h k = h
LexNonnegative-add (suc n) v f g (inl p) (inl q) = inl (omega (arith, ints, p, q))
LexNonnegative-add (suc n) v f g (inl p) (inr s) = inl (omega (arith, ints, p, s))
LexNonnegative-add (suc n) v f g (inr r) (inl q) = inl (omega (arith, ints, r.0, q))
LexNonnegative-add (suc n) v f g (inr r) (inr s) = inr (omega (arith, ints, r.0, s.0), LexNonnegative-add n (suc v) f g r.1 s.1)

pub LexPositive-scale : (a : ℤ) → pos 0 <ℤ a → (n v : ℕ) (f : ℕ → ℤ) → LexPositive n v f → LexPositive n v (λ u. a *ℤ f u)
LexPositive-scale a h zero v f k = k
LexPositive-scale a h (suc n) v f (inl p) = inl (positive_product a (f v) h p)
LexPositive-scale a h (suc n) v f (inr r) = inr (zero_times a (f v) r.0, LexPositive-scale a h n (suc v) f r.1)

-- the order depends on signs alone: positive factors s
pub LexNonnegative-same_signs : (s : ℕ → ℤ) (n v : ℕ) (f g : ℕ → ℤ) → ((u : ℕ) → u < v + n → (pos 0 <ℤ s u) × (f u ≡ s u *ℤ g u)) → LexNonnegative n v f → LexNonnegative n v g
LexNonnegative-same_signs s zero v f g h k = k
LexNonnegative-same_signs s (suc n) v f g h (inl p) = inl (positive_factor (s v) (g v) (h v (omega arith)).0 (omega (arith, ints, p, (h v (omega arith)).1)))
LexNonnegative-same_signs s (suc n) v f g h (inr r) = inr (zero_factor (s v) (g v) (h v (omega arith)).0 (sym (h v (omega arith)).1 ∙ r.0), LexNonnegative-same_signs s n (suc v) f g (λ u i. h u (omega (arith, i))) r.1)

-- some value isn't 0
pub strengthen : (n v : ℕ) (f : ℕ → ℤ) → LexNonnegative n v f → (((u : ℕ) → v ≤ u → u < v + n → f u ≡ pos 0) → ⊥) → LexPositive n v f
strengthen zero v f h apart = apart (λ u i j. absurd (omega (arith, i, j)))
strengthen (suc n) v f (inl p) apart = inl p
strengthen (suc n) v f (inr r) apart = inr (r.0, strengthen n (suc v) f r.1 (λ all. apart (λ u i j. from_first n v f r.0 all u i j)))
  where
    from_first : (n v : ℕ) (f : ℕ → ℤ) → f v ≡ pos 0 → ((u : ℕ) → suc v ≤ u → u < suc v + n → f u ≡ pos 0) → (u : ℕ) → v ≤ u → u < v + suc n → f u ≡ pos 0
    from_first n v f z all u i j = grind arith

pub LexNonnegative-zeros : (n v : ℕ) (f : ℕ → ℤ) → ((u : ℕ) → f u ≡ pos 0) → LexNonnegative n v f
LexNonnegative-zeros zero v f h = tt
LexNonnegative-zeros (suc n) v f h = inr (h v, LexNonnegative-zeros n (suc v) f h)

pub LexNonnegative-times : (a : ℤ) → pos 0 ≤ℤ a → (n v : ℕ) (f : ℕ → ℤ) → LexNonnegative n v f → LexNonnegative n v (λ u. a *ℤ f u)
LexNonnegative-times (negsuc a) h n v f k = absurd (omega (arith, ints, h))
LexNonnegative-times (pos zero) h n v f k = LexNonnegative-zeros n v (λ u. pos zero *ℤ f u) (λ u. omega (arith, ints))
LexNonnegative-times (pos (suc a)) h zero v f k = tt
LexNonnegative-times (pos (suc a)) h (suc n) v f (inl p) = inl (positive_product (pos (suc a)) (f v) (omega (arith, ints)) p)
LexNonnegative-times (pos (suc a)) h (suc n) v f (inr r) = inr (zero_times (pos (suc a)) (f v) r.0, LexNonnegative-times (pos (suc a)) h n (suc v) f r.1)

-- a sum of functions none of which is lexicographically negative
pub LexNonnegative-zero : (n v : ℕ) → LexNonnegative n v (λ u. pos 0)
LexNonnegative-zero zero v = tt
LexNonnegative-zero (suc n) v = inr (refl, LexNonnegative-zero n (suc v))

pub LexNonnegative-sum : (m k n v : ℕ) (f : ℕ → ℕ → ℤ) → ((j : ℕ) → k ≤ j → j < k + m → LexNonnegative n v (f j)) → LexNonnegative n v (λ u. sum_from m k (λ j. f j u))
LexNonnegative-sum zero k n v f h = LexNonnegative-zero n v
LexNonnegative-sum (suc m) k n v f h = LexNonnegative-add n v (f k) (λ u. sum_from m (suc k) (λ j. f j u)) (h k (omega arith) (omega arith)) (LexNonnegative-sum m (suc k) n v f (λ j i l. h j (omega (arith, i)) (omega (arith, l))))
