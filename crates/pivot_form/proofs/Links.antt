-- Sums of few terms, and products of all terms but one.
use Rattle.std.proofs.Common.{ℕ, zero, suc, ◌≡◌, ◌≢◌, ◌<◌, ◌≤◌, ◌+◌, arith, refl, ap, sym, ◌∙◌, ◌⊎◌, ⊎_elim, subst}
use Rattle.std.specs.Prelude.{ℤ, pos, ◌+ℤ◌, ◌*ℤ◌, ◌<ℤ◌, ◌==◌, if◌then◌else◌}
use Rattle.std.proofs.lemmas.Int.{ints}
use Rattle.std.proofs.lemmas.Bool.{cases_eq, cases_lt}
use Rattle.std.proofs.lemmas.Bool.Decides.{nat_tests}
use Rattle.row_program.specs.Sums.{sum_from}
use Rattle.exact_num.proofs.Ring.{leaf, times, same}
use Rattle.pivot_form.proofs.Sums.{positive_product, zero_times}

pub sum_from-zero : (n v : ℕ) (f : ℕ → ℤ) → ((u : ℕ) → v ≤ u → u < v + n → f u ≡ pos 0) → sum_from n v f ≡ pos 0
sum_from-zero zero v f h = refl
sum_from-zero (suc n) v f h = omega (arith, ints, h v (omega arith) (omega arith), sum_from-zero n (suc v) f (λ u i j. h u (omega (arith, i)) (omega (arith, j))))

-- one term alone
pub sum_from-one : (n v : ℕ) (f : ℕ → ℤ) (k : ℕ) → v ≤ k → k < v + n → ((u : ℕ) → v ≤ u → u < v + n → u ≢ k → f u ≡ pos 0) → sum_from n v f ≡ f k
sum_from-one zero v f k i j h = absurd (omega (arith, i, j))
sum_from-one (suc n) v f k i j h =
    ⊎_elim
    (λ e. let rest : sum_from n (suc v) f ≡ pos 0 = sum_from-zero n (suc v) f (λ u a b. h u (omega (arith, a)) (omega (arith, b)) (omega (arith, e, a))) in
    let here : f k ≡ f v = ap f e in omega (arith, ints, rest, here))
    (λ apart. let rest = sum_from-one n (suc v) f k (omega (arith, i, apart)) (omega (arith, j)) (λ u a b. h u (omega (arith, a)) (omega (arith, b))) in
    let first : f v ≡ pos 0 = h v (omega arith) (omega arith) (omega (arith, apart)) in omega (arith, ints, rest, first))
    (cases_eq k v)

-- two terms alone
sum_from-two : (n v : ℕ) (f : ℕ → ℤ) (k l : ℕ) → v ≤ k → k < l → l < v + n → ((u : ℕ) → v ≤ u → u < v + n → u ≢ k → u ≢ l → f u ≡ pos 0) → sum_from n v f ≡ f k +ℤ f l
sum_from-two zero v f k l i j m h = absurd (omega (arith, i, j, m))
sum_from-two (suc n) v f k l i j m h =
    ⊎_elim
    (λ e. let rest = sum_from-one n (suc v) f l (omega (arith, e, j)) (omega (arith, m)) (λ u a b s. h u (omega (arith, a)) (omega (arith, b)) (omega (arith, e, a)) s) in
    let here : f k ≡ f v = ap f e in omega (arith, ints, rest, here))
    (λ apart. let rest = sum_from-two n (suc v) f k l (omega (arith, i, apart)) j (omega (arith, m)) (λ u a b. h u (omega (arith, a)) (omega (arith, b))) in
    let first : f v ≡ pos 0 = h v (omega arith) (omega arith) (omega (arith, apart)) (omega (arith, i, j)) in omega (arith, ints, rest, first))
    (cases_eq k v)

link : (count : ℕ) (row y : ℕ → ℤ) (b k : ℕ) → b < k → k < count → ((j : ℕ) → j < count → j ≢ b → j ≢ k → (row j ≡ pos 0) ⊎ (y j ≡ pos 0)) → sum_from count 0 (λ j. row j *ℤ y j) ≡ row b *ℤ y b +ℤ row k *ℤ y k
link count row y b k i j h = sum_from-two count 0 (λ u. row u *ℤ y u) b k (omega arith) i (omega (arith, j)) (λ u a l p q. ⊎_elim (λ z. ap (λ (x : ℤ). x *ℤ y u) z ∙ omega (arith, ints)) (λ z. zero_times (row u) (y u) z) (h u (omega (arith, l)) p q))

-- a row at values whose entries away from b and k add nothing
pub link_apart : (count : ℕ) (row y : ℕ → ℤ) (b k : ℕ) → b ≢ k → b < count → k < count → ((j : ℕ) → j < count → j ≢ b → j ≢ k → (row j ≡ pos 0) ⊎ (y j ≡ pos 0)) → sum_from count 0 (λ j. row j *ℤ y j) ≡ row b *ℤ y b +ℤ row k *ℤ y k
link_apart count row y b k apart i j h =
    ⊎_elim
    (λ less. link count row y b k less j h)
    (λ more. let e = link count row y k b (omega (arith, more, apart)) i (λ u l p q. h u l q p) in omega (arith, ints, e))
    (cases_lt b k)

-- a row at values whose entries away from b add nothing
pub link_alone : (count : ℕ) (row y : ℕ → ℤ) (b : ℕ) → b < count → ((j : ℕ) → j < count → j ≢ b → (row j ≡ pos 0) ⊎ (y j ≡ pos 0)) → sum_from count 0 (λ j. row j *ℤ y j) ≡ row b *ℤ y b
link_alone count row y b i h = sum_from-one count 0 (λ u. row u *ℤ y u) b (omega arith) (omega (arith, i)) (λ u a l p. ⊎_elim (λ z. ap (λ (x : ℤ). x *ℤ y u) z ∙ omega (arith, ints)) (λ z. zero_times (row u) (y u) z) (h u (omega (arith, l)) p))

-- ---- products
-- f 0 times f 1 .. of n terms, and the same but for the term k
abbrev pub product : ℕ → (ℕ → ℤ) → ℤ
product zero f = pos 1
product (suc n) f = f n *ℤ product n f

abbrev pub others : ℕ → ℕ → (ℕ → ℤ) → ℤ
others zero k f = pos 1
others (suc n) k f = if n == k then product n f else f n *ℤ others n k f

pub product_positive : (n : ℕ) (f : ℕ → ℤ) → ((i : ℕ) → i < n → pos 0 <ℤ f i) → pos 0 <ℤ product n f
product_positive zero f h = omega (arith, ints)
product_positive (suc n) f h = positive_product (f n) (product n f) (h n (omega arith)) (product_positive n f (λ i l. h i (omega (arith, l))))

others_here : (n k : ℕ) (f : ℕ → ℤ) → n ≡ k → others (suc n) k f ≡ product n f
others_here n k f e = grind (arith, nat_tests)

others_off : (n k : ℕ) (f : ℕ → ℤ) → n ≢ k → others (suc n) k f ≡ f n *ℤ others n k f
others_off n k f h = grind (arith, nat_tests)

pub others_positive : (n k : ℕ) (f : ℕ → ℤ) → ((i : ℕ) → i < n → pos 0 <ℤ f i) → pos 0 <ℤ others n k f
others_positive zero k f h = omega (arith, ints)
others_positive (suc n) k f h =
    ⊎_elim
    (λ e. subst (λ (x : ℤ). pos 0 <ℤ x) (sym (others_here n k f e)) (product_positive n f (λ i l. h i (omega (arith, l)))))
    (λ apart. subst (λ (x : ℤ). pos 0 <ℤ x) (sym (others_off n k f apart)) (positive_product (f n) (others n k f) (h n (omega arith)) (others_positive n k f (λ i l. h i (omega (arith, l))))))
    (cases_eq n k)

pub others_times : (n k : ℕ) (f : ℕ → ℤ) → k < n → f k *ℤ others n k f ≡ product n f
others_times zero k f h = absurd (omega (arith, h))
others_times (suc n) k f h =
    ⊎_elim
    (λ e. ap (λ (x : ℤ). f k *ℤ x) (others_here n k f e) ∙ ap (λ (m : ℕ). f m *ℤ product n f) (sym e))
    (λ apart. ap (λ (x : ℤ). f k *ℤ x) (others_off n k f apart) ∙ same (times (leaf (f k)) (times (leaf (f n)) (leaf (others n k f)))) (times (leaf (f n)) (times (leaf (f k)) (leaf (others n k f)))) (omega arith) ∙ ap (λ (x : ℤ). f n *ℤ x) (others_times n k f (omega (arith, h, apart))))
    (cases_eq n k)
