-- Sums of the values of a function.
use Rattle.std.proofs.Common.{ℕ, zero, suc, ◌≡◌, ◌≢◌, ◌<◌, ◌≤◌, ◌+◌, arith, refl, ap, sym, ◌∙◌, ◌⊎◌, ⊎_elim}
use Rattle.std.specs.Prelude.{ℤ, pos, ◌+ℤ◌, ◌*ℤ◌, ◌-ℤ◌, ◌≤ℤ◌}
use lib.IntN.{neg_ℤ}
use Rattle.std.proofs.lemmas.Int.{ints}
use Rattle.std.proofs.lemmas.Bool.{cases_eq, cases_lt}
use Rattle.row_program.specs.Sums.{sum_from}
use Rattle.exact_num.proofs.Ring.{leaf, plus, minus, times, opposite, same}
use Rattle.pivot_form.proofs.Sums.{zero_times, sum_from-same}

pub sum_from-zero : (n v : ℕ) (f : ℕ → ℤ) → ((u : ℕ) → v ≤ u → u < v + n → f u ≡ pos 0) → sum_from n v f ≡ pos 0
sum_from-zero zero v f h = refl
sum_from-zero (suc n) v f h = omega (arith, ints, h v (omega arith) (omega arith), sum_from-zero n (suc v) f (λ u i j. h u (omega (arith, i)) (omega (arith, j))))

-- one term alone
pub sum_from-one : (n v : ℕ) (f : ℕ → ℤ) (k : ℕ) → v ≤ k → k < v + n → ((u : ℕ) → v ≤ u → u < v + n → u ≢ k → f u ≡ pos 0) → sum_from n v f ≡ f k
sum_from-one zero v f k i j h = absurd (omega (arith, i, j))
sum_from-one (suc n) v f k i j h =
    ⊎_elim
    (λ e. let rest : sum_from n (suc v) f ≡ pos 0 = sum_from-zero n (suc v) f (λ u a b. h u (omega (arith, a)) (omega (arith, b)) (omega (arith, e, a))) in
    let here : f k ≡ f v = ap f e in omega (arith, ints, rest, here))
    (λ apart. let rest = sum_from-one n (suc v) f k (omega (arith, i, apart)) (omega (arith, j)) (λ u a b. h u (omega (arith, a)) (omega (arith, b))) in
    let first : f v ≡ pos 0 = h v (omega arith) (omega arith) (omega (arith, apart)) in omega (arith, ints, rest, first))
    (cases_eq k v)

-- two terms alone
pub sum_from-two : (n v : ℕ) (f : ℕ → ℤ) (k l : ℕ) → v ≤ k → k < l → l < v + n → ((u : ℕ) → v ≤ u → u < v + n → u ≢ k → u ≢ l → f u ≡ pos 0) → sum_from n v f ≡ f k +ℤ f l
sum_from-two zero v f k l i j m h = absurd (omega (arith, i, j, m))
sum_from-two (suc n) v f k l i j m h =
    ⊎_elim
    (λ e. let rest = sum_from-one n (suc v) f l (omega (arith, e, j)) (omega (arith, m)) (λ u a b s. h u (omega (arith, a)) (omega (arith, b)) (omega (arith, e, a)) s) in
    let here : f k ≡ f v = ap f e in omega (arith, ints, rest, here))
    (λ apart. let rest = sum_from-two n (suc v) f k l (omega (arith, i, apart)) j (omega (arith, m)) (λ u a b. h u (omega (arith, a)) (omega (arith, b))) in
    let first : f v ≡ pos 0 = h v (omega arith) (omega arith) (omega (arith, apart)) (omega (arith, i, j)) in omega (arith, ints, rest, first))
    (cases_eq k v)

-- a row of a form at a solution whose entries away from b and k add nothing
pub link : (count : ℕ) (row y : ℕ → ℤ) (b k : ℕ) → b < k → k < count → ((j : ℕ) → j < count → j ≢ b → j ≢ k → (row j ≡ pos 0) ⊎ (y j ≡ pos 0)) → sum_from count 0 (λ j. row j *ℤ y j) ≡ row b *ℤ y b +ℤ row k *ℤ y k
link count row y b k i j h = sum_from-two count 0 (λ u. row u *ℤ y u) b k (omega arith) i (omega (arith, j)) (λ u a l p q. ⊎_elim (λ z. ap (λ (x : ℤ). x *ℤ y u) z ∙ omega (arith, ints)) (λ z. zero_times (row u) (y u) z) (h u (omega (arith, l)) p q))

pub link_apart : (count : ℕ) (row y : ℕ → ℤ) (b k : ℕ) → b ≢ k → b < count → k < count → ((j : ℕ) → j < count → j ≢ b → j ≢ k → (row j ≡ pos 0) ⊎ (y j ≡ pos 0)) → sum_from count 0 (λ j. row j *ℤ y j) ≡ row b *ℤ y b +ℤ row k *ℤ y k
link_apart count row y b k apart i j h =
    ⊎_elim
    (λ less. link count row y b k less j h)
    (λ more. let e = link count row y k b (omega (arith, more, apart)) i (λ u l p q. h u l q p) in omega (arith, ints, e))
    (cases_lt b k)

-- the comparison of two columns, and the direction after the pivot: e is the basic entry of the row of the variable v
pub column_sign : (e y z vj vk rj rk lj lk : ℤ) → e *ℤ y ≡ neg_ℤ (vj *ℤ lj) → e *ℤ z ≡ neg_ℤ (vk *ℤ lk) → e *ℤ ((neg_ℤ rk *ℤ lk) *ℤ y +ℤ (rj *ℤ lj) *ℤ z) ≡ (lj *ℤ lk) *ℤ (vj *ℤ rk -ℤ vk *ℤ rj)
column_sign e y z vj vk rj rk lj lk p q =
    let E = leaf e in let Y = leaf y in let Z = leaf z in let K = leaf rk in let J = leaf rj in let A = leaf lj in let B = leaf lk in let V = leaf vj in let W = leaf vk in
    let spread : e *ℤ ((neg_ℤ rk *ℤ lk) *ℤ y +ℤ (rj *ℤ lj) *ℤ z) ≡ (neg_ℤ rk *ℤ lk) *ℤ (e *ℤ y) +ℤ (rj *ℤ lj) *ℤ (e *ℤ z)
    = same (times E (plus (times (times (opposite K) B) Y) (times (times J A) Z))) (plus (times (times (opposite K) B) (times E Y)) (times (times J A) (times E Z))) (omega arith) in
    let put : (neg_ℤ rk *ℤ lk) *ℤ (e *ℤ y) +ℤ (rj *ℤ lj) *ℤ (e *ℤ z) ≡ (neg_ℤ rk *ℤ lk) *ℤ neg_ℤ (vj *ℤ lj) +ℤ (rj *ℤ lj) *ℤ neg_ℤ (vk *ℤ lk) = cc in
    spread ∙ put ∙ same (plus (times (times (opposite K) B) (opposite (times V A))) (times (times J A) (opposite (times W B)))) (times (times A B) (minus (times V K) (times W J))) (omega arith)

pub sum_from-neg : (n v : ℕ) (f g : ℕ → ℤ) → ((u : ℕ) → g u ≡ neg_ℤ (f u)) → sum_from n v g ≡ neg_ℤ (sum_from n v f)
sum_from-neg zero v f g h = refl
sum_from-neg (suc n) v f g h = omega (arith, ints, h v, sum_from-neg n (suc v) f g h)

pub sum_from-split : (a b v : ℕ) (f : ℕ → ℤ) → sum_from (a + b) v f ≡ sum_from a v f +ℤ sum_from b (v + a) f
sum_from-split zero b v f = let e : zero + b ≡ b = omega arith in let g : v + zero ≡ v = omega arith in let x = ap (λ (n : ℕ). sum_from n v f) e in let y = ap (λ (u : ℕ). sum_from b u f) g in omega (arith, ints, x, y)
sum_from-split (suc a) b v f =
    let e : suc a + b ≡ suc (a + b) = omega arith in
    let g : suc v + a ≡ v + suc a = omega arith in
    let x = ap (λ (n : ℕ). sum_from n v f) e in
    let y = ap (λ (u : ℕ). sum_from b u f) g in
    let rest = sum_from-split a b (suc v) f in
    omega (arith, ints, x, y, rest)

pub sum_from-nonneg : (n v : ℕ) (f : ℕ → ℤ) → ((u : ℕ) → v ≤ u → u < v + n → pos 0 ≤ℤ f u) → pos 0 ≤ℤ sum_from n v f
sum_from-nonneg zero v f h = omega (arith, ints)
sum_from-nonneg (suc n) v f h = let x = h v (omega arith) (omega arith) in let y = sum_from-nonneg n (suc v) f (λ u a b. h u (omega (arith, a)) (omega (arith, b))) in omega (arith, ints, x, y)

-- the terms before `low`, the `kept` ones, and `more` after them
pub kept_below : (low kept more : ℕ) (f : ℕ → ℤ) → ((u : ℕ) → u < low → pos 0 ≤ℤ f u) → ((u : ℕ) → low + kept ≤ u → u < low + kept + more → pos 0 ≤ℤ f u) → sum_from kept low f ≤ℤ sum_from (low + kept + more) 0 f
kept_below low kept more f h k =
    let s = sum_from-split (low + kept) more 0 f in
    let m = sum_from-split low kept 0 f in
    let e : zero + low ≡ low = omega arith in
    let x = ap (λ (u : ℕ). sum_from kept u f) e in
    let a = sum_from-nonneg low 0 f (λ u i j. h u (omega (arith, j))) in
    let b = sum_from-nonneg more (0 + (low + kept)) f (λ u i j. k u (omega (arith, i)) (omega (arith, j))) in
    omega (arith, ints, s, m, x, a, b)

-- two sums that agree but at k
pub sum_from-but_one : (n v : ℕ) (f h : ℕ → ℤ) (k : ℕ) → v ≤ k → k < v + n → ((u : ℕ) → v ≤ u → u < v + n → u ≢ k → f u ≡ h u) → h k ≡ pos 0 → sum_from n v f ≡ f k +ℤ sum_from n v h
sum_from-but_one zero v f h k i j e z = absurd (omega (arith, i, j))
sum_from-but_one (suc n) v f h k i j e z =
    ⊎_elim
    (λ (here : k ≡ v).
    let rest = sum_from-same n (suc v) f h (λ u a b. e u (omega (arith, a)) (omega (arith, b)) (omega (arith, here, a))) in
    let first : f k ≡ f v = ap f here in
    let none : h v ≡ pos 0 = ap h (sym here) ∙ z in omega (arith, ints, rest, first, none))
    (λ apart.
    let rest = sum_from-but_one n (suc v) f h k (omega (arith, i, apart)) (omega (arith, j)) (λ u a b. e u (omega (arith, a)) (omega (arith, b))) z in
    let first : f v ≡ h v = e v (omega arith) (omega arith) (omega (arith, apart)) in omega (arith, ints, rest, first))
    (cases_eq k v)
