-- Counts and sums over a run of numbers, and over a list.
use Rattle.std.proofs.Common.{ℕ, zero, suc, List, [], ◌∷◌, ◌≡◌, ◌<◌, ◌≤◌, ◌+◌, ◌-◌, ◌∙◌, Bool, true, false, cond, length, get_or, set, take, refl, ap, inl, inr, arith}
use Rattle.std.specs.Prelude.{count_by}
use Rattle.std.specs.List.{range_with_len}
use Rattle.std.proofs.lemmas.Bool.{cases_lt, cases_eq}
use Rattle.std.proofs.lemmas.List.Sums.{sum_by-cons}
use Rattle.std.proofs.lemmas.List.FromFn.{fill_by_all}
use Rattle.std.proofs.lemmas.Option.{slice_get-get_or}
use Rattle.mov_base.specs.Sums.{add_up}
use Rattle.mov_base.proofs.Sums.{add_up-map, add_up_more}
use Rattle.dhondt_seats.specs.Seats.{seats_in_all}

count_cons : (test : ℕ → Bool) (x : ℕ) (xs : List ℕ) → count_by test (x ∷ xs) ≡ cond (test x) 1 0 + count_by test xs
count_cons test x xs = sum_by-cons (λ y. cond (test y) 1 0) x xs

one_fewer : (b : Bool) (a m rest : ℕ) → rest ≤ m - (a + 1) → (b ≡ true → a < m) → cond b 1 0 + rest ≤ m - a
one_fewer true a m rest ih lt = let h = lt refl in omega arith
one_fewer false a m rest ih lt = omega arith

-- of n numbers from a on, only numbers below m pass
pub count_le : (test : ℕ → Bool) (m a n : ℕ) → ((r : ℕ) → a ≤ r → test r ≡ true → r < m) → count_by test (range_with_len a n) ≤ m - a
count_le test m a zero below = omega arith
count_le test m a (suc n) below =
    rw (count_cons test a (range_with_len (a + 1) n)) (one_fewer (test a) a m _ (count_le test m (a + 1) n (λ r le e. below r (omega arith) e)) (below a (omega arith)))

-- of n numbers from a on, all numbers below m pass
pub count_ge : (test : ℕ → Bool) (m a n : ℕ) → m ≤ a + n → ((r : ℕ) → a ≤ r → r < m → test r ≡ true) → m - a ≤ count_by test (range_with_len a n)
count_ge test m a zero long all = omega arith
count_ge test m a (suc n) long all = elim (cases_lt a m) [
  | inl lt ↦
      let ih = count_ge test m (a + 1) n (omega arith) (λ r le k. all r (omega arith) k) in
      rw (count_cons test a (range_with_len (a + 1) n), all a (omega arith) lt) (omega arith)
  | inr ge ↦ omega arith
]

-- a sum of terms that are at most those of another one
pub sum_le : (f g : ℕ → ℕ) (a n : ℕ) → ((b : ℕ) → a ≤ b → b < a + n → f b ≤ g b) → add_up f (range_with_len a n) ≤ add_up g (range_with_len a n)
sum_le f g a zero each = omega arith
sum_le f g a (suc n) each = omega (arith, each a (omega arith) (omega arith), sum_le f g (a + 1) n (λ b le lt. each b (omega arith) (omega arith)))

-- and one of them less
pub sum_less : (f g : ℕ → ℕ) (a n c : ℕ) → a ≤ c → c < a + n → f c < g c → ((b : ℕ) → a ≤ b → b < a + n → f b ≤ g b)
    → add_up f (range_with_len a n) < add_up g (range_with_len a n)
sum_less f g a zero c from to less each = absurd (omega arith)
sum_less f g a (suc n) c from to less each = elim (cases_eq c a) [
  | inl e ↦
      let here : f a < g a = rw e at less in
      omega (arith, here, sum_le f g (a + 1) n (λ b le lt. each b (omega arith) (omega arith)))
  | inr ne ↦ omega (arith, each a (omega arith) (omega arith), sum_less f g (a + 1) n c (omega arith) (omega arith) less (λ b le lt. each b (omega arith) (omega arith)))
]

-- the sum of a list, place by place
pub sum_by_place : (xs : List ℕ) (n : ℕ) → length xs ≡ n → add_up (λ x. x) xs ≡ add_up (λ b. get_or xs b 0) (range_with_len 0 n)
sum_by_place xs n long =
    ap (λ ys. add_up (λ x. x) ys) (fill_by_all (λ b. get_or xs b 0) xs n 0 long (λ k lt. refl)) ∙ add_up-map (λ x. x) (λ b. get_or xs b 0) (range_with_len 0 n)

-- one number of the list is greater by one
pub sum_set : (xs : List ℕ) (i : ℕ) → i < length xs → add_up (λ x. x) (set xs i (get_or xs i 0 + 1)) ≡ add_up (λ x. x) xs + 1
sum_set [] i within = absurd (omega arith)
sum_set (x ∷ xs) zero within = omega arith
sum_set (x ∷ xs) (suc i) within = omega (arith, sum_set xs i (omega arith))

pub place_le_sum : (xs : List ℕ) (i : ℕ) → get_or xs i 0 ≤ add_up (λ x. x) xs
place_le_sum [] i = omega arith
place_le_sum (x ∷ xs) zero = omega arith
place_le_sum (x ∷ xs) (suc i) = omega (arith, place_le_sum xs i)

pub sum_of_none : (xs : List ℕ) → ((i : ℕ) → i < length xs → get_or xs i 0 ≡ 0) → add_up (λ x. x) xs ≡ 0
sum_of_none [] none = refl
sum_of_none (x ∷ xs) none = omega (arith, none 0 (omega arith), sum_of_none xs (λ i lt. none (suc i) (omega arith)))

-- one number more
pub sum_more : (xs : List ℕ) (i : ℕ) → i < length xs → seats_in_all (take (i + 1) xs) ≡ seats_in_all (take i xs) + get_or xs i 0
sum_more xs i within = add_up_more (λ x. x) xs i (get_or xs i 0) (slice_get-get_or xs i 0 within)
