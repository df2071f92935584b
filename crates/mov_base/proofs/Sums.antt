-- Sums of natural numbers over a list.
use Rattle.std.proofs.Common.{◌≡◌, ℕ, ◌+◌, ◌*◌, ◌≤◌, List, [], ◌∷◌, ◌++◌, Some, length, map, take, slice_get, sym, refl, ap, ◌∙◌, arith}
use Rattle.std.specs.Prelude.{sum_by}
use Rattle.std.proofs.lemmas.List.{take_more}
use Rattle.std.proofs.lemmas.List.Sums.{sum_by-cons}
use Rattle.std.proofs.lemmas.Option.{get_or_from_slice_get, slice_get_within}
use Rattle.mov_base.specs.Sums.{add_up}

-- the bridge to std's sum
pub add_up-sum_by : {A : Type 0} (f : A → ℕ) (xs : List A) → add_up f xs ≡ sum_by f xs
add_up-sum_by f [] = refl
add_up-sum_by f (x ∷ xs) = ap (λ n. f x + n) (add_up-sum_by f xs) ∙ sym (sum_by-cons f x xs)

pub add_up-append : {A : Type 0} (f : A → ℕ) (xs ys : List A) → add_up f (xs ++ ys) ≡ add_up f xs + add_up f ys
add_up-append f [] ys = omega arith
add_up-append f (x ∷ xs) ys = omega (arith, add_up-append f xs ys)

pub add_up-map : {A B : Type 0} (f : B → ℕ) (g : A → B) (xs : List A) → add_up f (map g xs) ≡ add_up (λ x. f (g x)) xs
add_up-map f g [] = refl
add_up-map f g (x ∷ xs) = omega (arith, add_up-map f g xs)

-- one item more
pub add_up_more : {A : Type 0} (f : A → ℕ) (xs : List A) (i : ℕ) (x : A) → slice_get xs i ≡ Some x → add_up f (take (i + 1) xs) ≡ add_up f (take i xs) + f x
add_up_more f xs i x at =
    let within = slice_get_within xs i x at in
    let here = get_or_from_slice_get xs i x x at in
    rw (take_more xs i x within, here) (add_up-append f (take i xs) (x ∷ []) ∙ omega arith)

-- where no item counts more than so much
pub add_up-le : {A : Type 0} (f : A → ℕ) (k : ℕ) (xs : List A) → ((x : A) → f x ≤ k) → add_up f xs ≤ k * length xs
add_up-le f k [] small = omega arith
add_up-le f k (x ∷ xs) small = omega (arith, small x, add_up-le f k xs small)
