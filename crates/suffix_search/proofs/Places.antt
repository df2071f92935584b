-- Lists with other items in the place of one.
use Rattle.std.proofs.Common.{◌≡◌, ℕ, zero, suc, ◌+◌, ◌<◌, ◌++◌, List, [], ◌∷◌, drop, get_or, length, map, take, refl, ap, arith}
use Rattle.std.proofs.lemmas.List.{map-append}
use Rattle.search_theory.specs.Spots.{put_at}

pub pieces : {A : Type 0} (i j : ℕ) (xs new : List A) → j ≡ i + 1 → i < length xs → (take i (take j xs) ++ new) ++ drop j xs ≡ put_at i (λ x. new) xs
pieces i j [] new e lt = absurd (omega (arith, lt))
pieces zero zero (x ∷ xs) new e lt = absurd (omega (arith, e))
pieces zero (suc j) (x ∷ xs) new e lt = let e' : j ≡ 0 = omega (arith, e) in rw e' refl
pieces (suc i) zero (x ∷ xs) new e lt = absurd (omega (arith, e))
pieces (suc i) (suc j) (x ∷ xs) new e lt = ap (λ l. x ∷ l) (pieces i j xs new (omega (arith, e)) (omega (arith, lt)))

pub map-put_at : {A B : Type 0} (f : A → B) (i : ℕ) (new xs : List A) → map f (put_at i (λ x. new) xs) ≡ put_at i (λ y. map f new) (map f xs)
map-put_at f i new [] = refl
map-put_at f zero new (x ∷ xs) = map-append f new xs
map-put_at f (suc i) new (x ∷ xs) = ap (λ l. f x ∷ l) (map-put_at f i new xs)

pub get_or-any : {A : Type 0} (i : ℕ) (xs : List A) (x y : A) → i < length xs → get_or xs i x ≡ get_or xs i y
get_or-any i [] x y lt = absurd (omega (arith, lt))
get_or-any zero (z ∷ zs) x y lt = refl
get_or-any (suc i) (z ∷ zs) x y lt = get_or-any i zs x y (omega (arith, lt))
