-- A map in place: f of the first n entries.
use Rattle.std.proofs.Common.{ℕ, zero, suc, ◌≡◌, ◌<◌, ◌≤◌, ◌+◌, arith, refl, ap, ◌∙◌, List, [], ◌∷◌, length, get_or, set, map}

abbrev pub map_front : {X : Type 0} → (X → X) → ℕ → List X → List X
map_front f zero xs = xs
map_front f (suc n) [] = []
map_front f (suc n) (x ∷ xs) = f x ∷ map_front f n xs

pub length-map_front : {X : Type 0} (f : X → X) (n : ℕ) (xs : List X) → length (map_front f n xs) ≡ length xs
length-map_front f zero xs = refl
length-map_front f (suc n) [] = refl
length-map_front f (suc n) (x ∷ xs) = ap suc (length-map_front f n xs)

pub get_or-map_front : {X : Type 0} (f : X → X) (n : ℕ) (xs : List X) (d : X) → get_or (map_front f n xs) n d ≡ get_or xs n d
get_or-map_front f zero xs d = refl
get_or-map_front f (suc n) [] d = refl
get_or-map_front f (suc n) (x ∷ xs) d = get_or-map_front f n xs d

pub map_front_more : {X : Type 0} (f : X → X) (n : ℕ) (xs : List X) (d : X) → n < length xs → set (map_front f n xs) n (f (get_or xs n d)) ≡ map_front f (n + 1) xs
map_front_more f n [] d h = absurd (omega (arith, h))
map_front_more f zero (x ∷ xs) d h = refl
map_front_more f (suc n) (x ∷ xs) d h = ap (λ (r : List _). f x ∷ r) (map_front_more f n xs d (omega (arith, h))) ∙ (let e : suc (n + 1) ≡ suc n + 1 = omega arith in ap (λ (m : ℕ). map_front f m (x ∷ xs)) e)

pub map_front_all : {X : Type 0} (f : X → X) (n : ℕ) (xs : List X) → length xs ≤ n → map_front f n xs ≡ map f xs
map_front_all f zero [] h = refl
map_front_all f zero (x ∷ xs) h = absurd (omega (arith, h))
map_front_all f (suc n) [] h = refl
map_front_all f (suc n) (x ∷ xs) h = ap (λ (r : List _). f x ∷ r) (map_front_all f n xs (omega (arith, h)))
