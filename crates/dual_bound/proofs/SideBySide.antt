-- Sums over two lists side by side.
use Rattle.std.proofs.Common.{◌≡◌, ℕ, suc, ◌*◌, List, [], ◌∷◌, ◌++◌, length, map, refl, sym, ap, ◌∙◌, arith}
use Rattle.std.specs.Prelude.{ℤ, pos, ◌+ℤ◌, ◌-ℤ◌, ◌*ℤ◌}
use Rattle.std.specs.List.{zip}
use Rattle.std.proofs.Math.IntN.{negsuc}
use Rattle.std.proofs.lemmas.Int.{ints}
use Rattle.mov_base.specs.Sums.{add_up, sum_z}
use Rattle.mov_base.proofs.Signed.{distrib}
use Rattle.dual_bound.specs.Weighing.{times_all}

-- numbers times what is made of the items beside them
abbrev pub mixed : {X : Type 0} → (X → ℤ) → List ℕ → List X → ℤ
mixed f ls xs = sum_z (λ v. pos v.0 *ℤ f v.1) (zip ls xs)

pub minus_inside : (l : ℕ) (a b : ℤ) → pos l *ℤ (a -ℤ b) ≡ (pos l *ℤ a) -ℤ (pos l *ℤ b)
minus_inside l a b =
    let whole : (a -ℤ b) +ℤ b ≡ a = omega (arith, ints) in
    let d = distrib l (a -ℤ b) b in
    let e = ap (λ z. pos l *ℤ z) whole in
    omega (arith, ints, d, e)

minus_times : (l k : ℕ) → pos l *ℤ (pos 0 -ℤ pos k) ≡ pos 0 -ℤ pos (l * k)
minus_times l k = let d = minus_inside l (pos 0) (pos k) in omega (arith, ints, d)

-- two factors in the other order
pub factors_swap : (x l : ℕ) (z : ℤ) → pos x *ℤ (pos l *ℤ z) ≡ pos l *ℤ (pos x *ℤ z)
factors_swap x l (pos n) = omega (arith, ints)
factors_swap x l (negsuc n) =
    let below : negsuc n ≡ pos 0 -ℤ pos (suc n) = omega (arith, ints) in
    let same : x * (l * suc n) ≡ l * (x * suc n) = omega arith in
    ap (λ z. pos x *ℤ (pos l *ℤ z)) below
    ∙ ap (λ z. pos x *ℤ z) (minus_times l (suc n))
    ∙ minus_times x (l * suc n)
    ∙ ap (λ k. pos 0 -ℤ pos k) same
    ∙ sym (ap (λ z. pos l *ℤ (pos x *ℤ z)) below ∙ ap (λ z. pos l *ℤ z) (minus_times x (suc n)) ∙ minus_times l (x * suc n))

-- a factor on the other side
pub turned : (w : ℤ) (x : ℕ) → w *ℤ pos x ≡ pos x *ℤ w
turned (pos n) x = omega (arith, ints)
turned (negsuc n) x = omega (arith, ints)

pub one_time : (z : ℤ) → pos 1 *ℤ z ≡ z
one_time (pos n) = omega (arith, ints)
one_time (negsuc n) = omega (arith, ints)

pub none_times : (z : ℤ) → pos 0 *ℤ z ≡ pos 0
none_times (pos n) = omega (arith, ints)
none_times (negsuc n) = omega (arith, ints)

pub times_none : {X : Type 0} (xs : List ℕ) (cs : List X) → times_all xs (map (λ c. pos 0) cs) ≡ pos 0
times_none [] cs = refl
times_none (x ∷ xs) [] = refl
times_none (x ∷ xs) (c ∷ cs) = let rest = times_none xs cs in omega (arith, ints, rest)

pub times_both : {X : Type 0} (f g : X → ℤ) (xs : List ℕ) (cs : List X)
    → times_all xs (map (λ c. f c +ℤ g c) cs) ≡ times_all xs (map f cs) +ℤ times_all xs (map g cs)
times_both f g [] cs = refl
times_both f g (x ∷ xs) [] = refl
times_both f g (x ∷ xs) (c ∷ cs) =
    let rest = times_both f g xs cs in
    let here = distrib x (f c) (g c) in
    omega (arith, ints, rest, here)

pub times_scaled : {X : Type 0} (l : ℕ) (f : X → ℤ) (xs : List ℕ) (cs : List X)
    → times_all xs (map (λ c. pos l *ℤ f c) cs) ≡ pos l *ℤ times_all xs (map f cs)
times_scaled l f [] cs = omega (arith, ints)
times_scaled l f (x ∷ xs) [] = omega (arith, ints)
times_scaled l f (x ∷ xs) (c ∷ cs) =
    let rest = times_scaled l f xs cs in
    let here = factors_swap x l (f c) in
    let whole = distrib l (pos x *ℤ f c) (times_all xs (map f cs)) in
    omega (arith, ints, rest, here, whole)

pub times_same : {X : Type 0} (f g : X → ℤ) (xs : List ℕ) (cs : List X) → ((c : X) → f c ≡ g c) → times_all xs (map f cs) ≡ times_all xs (map g cs)
times_same f g [] cs same = refl
times_same f g (x ∷ xs) [] same = refl
times_same f g (x ∷ xs) (c ∷ cs) same =
    let rest = times_same f g xs cs same in
    let here = ap (λ z. pos x *ℤ z) (same c) in
    omega (arith, ints, rest, here)

-- two lists behind one another, each beside two others
pub times_append : (xs ys : List ℕ) (vs ws : List ℤ) → length xs ≡ length vs → times_all (xs ++ ys) (vs ++ ws) ≡ times_all xs vs +ℤ times_all ys ws
times_append [] ys [] ws long = omega (arith, ints)
times_append [] ys (v ∷ vs) ws long = absurd (omega (arith, long))
times_append (x ∷ xs) ys [] ws long = absurd (omega (arith, long))
times_append (x ∷ xs) ys (v ∷ vs) ws long = let rest = times_append xs ys vs ws (omega (arith, long)) in omega (arith, ints, rest)

-- the sum of numbers that are natural
pub times_ones : {X : Type 0} (xs : List ℕ) (cs : List X) → length xs ≡ length cs → times_all xs (map (λ c. pos 1) cs) ≡ pos (add_up (λ x. x) xs)
times_ones [] [] long = refl
times_ones [] (c ∷ cs) long = absurd (omega (arith, long))
times_ones (x ∷ xs) [] long = absurd (omega (arith, long))
times_ones (x ∷ xs) (c ∷ cs) long = let rest = times_ones xs cs (omega (arith, long)) in omega (arith, ints, rest)

-- ---- items that two ways make alike

abbrev pub AreAlike : {X : Type 0} → (X → ℤ) → (X → ℤ) → List X → Type 0
AreAlike f g [] = Unit {0}
AreAlike f g (x ∷ xs) = (f x ≡ g x) × AreAlike f g xs

pub mixed_alike : {X : Type 0} (f g : X → ℤ) (ls : List ℕ) (xs : List X) → AreAlike f g xs → mixed f ls xs ≡ mixed g ls xs
mixed_alike f g [] xs alike = refl
mixed_alike f g (l ∷ ls) [] alike = refl
mixed_alike f g (l ∷ ls) (x ∷ xs) alike =
    let rest = mixed_alike f g ls xs alike.1 in
    let here = ap (λ z. pos l *ℤ z) alike.0 in
    omega (arith, ints, rest, here)

-- with the other sign
pub mixed_minus : {X : Type 0} (f : X → ℤ) (ls : List ℕ) (xs : List X) → mixed (λ x. pos 0 -ℤ f x) ls xs ≡ pos 0 -ℤ mixed f ls xs
mixed_minus f [] xs = refl
mixed_minus f (l ∷ ls) [] = refl
mixed_minus f (l ∷ ls) (x ∷ xs) =
    let rest = mixed_minus f ls xs in
    let here = minus_inside l (pos 0) (f x) in
    omega (arith, ints, rest, here)

-- the first of pairs from two lists, and the second
pub mixed_second : {A X : Type 0} (f : X → ℤ) (ls : List ℕ) (vs : List A) (xs : List X) → length vs ≡ length xs → mixed (λ r. f r.1) ls (zip vs xs) ≡ mixed f ls xs
mixed_second f [] vs xs long = refl
mixed_second f (l ∷ ls) [] [] long = refl
mixed_second f (l ∷ ls) [] (x ∷ xs) long = absurd (omega (arith, long))
mixed_second f (l ∷ ls) (v ∷ vs) [] long = absurd (omega (arith, long))
mixed_second f (l ∷ ls) (v ∷ vs) (x ∷ xs) long = ap (λ z. (pos l *ℤ f x) +ℤ z) (mixed_second f ls vs xs (omega (arith, long)))

pub firsts_of : {X : Type 0} (vs : List ℤ) (xs : List X) → length vs ≡ length xs → map (λ r. r.0) (zip vs xs) ≡ vs
firsts_of [] [] long = refl
firsts_of [] (x ∷ xs) long = absurd (omega (arith, long))
firsts_of (v ∷ vs) [] long = absurd (omega (arith, long))
firsts_of (v ∷ vs) (x ∷ xs) long = ap (λ zs. v ∷ zs) (firsts_of vs xs (omega (arith, long)))
