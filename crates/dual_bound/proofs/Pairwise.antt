-- Sums over two lists side by side, as loops make them: one place after another.
use Rattle.std.proofs.Common.{ℕ, zero, suc, ◌≡◌, ◌<◌, ◌≤◌, ◌+◌, List, [], ◌∷◌, ◌++◌, length, get_or, take, drop, get_or-set_other, get_or-set_same, map, inl, inr, ◌≢◌, refl, sym, ap, subst, ◌∙◌, add-one, drop-cons, arith}
use Rattle.std.specs.Prelude.{ℤ, pos, ◌+ℤ◌, ◌*ℤ◌}
use Rattle.std.specs.List.{zip}
use Rattle.std.proofs.lemmas.Bool.{cases_lt}
use Rattle.std.proofs.lemmas.Int.{ints}
use Rattle.std.proofs.Math.ListN.{set}
use Rattle.mov_base.specs.Sums.{add_up, sum_z}
use Rattle.row_program.specs.declared.Limit.{Limit}
use Rattle.dual_bound.specs.Weighing.{limit_start, times_all}

pub zip_more : {X : Type 0} (f : ℕ × X → ℤ) (ls : List ℕ) (xs : List X) (i j : ℕ) (x : X) → i < length ls → i < length xs → i + 1 ≡ j
    → sum_z f (zip (take j ls) (take j xs)) ≡ sum_z f (zip (take i ls) (take i xs)) +ℤ f (get_or ls i 0, get_or xs i x)
zip_more f [] xs i j d h k e = absurd (omega (arith, h))
zip_more f (l ∷ ls) [] i j d h k e = absurd (omega (arith, k))
zip_more f (l ∷ ls) (x ∷ xs) zero j d h k e = subst (λ (n : ℕ). sum_z f (zip (take n (l ∷ ls)) (take n (x ∷ xs))) ≡ pos 0 +ℤ f (l, x)) e (omega (arith, ints))
zip_more f (l ∷ ls) (x ∷ xs) (suc i) zero d h k e = absurd (omega (arith, e))
zip_more f (l ∷ ls) (x ∷ xs) (suc i) (suc j) d h k e = omega (arith, ints, zip_more f ls xs i j d (omega (arith, h)) (omega (arith, k)) (omega (arith, e)))

-- the same of the values of limits
pub limits_more : (ls : List ℕ) (limits : List Limit) (i j : ℕ) (limit : Limit) → i < length ls → i < length limits → i + 1 ≡ j
    → times_all (take j ls) (map limit_start (take j limits)) ≡ times_all (take i ls) (map limit_start (take i limits)) +ℤ (pos (get_or ls i 0) *ℤ limit_start (get_or limits i limit))
limits_more [] limits i j d h k e = absurd (omega (arith, h))
limits_more (l ∷ ls) [] i j d h k e = absurd (omega (arith, k))
limits_more (l ∷ ls) (x ∷ xs) zero j d h k e = subst (λ (n : ℕ). times_all (take n (l ∷ ls)) (map limit_start (take n (x ∷ xs))) ≡ pos 0 +ℤ (pos l *ℤ limit_start x)) e (omega (arith, ints))
limits_more (l ∷ ls) (x ∷ xs) (suc i) zero d h k e = absurd (omega (arith, e))
limits_more (l ∷ ls) (x ∷ xs) (suc i) (suc j) d h k e = omega (arith, ints, limits_more ls xs i j d (omega (arith, h)) (omega (arith, k)) (omega (arith, e)))

pub add_up_next : {X : Type 0} (f : X → ℕ) (xs : List X) (i j : ℕ) (x : X) → i < length xs → i + 1 ≡ j → add_up f (take j xs) ≡ add_up f (take i xs) + f (get_or xs i x)
add_up_next f [] i j d h e = absurd (omega (arith, h))
add_up_next f (x ∷ xs) zero j d h e = subst (λ (n : ℕ). add_up f (take n (x ∷ xs)) ≡ 0 + f x) e (omega arith)
add_up_next f (x ∷ xs) (suc i) zero d h e = absurd (omega (arith, e))
add_up_next f (x ∷ xs) (suc i) (suc j) d h e = omega (arith, add_up_next f xs i j d (omega (arith, h)) (omega (arith, e)))

-- what is left of the first list, with its first item
pub zip_rest : {X : Type 0} (f : ℕ × X → ℤ) (ls : List ℕ) (xs : List X) (i : ℕ) (x : X) → i < length ls
    → sum_z f (zip (drop i ls) (x ∷ xs)) ≡ f (get_or ls i 0, x) +ℤ sum_z f (zip (drop (i + 1) ls) xs)
zip_rest f ls xs i x lt =
    let d : drop i ls ≡ get_or ls i 0 ∷ drop (i + 1) ls = rw add-one (drop-cons ls i 0 lt) in
    ap (λ (ms : List ℕ). sum_z f (zip ms (x ∷ xs))) d

pub zip_none : {X : Type 0} (f : ℕ × X → ℤ) (ls : List ℕ) → sum_z f (zip {X = X} ls []) ≡ pos 0
zip_none f [] = refl
zip_none f (l ∷ ls) = refl

-- two lists behind one another, beside one list
pub zip_split : {X : Type 0} (f : ℕ × X → ℤ) (ls : List ℕ) (xs ys : List X) → length xs ≤ length ls
    → sum_z f (zip ls (xs ++ ys)) ≡ sum_z f (zip (take (length xs) ls) xs) +ℤ sum_z f (zip (drop (length xs) ls) ys)
zip_split f ls [] ys le = omega (arith, ints)
zip_split f [] (x ∷ xs) ys le = absurd (omega (arith, le))
zip_split f (l ∷ ls) (x ∷ xs) ys le = let h = zip_split f ls xs ys (omega (arith, le)) in omega (arith, ints, h)

drop_nothing : (m : ℕ) → drop {A = ℕ} m [] ≡ []
drop_nothing zero = refl
drop_nothing (suc m) = refl

pub drop_twice : (n m : ℕ) (xs : List ℕ) → drop m (drop n xs) ≡ drop (n + m) xs
drop_twice zero m xs = let e : zero + m ≡ m = omega arith in rw e refl
drop_twice (suc n) m [] = drop_nothing m ∙ sym (drop_nothing (suc n + m))
drop_twice (suc n) m (x ∷ xs) = let e : suc n + m ≡ suc (n + m) = omega arith in rw e (drop_twice n m xs)

-- what holds of the first items holds of one more
pub after_set : {X : Type 0} (P : X → Type 0) (xs : List X) (i : ℕ) (v d : X) → i < length xs → ((k : ℕ) → k < i → P (get_or xs k d)) → P v
    → (k : ℕ) → k < i + 1 → P (get_or (set xs i v) k d)
after_set P xs i v d fits old new k lt = elim (cases_lt k i) [
  | inl less ↦ let ne : k ≢ i = omega (arith, less) in rw get_or-set_other (old k less)
  | inr more ↦ let e : k ≡ i = omega (arith, more, lt) in rw (e, get_or-set_same) new
]
