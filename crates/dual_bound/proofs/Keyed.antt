-- Gains by keys: where what an old ballot costs is known from its key, and what a new one brings from the new one
-- alone, the gain of a ballot is that of the best new one over the cost by its key.
use Rattle.std.proofs.Common.{◌≡◌, ◌⊎◌, ◌↔◌, ℕ, ◌-◌, List, [], ◌∷◌, ◌++◌, map, drop, take, length, refl, ap, ◌∙◌, inl, inr, arith}
use Rattle.std.specs.Prelude.{ℤ, pos, ◌+ℤ◌, ◌-ℤ◌, ◌*ℤ◌, ◌≤ℤ◌, unsigned_abs}
use Rattle.std.specs.Int.{int_max}
use Rattle.std.specs.List.{zip}
use Rattle.std.proofs.Math.IntN.{negsuc}
use Rattle.std.proofs.lemmas.Int.{int_max_is, ints}
use Rattle.mov_base.specs.Sums.{most, sum_z}
use Rattle.mov_base.proofs.Signed.{distrib}
use Rattle.ballot_form.specs.Ballots.{IsValidBallot, Poll}
use Rattle.goal_rows.specs.Nodes.{Kept, kept_row}
use Rattle.dual_bound.specs.CutTest.{AreGains, CutsKept, base_of, change_by}
use Rattle.dual_bound.specs.Largest.{CutsAt}
use Rattle.dual_bound.specs.Weighing.{gain_by, times_all}
use Rattle.dual_bound.proofs.Sound.{gains-unique}

-- ---- the gain over a cost

-- a number cut off below 0
abbrev IsCutOff : ℤ → ℕ → Type 0
IsCutOff d n = (d ≤ℤ pos n) × ((n ≡ 0) ⊎ (d ≡ pos n))

greater_than_none : (n : ℕ) → int_max (pos n) (pos 0) ≡ pos n
greater_than_none n = omega (arith, ints, int_max_is (pos n) (pos 0))

none_is_greater : (n : ℕ) → int_max (negsuc n) (pos 0) ≡ pos 0
none_is_greater n = omega (arith, ints, int_max_is (negsuc n) (pos 0))

cut_off : (d : ℤ) → IsCutOff d (unsigned_abs (int_max d (pos 0)))
cut_off (pos n) = rw (greater_than_none n) (omega (arith, ints), inr refl)
cut_off (negsuc n) = rw (none_is_greater n) (omega (arith, ints), inl refl)

-- the most that a valid ballot brings
pub record IsMost (p : Poll) (brings : List ℕ → ℤ) (best : ℤ) : Type 0 where
  pub above : (new : List ℕ) → IsValidBallot p.c new → brings new ≤ℤ best
  pub reached : (new : List ℕ) × IsValidBallot p.c new × (brings new ≡ best)

-- what a replacement changes is what the new ballot brings less what the old one costs
abbrev pub IsByKey : List (ℕ × Kept) → (List ℕ → ℤ) → (ℕ → ℤ) → (List ℕ → ℕ) → Type 0
IsByKey weighed brings cost key = (old new : List ℕ) → change_by weighed (old, new) ≡ brings new -ℤ cost (key old)

keyed_gains : (p : Poll) (weighed : List (ℕ × Kept)) (brings : List ℕ → ℤ) (cost : ℕ → ℤ) (key : List ℕ → ℕ) (best : ℤ) (ballots : List (List ℕ))
    → IsByKey weighed brings cost key → IsMost p brings best → AreGains p weighed ballots (map (gain_by best cost) (map key ballots))
keyed_gains p weighed brings cost key best [] by greatest = tt
keyed_gains p weighed brings cost key best (ballot ∷ ballots) by greatest =
    let off = cut_off (best -ℤ cost (key ballot)) in (
      record {
        above = λ new valid. let b = by ballot new in let le = greatest.above new valid in let o = off.0 in omega (arith, ints, b, le, o);
        reached = elim off.1 [
          | inl none ↦ inl none
          | inr is ↦ let b = by ballot greatest.reached.0 in let e = greatest.reached.2 in inr (greatest.reached.0, greatest.reached.1, omega (arith, ints, b, e, is))
        ];
      },
      keyed_gains p weighed brings cost key best ballots by greatest,
    )

-- the test over the gains is that over rows and limits
at_kept : (p : Poll) (weighed : List (ℕ × Kept)) (base : ℤ) (gains : List ℕ) (t : ℕ) → AreGains p weighed p.ballots gains → base_of weighed ≡ base
    → CutsAt base gains t ↔ CutsKept p weighed t
at_kept p weighed base gains t are is = (into, out)
  where
    into : CutsAt base gains t → CutsKept p weighed t
    into (inl z) = inl z
    into (inr lt) = inr (gains, are, omega (arith, ints, lt, is))

    out : CutsKept p weighed t → CutsAt base gains t
    out (inl z) = inl z
    out (inr cut) =
        let e : cut.0 ≡ gains = gains-unique p weighed p.ballots cut.0 gains cut.1 are in
        let f : most (t - 1) cut.0 ≡ most (t - 1) gains = ap (most (t - 1)) e in
        inr (omega (arith, ints, cut.2, is, f))

pub keyed_test : (p : Poll) (weighed : List (ℕ × Kept)) (brings : List ℕ → ℤ) (cost : ℕ → ℤ) (key : List ℕ → ℕ) (best base : ℤ) (t : ℕ)
    → IsByKey weighed brings cost key → IsMost p brings best → base_of weighed ≡ base
    → CutsAt base (map (gain_by best cost) (map key p.ballots)) t ↔ CutsKept p weighed t
keyed_test p weighed brings cost key best base t by greatest is =
    at_kept p weighed base (map (gain_by best cost) (map key p.ballots)) t (keyed_gains p weighed brings cost key best p.ballots by greatest) is

-- ---- multipliers beside two lists, one behind the other

pub zip-append : {A : Type 0} (ls : List ℕ) (xs ys : List A) → zip ls (xs ++ ys) ≡ zip (take (length xs) ls) xs ++ zip (drop (length xs) ls) ys
zip-append [] [] ys = refl
zip-append (l ∷ ls) [] ys = refl
zip-append [] (x ∷ xs) ys = refl
zip-append (l ∷ ls) (x ∷ xs) ys = ap (λ zs. (l, x) ∷ zs) (zip-append ls xs ys)

pub sum_z-append : {A : Type 0} (f : A → ℤ) (xs ys : List A) → sum_z f (xs ++ ys) ≡ sum_z f xs +ℤ sum_z f ys
sum_z-append f [] ys = omega (arith, ints)
sum_z-append f (x ∷ xs) ys = let h = sum_z-append f xs ys in omega (arith, ints, h)

-- sums over both lists
pub sum_z-zip : {A : Type 0} (f : ℕ × A → ℤ) (ls : List ℕ) (xs ys : List A)
    → sum_z f (zip ls (xs ++ ys)) ≡ sum_z f (zip (take (length xs) ls) xs) +ℤ sum_z f (zip (drop (length xs) ls) ys)
sum_z-zip f ls xs ys = ap (sum_z f) (zip-append ls xs ys) ∙ sum_z-append f (zip (take (length xs) ls) xs) (zip (drop (length xs) ls) ys)

-- multipliers beside made values
pub sum_z-made : {A B : Type 0} (f : ℕ × B → ℤ) (g : A → B) (ls : List ℕ) (xs : List A) → sum_z f (zip ls (map g xs)) ≡ sum_z (λ v. f (v.0, g v.1)) (zip ls xs)
sum_z-made f g [] xs = refl
sum_z-made f g (l ∷ ls) [] = refl
sum_z-made f g (l ∷ ls) (x ∷ xs) = ap (λ z. f (l, g x) +ℤ z) (sum_z-made f g ls xs)

-- ---- rows

-- what a ballot counts in rows, times their multipliers
abbrev pub worth : List ℕ → List (List ℕ → ℤ) → List ℕ → ℤ
worth rows weights ballot = times_all rows (map (λ weight. weight ballot) weights)

difference : (l : ℕ) (a b : ℤ) → pos l *ℤ (a -ℤ b) ≡ (pos l *ℤ a) -ℤ (pos l *ℤ b)
difference l a b =
    let whole : (a -ℤ b) +ℤ b ≡ a = omega (arith, ints) in
    let d = distrib l (a -ℤ b) b in
    let e = ap (λ z. pos l *ℤ z) whole in
    omega (arith, ints, d, e)

pub rows_change : (ballots : List (List ℕ)) (rows : List ℕ) (weights : List (List ℕ → ℤ)) (old new : List ℕ)
    → change_by (zip rows (map (kept_row ballots) weights)) (old, new) ≡ worth rows weights new -ℤ worth rows weights old
rows_change ballots [] weights old new = refl
rows_change ballots (l ∷ rows) [] old new = refl
rows_change ballots (l ∷ rows) (weight ∷ weights) old new =
    let h = rows_change ballots rows weights old new in
    let d = difference l (weight new) (weight old) in
    omega (arith, ints, h, d)

pub rows_start : (ballots : List (List ℕ)) (rows : List ℕ) (weights : List (List ℕ → ℤ))
    → base_of (zip rows (map (kept_row ballots) weights)) ≡ times_all rows (map (λ weight. sum_z weight ballots) weights)
rows_start ballots [] weights = refl
rows_start ballots (l ∷ rows) [] = refl
rows_start ballots (l ∷ rows) (weight ∷ weights) = ap (λ z. (pos l *ℤ sum_z weight ballots) +ℤ z) (rows_start ballots rows weights)
