-- Sets of candidates as bits.
use Rattle.std.proofs.Common.{ℕ, List, [], ◌∷◌, ◌++◌, Bool, true, false, ◌≡◌, ◌<◌, ◌≤◌, ◌-◌, ◌+◌, ◌^◌, length, take, get_or, refl, sym, subst, inl, inr, arith}
use Rattle.std.specs.Prelude.{not, ◌==◌, ◌||◌}
use Rattle.std.proofs.lemmas.Bool.{cases_eq}
use Rattle.std.proofs.lemmas.Nat.Bits.{bit_at_above, bit_at_ones}
use Rattle.std.proofs.Math.Pow.{pow_pos}
use Rattle.irv_count.specs.Orders.{left_after, member, stands}
use Rattle.irv_count.specs.Rounds.{AreBitsOf}
use Rattle.irv_count.proofs.Members.{differ_test, member_append, same_test, take_more_at}

pub stands_below : (standing x : ℕ) → standing < 2 ^ 64 → 64 ≤ x → stands standing x ≡ false
stands_below standing x fits above = rw (bit_at_above standing 64 x fits above) refl

-- the bits of all
pub bits_of_all : (c : ℕ) (set : ℕ → Bool) → ((x : ℕ) → x < c → set x ≡ true) → AreBitsOf c set (2 ^ c - 1)
bits_of_all c set all = record {
  fits = let k = pow_pos c in omega arith;
  bits = λ x lt. rw (all x lt, bit_at_ones c x lt) refl;
}

here : (b : Bool) (y : ℕ) → false ≡ not (b || (y == y))
here true y = refl
here false y = rw (same_test y y refl) refl

elsewhere : (b : Bool) (x y : ℕ) → (x ≡ y → ⊥) → not b ≡ not (b || (x == y))
elsewhere true x y ne = refl
elsewhere false x y ne = rw (differ_test x y ne) refl

-- the bits of those that aren't on the list, where one more goes onto it
pub bits_without : (c : ℕ) (order : List ℕ) (standing now y : ℕ) → c ≤ 64 → AreBitsOf c (λ x. not (member x order)) standing
    → ((x : ℕ) → x < 64 → (x ≡ y → ⊥) → stands now x ≡ stands standing x) → stands now y ≡ false → now ≤ standing
    → AreBitsOf c (λ x. not (member x (order ++ y ∷ []))) now
bits_without c order standing now y few set others gone smaller = record {
  fits = let f = set.fits in omega arith;
  bits = λ x lt. rw (member_append x y order) (elim (cases_eq x y) [
    | inl e ↦ rw e (rw gone (here (member y order) y))
    | inr ne ↦ rw (others x (omega arith) ne) (rw (set.bits x lt) (elsewhere (member x order) x y ne))
  ]);
}

-- the bits of those who are left of an order
pub all_left : (c : ℕ) (order : List ℕ) → AreBitsOf c (left_after order 0) (2 ^ c - 1)
all_left c order = bits_of_all c (left_after order 0) (λ x lt. refl)

pub left_without : (c : ℕ) (order : List ℕ) (standing now i : ℕ) → c ≤ 64 → i < length order → AreBitsOf c (left_after order i) standing
    → ((x : ℕ) → x < 64 → (x ≡ get_or order i 0 → ⊥) → stands now x ≡ stands standing x) → stands now (get_or order i 0) ≡ false → now ≤ standing
    → AreBitsOf c (left_after order (i + 1)) now
left_without c order standing now i few lt set others gone smaller =
    subst (λ went. AreBitsOf c (λ x. not (member x went)) now) (sym (take_more_at order i lt)) (bits_without c (take i order) standing now (get_or order i 0) few set others gone smaller)
