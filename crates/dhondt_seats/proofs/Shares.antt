-- The seats that were served are those that counting quotients gives, and an allocation.
use Rattle.std.proofs.Common.{ℕ, List, ◌≡◌, ◌<◌, ◌≤◌, ◌⊎◌, ◌+◌, ◌*◌, true, length, inl, inr, arith, get_or}
use Rattle.std.specs.Prelude.{count_by, nat_lt, ◌==◌, ◌&&◌, ◌||◌}
use Rattle.std.specs.List.{range_with_len}
use Rattle.std.proofs.Math.Nat.{mul-le-mul_left}
use Rattle.std.proofs.lemmas.Bool.{cases_eq, cases_lt}
use Rattle.std.proofs.lemmas.Bool.Decides.{nat_tests}
use Rattle.std.proofs.lemmas.List.FromFn.{fill_by_all}
use Rattle.mov_base.specs.Sums.{add_up}
use Rattle.dhondt_seats.specs.Seats.{before, precedes, reported_seats, seats_in_all, seats_of, IsAllocation, IsFair}
use Rattle.dhondt_seats.specs.Serving.{IsNext, IsServed}
use Rattle.dhondt_seats.proofs.Counting.{count_ge, count_le, place_le_sum, sum_by_place, sum_le, sum_less, sum_of_none}
use Rattle.dhondt_seats.proofs.Order.{cancel_le, never_both, no_higher, own_order}

from_test : (x y b a r q : ℕ) → (nat_lt x y || ((x == y) && (nat_lt b a || ((b == a) && nat_lt r q)))) ≡ true → (x < y) ⊎ ((x ≡ y) × ((b < a) ⊎ ((b ≡ a) × (r < q))))
from_test x y b a r q h = grind (arith, nat_tests)

to_test : (x y b a r q : ℕ) → (x < y) ⊎ ((x ≡ y) × ((b < a) ⊎ ((b ≡ a) × (r < q)))) → (nat_lt x y || ((x == y) && (nat_lt b a || ((b == a) && nat_lt r q)))) ≡ true
to_test x y b a r q h = grind (arith, nat_tests)

lt_test : (x y : ℕ) → x < y → nat_lt x y ≡ true
lt_test x y h = grind (arith, nat_tests)

test_lt : (x y : ℕ) → nat_lt x y ≡ true → x < y
test_lt x y h = grind (arith, nat_tests)

module _ (votes shares : List ℕ) (s : ℕ) (served : IsServed votes shares) (all : seats_in_all shares ≡ s) where
  in_all : add_up (λ b. get_or shares b 0) (range_with_len 0 (length votes)) ≡ s
  in_all = let e = sum_by_place shares (length votes) served.parties in cc

  share_le : (b : ℕ) → get_or shares b 0 ≤ s
  share_le b = omega (arith, place_le_sum shares b)

  -- how many of party b's quotients come before party a's at place q
  abbrev ahead : ℕ → ℕ → ℕ → ℕ
  ahead a q b = count_by (λ r. precedes votes b r a q) (range_with_len 1 s)

  -- fewer than all come before a quotient that was served
  few : (a q : ℕ) → a < length votes → 1 ≤ q → q ≤ get_or shares a 0 → before votes s a q < s
  few a q al some le =
      let h : before votes s a q < add_up (λ b. get_or shares b 0) (range_with_len 0 (length votes)) =
      sum_less (λ b. ahead a q b) (λ b. get_or shares b 0) 0 (length votes) a (omega arith) (omega arith)
      (let k = count_le (λ r. precedes votes a r a q) q 1 s (λ r from e. own_order (get_or votes a 0) a r q (from_test _ _ _ _ _ _ e)) in omega arith)
      (λ b _ bl.
      let k = count_le (λ r. precedes votes b r a q) (get_or shares b 0 + 1) 1 s (λ r from e. elim (cases_lt r (get_or shares b 0 + 1)) [
        | inl lt ↦ lt
        | inr ge ↦ absurd (never_both _ _ _ _ _ _ (from_test _ _ _ _ _ _ e) (served.first a q b r al (omega arith) some le (omega arith)))
      ]) in omega arith) in
      omega (arith, h, in_all)

  -- all that were served come before a quotient that wasn't
  many : (a q : ℕ) → a < length votes → get_or shares a 0 < q → s ≤ before votes s a q
  many a q al lt =
      let h : add_up (λ b. get_or shares b 0) (range_with_len 0 (length votes)) ≤ before votes s a q =
      sum_le (λ b. get_or shares b 0) (λ b. ahead a q b) 0 (length votes)
      (λ b _ bl.
      let k = count_ge (λ r. precedes votes b r a q) (get_or shares b 0 + 1) 1 s (omega (arith, share_le b))
      (λ r from rl. to_test _ _ _ _ _ _ (served.first b r a q (omega arith) al from (omega arith) lt)) in omega arith) in
      omega (arith, h, in_all)

  is_share : (a : ℕ) → a < length votes → get_or shares a 0 ≡ seats_of votes s a
  is_share a al =
      let up : get_or shares a 0 ≤ seats_of votes s a =
      (let k = count_ge (λ q. nat_lt (before votes s a q) s) (get_or shares a 0 + 1) 1 s (omega (arith, share_le a))
      (λ q from ql. lt_test _ _ (few a q al from (omega arith))) in omega arith) in
      let down : seats_of votes s a ≤ get_or shares a 0 =
      (let k = count_le (λ q. nat_lt (before votes s a q) s) (get_or shares a 0 + 1) 1 s
      (λ q from e. elim (cases_lt q (get_or shares a 0 + 1)) [
        | inl lt ↦ lt
        | inr ge ↦ absurd (let m = many a q al (omega arith) in let l = test_lt _ _ e in omega arith)
      ]) in omega arith) in
      omega arith

  pub reported : shares ≡ reported_seats votes s
  reported = fill_by_all (λ a. seats_of votes s a) shares (length votes) 0 served.parties is_share

  pub admitted : IsAllocation votes s shares
  admitted = record {
    parties = served.parties;
    all = all;
    fair = λ a b al bl some. no_higher _ _ _ _ _ _ (served.first a (get_or shares a 0) b (get_or shares b 0 + 1) al bl some (omega arith) (omega arith));
  }

-- before any seat
pub fresh : (votes shares : List ℕ) → length shares ≡ length votes → ((a : ℕ) → a < length shares → get_or shares a 0 ≡ 0) → IsServed votes shares × (seats_in_all shares ≡ 0)
fresh votes shares parties none = (
  record {
    parties = parties;
    first = λ b r a q bl al some le lt. absurd (omega (arith, none b (omega arith)));
  },
  sum_of_none shares none,
)

-- what is at most a level between two is at most the other one
pub between : (vb sb va sa vn sn : ℕ) → 1 ≤ sn → vb * sn ≤ vn * sb → vn * sa ≤ va * sn → vb * sa ≤ va * sb
between vb sb va sa vn sn some low high =
    let x = mul-le-mul_left sa low in
    let y = mul-le-mul_left sb high in
    cancel_le sn (vb * sa) (va * sb) some (omega (arith, x, y))

-- where no last quotient is below the first of all next ones, none is below any
pub fair_by_next : (votes shares : List ℕ) (p : ℕ) → IsNext votes shares p
    → ((a : ℕ) → a < length votes → 1 ≤ get_or shares a 0 → get_or votes p 0 * get_or shares a 0 ≤ get_or votes a 0 * (get_or shares p 0 + 1)) → IsFair votes shares
fair_by_next votes shares p next each a b al bl some =
    between (get_or votes b 0) (get_or shares b 0 + 1) (get_or votes a 0) (get_or shares a 0) (get_or votes p 0) (get_or shares p 0 + 1) (omega arith) below (each a al some)
  where
    below : get_or votes b 0 * (get_or shares p 0 + 1) ≤ get_or votes p 0 * (get_or shares b 0 + 1)
    below = elim (cases_eq b p) [
      | inl e ↦ rw e (omega arith)
      | inr ne ↦ no_higher _ _ _ _ _ _ (next.first b bl ne)
    ]
