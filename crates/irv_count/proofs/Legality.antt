-- Whether an order is legal, place by place.
use Rattle.std.proofs.Common.{ℕ, List, true, false, ◌≡◌, ◌<◌, ◌≤◌, ◌+◌, ◌-◌, ◌^◌, ◌∙◌, length, get_or, sym, subst, inl, inr, arith}
use Rattle.std.specs.Prelude.{◌↔◌}
use Rattle.std.proofs.lemmas.Bool.{cases_eq}
use Rattle.ballot_form.specs.declared.limits.TheConstants.{MOST_CANDIDATES}
use Rattle.ballot_form.specs.Ballots.{IsPoll, Poll}
use Rattle.irv_count.specs.Orders.{held_count, left_after, stands, IsOrder, IsLegalOrder}
use Rattle.irv_count.specs.Rounds.{AreBitsOf, IsLeast, IsLegalTo}
use Rattle.irv_count.proofs.Bits.{all_left, left_without}
use Rattle.irv_count.proofs.Holders.{held_by_bits}

pub legal_begun : (p : Poll) (order : List ℕ) → IsLegalTo p order (2 ^ p.c - 1) 0
legal_begun p order = record { set = all_left p.c order; least = λ k y lt. absurd (omega arith) }

-- what is asked of the counts of the set of bits is asked of those who are left
least_left : (p : Poll) (order : List ℕ) (standing i : ℕ) → IsPoll p → AreBitsOf p.c (left_after order i) standing
    → (IsLeast (held_count (stands standing) p.ballots) standing p.c (get_or order i 0)
    ↔ ((y : ℕ) → y < p.c → left_after order i y ≡ true → held_count (left_after order i) p.ballots (get_or order i 0) ≤ held_count (left_after order i) p.ballots y))
least_left p order standing i is set =
    let same : (x : ℕ) → held_count (stands standing) p.ballots x ≡ held_count (left_after order i) p.ballots x = (λ x. held_by_bits (left_after order i) p.c standing p.ballots x is.valid set) in (
      λ least y yc stays. let k = least y yc (set.bits y yc ∙ stays) in rw (same (get_or order i 0), same y) at k,
      λ least y yc on. let k = least y yc (sym (set.bits y yc) ∙ on) in rw (← same (get_or order i 0), ← same y) at k,
    )

pub legal_stepped : (p : Poll) (order : List ℕ) (standing after i : ℕ) → IsPoll p → IsOrder p.c order → i < p.c → IsLegalTo p order standing i
    → IsLeast (held_count (stands standing) p.ballots) standing p.c (get_or order i 0)
    → ((y : ℕ) → y < 64 → (y ≡ get_or order i 0 → ⊥) → stands after y ≡ stands standing y) → stands after (get_or order i 0) ≡ false → after ≤ standing
    → IsLegalTo p order after (i + 1)
legal_stepped p order standing after i is whole ic to least others gone smaller =
    let few : p.c ≤ MOST_CANDIDATES = is.most in
    record {
      set = left_without p.c order standing after i (omega arith) (let l = whole.long in omega arith) to.set others gone smaller;
      least = λ k y kl yc stays. elim (cases_eq k i) [
        | inl e ↦
            let s = rw e at stays in
            subst (λ j. held_count (left_after order j) p.ballots (get_or order j 0) ≤ held_count (left_after order j) p.ballots y) (sym e) ((least_left p order standing i is to.set).0 least y yc s)
        | inr ne ↦ to.least k y (omega arith) yc stays
      ];
    }

pub legal_ended : (p : Poll) (order : List ℕ) (standing i : ℕ) → IsOrder p.c order → length order ≤ i → IsLegalTo p order standing i → IsLegalOrder p order
legal_ended p order standing i whole all to = record {
  whole = whole;
  least = λ k y kc yc stays. to.least k y (let l = whole.long in omega arith) yc stays;
}

pub not_legal : (p : Poll) (order : List ℕ) (standing i : ℕ) → IsPoll p → i < p.c → IsLegalTo p order standing i
    → (IsLeast (held_count (stands standing) p.ballots) standing p.c (get_or order i 0) → ⊥) → IsLegalOrder p order → ⊥
not_legal p order standing i is ic to none legal = none ((least_left p order standing i is to.set).1 (λ y yc stays. legal.least i y ic yc stays))

-- counts that are equal below n have the same least ones
pub least_alike : (f h : ℕ → ℕ) (standing n x : ℕ) → x < n → ((y : ℕ) → y < n → f y ≡ h y) → (IsLeast f standing n x ↔ IsLeast h standing n x)
least_alike f h standing n x lt same = (
  λ least y yn on. let k = least y yn on in rw (same x lt, same y yn) at k,
  λ least y yn on. let k = least y yn on in rw (← same x lt, ← same y yn) at k,
)
