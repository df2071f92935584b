-- The order of quotients, and one seat more.
use Rattle.std.proofs.Common.{ℕ, List, ◌≡◌, ◌≢◌, ◌<◌, ◌≤◌, ◌⊎◌, ◌+◌, ◌*◌, length, refl, sym, inl, inr, arith, get_or, set, length-set, get_or-set_same, get_or-set_other}
use Rattle.std.proofs.Math.Nat.{mul-le-mul_left}
use Rattle.std.proofs.lemmas.Bool.{cases_lt, cases_eq}
use Rattle.dhondt_seats.specs.Serving.{ComesBefore, IsNext, IsServed}

pub cancel_lt : (r x y : ℕ) → r * x < r * y → x < y
cancel_lt r x y h = elim (cases_lt x y) [
  | inl lt ↦ lt
  | inr le ↦ let m = mul-le-mul_left r le in absurd (omega (arith, m))
]

pub cancel_le : (r x y : ℕ) → 1 ≤ r → r * x ≤ r * y → x ≤ y
cancel_le r x y some h = elim (cases_lt y x) [
  | inl lt ↦ let m = mul-le-mul_left r lt in absurd (omega (arith, m))
  | inr le ↦ le
]

-- a later quotient of another party comes no earlier
pub still : (vb b r va a q t : ℕ) → q ≤ t → ComesBefore vb b r va a q → b ≢ a → ComesBefore vb b r va a t
still vb b r va a q t le (inl lt) other = inl (let m = mul-le-mul_left vb le in omega (arith, m))
still vb b r va a q t le (inr e) other = elim e.1 [
  | inl lower ↦
      let m = mul-le-mul_left vb le in
      elim (cases_lt (va * r) (vb * t)) [
        | inl lt ↦ inl lt
        | inr ge ↦ inr (omega (arith, m), inl lower)
      ]
  | inr same ↦ absurd (other same.0)
]

-- of one party the quotients come in their order
pub own : (v a r q : ℕ) → r < q → ComesBefore v a r v a q
own v a r q lt =
    let le : r ≤ q = omega arith in
    let m = mul-le-mul_left v le in
    elim (cases_lt (v * r) (v * q)) [
      | inl less ↦ inl less
      | inr ge ↦ inr (omega (arith, m), inr (refl, lt))
    ]

pub own_order : (v a r q : ℕ) → ComesBefore v a r v a q → r < q
own_order v a r q (inl lt) = cancel_lt v r q lt
own_order v a r q (inr e) = elim e.1 [ inl lt ↦ absurd (omega arith) | inr k ↦ k.1 ]

pub never_both : (x y b a r q : ℕ) → (x < y) ⊎ ((x ≡ y) × ((b < a) ⊎ ((b ≡ a) × (r < q)))) → (y < x) ⊎ ((y ≡ x) × ((a < b) ⊎ ((a ≡ b) × (q < r)))) → ⊥
never_both x y b a r q g h = grind arith

pub no_higher : (vb b r va a q : ℕ) → ComesBefore vb b r va a q → va * r ≤ vb * q
no_higher vb b r va a q (inl lt) = omega arith
no_higher vb b r va a q (inr e) = let k = e.0 in omega arith

-- what is higher than the best so far comes before all that the best comes before
pub better : (vb x vn s vj t : ℕ) → 1 ≤ x → 1 ≤ t → vb * s < vn * x → vj * x ≤ vb * t → vj * s < vn * t
better vb x vn s vj t some many lt le =
    let p = mul-le-mul_left s le in
    let q = mul-le-mul_left t lt in
    cancel_lt x (vj * s) (vn * t) (omega (arith, p, q))

-- of the parties below i, best is the one whose next quotient comes first
abbrev pub IsFirst : List ℕ → List ℕ → ℕ → ℕ → Type 0
IsFirst votes shares best i = (a : ℕ) → a < i → a ≢ best
    → ComesBefore (get_or votes best 0) best (get_or shares best 0 + 1) (get_or votes a 0) a (get_or shares a 0 + 1)

pub taken : (votes shares : List ℕ) (best i : ℕ) → IsFirst votes shares best i
    → get_or votes best 0 * (get_or shares i 0 + 1) < get_or votes i 0 * (get_or shares best 0 + 1) → IsFirst votes shares i (i + 1)
taken votes shares best i first lt a below other = elim (cases_eq a best) [
  | inl e ↦ inl (rw e lt)
  | inr ne ↦ inl (better (get_or votes best 0) (get_or shares best 0 + 1) (get_or votes i 0) (get_or shares i 0 + 1) (get_or votes a 0) (get_or shares a 0 + 1) (omega arith) (omega arith) lt
      (no_higher _ _ _ _ _ _ (first a (omega arith) ne)))
]

pub kept : (votes shares : List ℕ) (best i : ℕ) → IsFirst votes shares best i → best < i
    → (get_or votes best 0 * (get_or shares i 0 + 1) < get_or votes i 0 * (get_or shares best 0 + 1) → ⊥) → IsFirst votes shares best (i + 1)
kept votes shares best i first below no_more a under other = elim (cases_eq a i) [
  | inl e ↦ rw e (elim (cases_lt (get_or votes i 0 * (get_or shares best 0 + 1)) (get_or votes best 0 * (get_or shares i 0 + 1))) [
    | inl lt ↦ inl lt
    | inr ge ↦ elim (cases_lt (get_or votes best 0 * (get_or shares i 0 + 1)) (get_or votes i 0 * (get_or shares best 0 + 1))) [
      | inl more ↦ absurd (no_more more)
      | inr le ↦ inr (omega arith, inl below)
    ]
  ])
  | inr ne ↦ first a (omega arith) other
]

grows : (xs : List ℕ) (p a : ℕ) → p < length xs → get_or xs a 0 ≤ get_or (set xs p (get_or xs p 0 + 1)) a 0
grows xs p a within = elim (cases_eq a p) [
  | inl e ↦ rw e (rw get_or-set_same (omega arith))
  | inr ne ↦ rw get_or-set_other (omega arith)
]

-- one seat more, for the party whose next quotient comes first
pub served_more : (votes shares : List ℕ) (p : ℕ) → IsNext votes shares p → IsServed votes shares → IsServed votes (set shares p (get_or shares p 0 + 1))
served_more votes shares p next served =
    let within : p < length shares = rw served.parties next.party in
    record {
      parties = rw length-set served.parties;
      first = λ b r a q bl al some rb qa.
          let unserved : get_or shares a 0 < q = let up = grows shares p a within in omega arith in
          elim (cases_eq b p) [
            | inl e ↦ elim (cases_lt (get_or shares p 0) r) [
              | inr le ↦ served.first b r a q bl al some (rw e le) unserved
              | inl lt ↦
                  let top : r ≡ get_or shares p 0 + 1 = let r1 = rw (e, get_or-set_same) at rb in omega arith in
                  rw (e, top) (elim (cases_eq a p) [
                    | inl same ↦ rw same (own _ _ _ _ (let q1 = rw (same, get_or-set_same) at qa in omega arith))
                    | inr ne ↦ still _ _ _ _ _ _ _ (omega arith) (next.first a al ne) (λ x. ne (sym x))
                  ])
            ]
            | inr ne ↦ served.first b r a q bl al some (rw get_or-set_other at rb) unserved
          ];
    }
