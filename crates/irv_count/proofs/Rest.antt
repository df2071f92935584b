-- Those who are left of a whole order are those from that place on.
use Rattle.std.proofs.Common.{ℕ, zero, suc, List, [], ◌∷◌, true, false, ◌≡◌, ◌<◌, ◌≤◌, ◌∙◌, length, take, drop, get_or, sym, inl, inr, arith}
use Rattle.std.proofs.lemmas.Bool.{cases_lt}
use Rattle.irv_count.specs.Orders.{member, left_after, IsOrder}
use Rattle.irv_count.proofs.Members.{at_member, bool_cases, first_at, member_at, place_member}

-- a member of the rest is at a place from i on, and what is at such a place is a member of the rest
rest_at : (x : ℕ) (xs : List ℕ) (i : ℕ) → member x (drop i xs) ≡ true → (k : ℕ) × (i ≤ k) × (k < length xs) × (get_or xs k 0 ≡ x)
rest_at x xs zero e = let r = member_at x xs e in (r.0, omega arith, r.1, r.2)
rest_at x [] (suc i) e = cc
rest_at x (y ∷ xs) (suc i) e = let r = rest_at x xs i e in (suc r.0, (let k = r.1 in omega arith), (let k = r.2 in omega arith), r.3)

at_rest : (xs : List ℕ) (i k : ℕ) → i ≤ k → k < length xs → member (get_or xs k 0) (drop i xs) ≡ true
at_rest [] i k ik kl = absurd (omega arith)
at_rest (y ∷ xs) zero k ik kl = place_member (y ∷ xs) k kl
at_rest (y ∷ xs) (suc i) zero ik kl = absurd (omega arith)
at_rest (y ∷ xs) (suc i) (suc k) ik kl = at_rest xs i k (omega arith) (omega arith)

-- in a whole order those who are left after i places are those from that place on
pub left_is_rest : (c : ℕ) (order : List ℕ) (i x : ℕ) → IsOrder c order → x < c → left_after order i x ≡ member x (drop i order)
left_is_rest c order i x whole xc = elim (bool_cases (member x (take i order))) [
  | inl gone ↦ rw gone (elim (bool_cases (member x (drop i order))) [
    | inl rest ↦
        let a = first_at x order i gone in
        let b = rest_at x order i rest in
        let n : member (get_or order b.0 0) (take b.0 order) ≡ false = whole.distinct b.0 (let k = b.2 in let l = whole.long in omega arith) in
        let y : member (get_or order a.0 0) (take b.0 order) ≡ true = at_member order a.0 b.0 (let k = a.1 in let m = b.1 in omega arith) a.2 in
        let e : get_or order a.0 0 ≡ get_or order b.0 0 = a.3 ∙ sym b.3 in
        let y1 = rw e at y in absurd (let z : true ≡ false = sym y1 ∙ n in cc)
    | inr none ↦ sym none
  ])
  | inr stays ↦
      let r = member_at x order (whole.every x xc) in
      rw stays (elim (cases_lt r.0 i) [
        | inl before ↦ let y = at_member order r.0 i before r.1 in let y1 = rw r.2 at y in absurd (let z : true ≡ false = sym y1 ∙ stays in cc)
        | inr from ↦ let m = at_rest order i r.0 from r.1 in let m1 = rw r.2 at m in sym m1
      ])
]
