-- Where the one before the last of an order is level with the last in the last round, and no other count changed but that
-- of the last, which fell, and that of the one before, which rose, the order against the last doesn't end in it.
use Rattle.std.proofs.Common.{ℕ, zero, suc, List, Bool, true, false, Some, None, ◌≡◌, ◌≢◌, ◌<◌, ◌≤◌, ◌+◌, ◌∙◌, take, get_or, refl, sym, ap, subst, inl, inr, arith}
use Rattle.std.specs.Prelude.{not}
use Rattle.std.proofs.lemmas.Bool.{cases_eq, cases_lt}
use Rattle.ballot_form.specs.Ballots.{Poll}
use Rattle.irv_count.specs.Orders.{GoesFirst, IsOrder, IsOrderBy, held_count, left_after, member}
use Rattle.irv_count.proofs.Members.{at_member, bool_cases, first_at, member_at, take_more_at}

-- ---- places of an order

-- two places have two candidates
pub apart : (c : ℕ) (order : List ℕ) (i j : ℕ) → IsOrder c order → i < j → j < c → get_or order i 0 ≢ get_or order j 0
apart c order i j is less jc same =
    let long = is.long in
    let there : member (get_or order i 0) (take j order) ≡ true = at_member order i j less (omega (arith, long, less, jc)) in
    let none : member (get_or order i 0) (take j order) ≡ false = ap (λ x. member x (take j order)) same ∙ is.distinct j jc in
    let clash : true ≡ false = sym there ∙ none in
    cc

-- who goes at place j stands where only the first i have gone
pub still_stands : (c : ℕ) (order : List ℕ) (i j : ℕ) → IsOrder c order → i ≤ j → j < c → left_after order i (get_or order j 0) ≡ true
still_stands c order i j is le jc = elim (bool_cases (member (get_or order j 0) (take i order))) [
  | inl gone ↦
      let at = first_at (get_or order j 0) order i gone in
      absurd (apart c order at.0 j is (omega (arith, at.1, le)) jc at.3)
  | inr stays ↦ ap not stays
]

-- where all but two have gone, those two stand
pub one_of_two : (c : ℕ) (order : List ℕ) (i y : ℕ) → IsOrder c order → c ≡ i + 2 → y < c → left_after order i y ≡ true → y ≢ get_or order (i + 1) 0 → y ≡ get_or order i 0
one_of_two c order i y is all yc stands differ =
    let long = is.long in
    let at = member_at y order (is.every y yc) in
    elim (cases_lt at.0 i) [
      | inl gone ↦ absurd (
          let there : member (get_or order at.0 0) (take i order) ≡ true = at_member order at.0 i gone at.1 in
          let out : not (member y (take i order)) ≡ false = ap not (ap (λ z. member z (take i order)) (sym at.2) ∙ there) in
          let clash : true ≡ false = sym stands ∙ out in
          cc)
      | inr later ↦ elim (cases_eq at.0 (i + 1)) [
        | inl last ↦ absurd (differ (sym at.2 ∙ ap (λ k. get_or order k 0) last))
        | inr other ↦ let e : at.0 ≡ i = omega (arith, at.1, long, all, later, other) in sym at.2 ∙ ap (λ k. get_or order k 0) e
      ]
    ]

-- ---- what became of the counts

-- while x and r stand, x holds no more than before and r no less, and each other one as many
pub record AreShifted (x r : ℕ) (before now : List (List ℕ)) : Type 0 where
  pub kept : (set : ℕ → Bool) (y : ℕ) → set x ≡ true → set r ≡ true → y ≢ x → y ≢ r → held_count set now y ≡ held_count set before y
  pub fallen : (set : ℕ → Bool) → set x ≡ true → set r ≡ true → held_count set now x ≤ held_count set before x
  pub risen : (set : ℕ → Bool) → set x ≡ true → set r ≡ true → held_count set before r ≤ held_count set now r

no_less : (x r y : ℕ) (before now : List (List ℕ)) (set : ℕ → Bool) → AreShifted x r before now → set x ≡ true → set r ≡ true → y ≢ x
    → held_count set before y ≤ held_count set now y
no_less x r y before now set is sx sr differ = elim (cases_eq y r) [
  | inl same ↦ subst (λ z. held_count set before z ≤ held_count set now z) (sym same) (is.risen set sx sr)
  | inr other ↦ let e = is.kept set y sx sr differ other in omega (arith, e)
]

first_of_both : (x z w : ℕ) → GoesFirst None z w → GoesFirst (Some x) w z → w ≢ x → w ≡ z
first_of_both x z w one (inl is) differ = absurd (differ is)
first_of_both x z w one (inr is) differ = omega (arith, one, is.1)

-- an order of p, and one against the last of it after the counts have shifted
pub record IsTurned (p now : Poll) (order against : List ℕ) (i : ℕ) : Type 0 where
  pub same : now.c ≡ p.c
  pub two : p.c ≡ i + 2
  pub reported : IsOrderBy None p order
  pub other : IsOrderBy (Some (get_or order (i + 1) 0)) now against
  pub shifted : AreShifted (get_or order (i + 1) 0) (get_or order i 0) p.ballots now.ballots

same_place : (p now : Poll) (order against : List ℕ) (i j : ℕ) → IsTurned p now order against i → j < i → get_or against (i + 1) 0 ≡ get_or order (i + 1) 0
    → take j against ≡ take j order → get_or against j 0 ≡ get_or order j 0
same_place p now order against i j is less last begun =
    let x = get_or order (i + 1) 0 in
    let r = get_or order i 0 in
    let z = get_or order j 0 in
    let w = get_or against j 0 in
    let whole = is.reported.legal.whole in
    let also : IsOrder p.c against = subst (λ c. IsOrder c against) is.same is.other.legal.whole in
    let jc : j < p.c = omega (arith, less, is.two) in
    let jn : j < now.c = omega (arith, jc, is.same) in
    let ic : i + 1 < p.c = omega (arith, is.two) in
    let rc : i < p.c = omega (arith, is.two) in
    let jl : j ≤ i = omega (arith, less) in
    let jm : j ≤ i + 1 = omega (arith, less) in
    let k : j < i + 1 = omega (arith, less) in
    let sx : left_after order j x ≡ true = still_stands p.c order j (i + 1) whole jm ic in
    let sr : left_after order j r ≡ true = still_stands p.c order j i whole jl rc in
    let sz : left_after order j z ≡ true = still_stands p.c order j j whole (omega arith) jc in
    let zx : z ≢ x = apart p.c order j (i + 1) whole k ic in
    let zr : z ≢ r = apart p.c order j i whole less rc in
    let wx : w ≢ x = λ e. apart p.c against j (i + 1) also k ic (e ∙ sym last) in
    let sw : left_after order j w ≡ true = subst (λ gone. not (member w gone) ≡ true) begun (still_stands p.c against j j also (omega arith) jc) in
    let szn : left_after against j z ≡ true = subst (λ gone. not (member z gone) ≡ true) (sym begun) sz in
    let wc : w < p.c = also.below j jc in
    let zc : z < p.c = whole.below j jc in
    let zn : z < now.c = omega (arith, zc, is.same) in
    let one = is.reported.legal.least j w jc wc sw in
    let two : held_count (left_after order j) now.ballots w ≤ held_count (left_after order j) now.ballots z =
    subst (λ (gone : List ℕ). held_count (λ y. not (member y gone)) now.ballots w ≤ held_count (λ y. not (member y gone)) now.ballots z) begun (is.other.legal.least j z jn zn szn) in
    let kept = is.shifted.kept (left_after order j) z sx sr zx zr in
    let up = no_less x r w p.ballots now.ballots (left_after order j) is.shifted sx sr wx in
    let first = is.reported.choice j w jc wc sw (omega (arith, one, two, kept, up)) in
    let equal : held_count (left_after order j) now.ballots z ≡ held_count (left_after order j) now.ballots w = omega (arith, one, two, kept, up) in
    let equal_there = subst (λ (gone : List ℕ). held_count (λ y. not (member y gone)) now.ballots z ≡ held_count (λ y. not (member y gone)) now.ballots w) (sym begun) equal in
    first_of_both x z w first (is.other.choice j z jn zn szn equal_there) wx

same_begun : (p now : Poll) (order against : List ℕ) (i j : ℕ) → IsTurned p now order against i → j ≤ i → get_or against (i + 1) 0 ≡ get_or order (i + 1) 0
    → take j against ≡ take j order
same_begun p now order against i zero is le last = refl
same_begun p now order against i (suc j) is le last =
    let before = same_begun p now order against i j is (omega (arith, le)) last in
    let here = same_place p now order against i j is (omega (arith, le)) last before in
    let long = is.reported.legal.whole.long in
    let also = is.other.legal.whole.long in
    let next : suc j ≡ j + 1 = omega arith in
    rw next (take_more_at against j (omega (arith, also, is.same, is.two, le)) ∙ rw (before, here) refl ∙ sym (take_more_at order j (omega (arith, long, is.two, le))))

-- where r is level in the last round, the order against x doesn't end in x
pub not_last : (p now : Poll) (order against : List ℕ) (i : ℕ) → IsTurned p now order against i
    → held_count (left_after order i) now.ballots (get_or order (i + 1) 0) ≤ held_count (left_after order i) now.ballots (get_or order i 0)
    → get_or against (i + 1) 0 ≢ get_or order (i + 1) 0
not_last p now order against i is level last =
    let x = get_or order (i + 1) 0 in
    let r = get_or order i 0 in
    let w = get_or against i 0 in
    let whole = is.reported.legal.whole in
    let also : IsOrder p.c against = subst (λ c. IsOrder c against) is.same is.other.legal.whole in
    let ic : i + 1 < p.c = omega (arith, is.two) in
    let rc : i < p.c = omega (arith, is.two) in
    let rn : i < now.c = omega (arith, rc, is.same) in
    let begun = same_begun p now order against i i is (omega arith) last in
    let wx : w ≢ x = λ e. apart p.c against i (i + 1) also (omega arith) ic (e ∙ sym last) in
    let sw : left_after order i w ≡ true = subst (λ gone. not (member w gone) ≡ true) begun (still_stands p.c against i i also (omega arith) rc) in
    let wr : w ≡ r = one_of_two p.c order i w whole is.two (also.below i rc) sw wx in
    let sx : left_after order i x ≡ true = still_stands p.c order i (i + 1) whole (omega arith) ic in
    let sxn : left_after against i x ≡ true = subst (λ gone. not (member x gone) ≡ true) (sym begun) sx in
    let xc : x < p.c = whole.below (i + 1) ic in
    let xn : x < now.c = omega (arith, xc, is.same) in
    let least : held_count (left_after order i) now.ballots w ≤ held_count (left_after order i) now.ballots x =
    subst (λ (gone : List ℕ). held_count (λ y. not (member y gone)) now.ballots w ≤ held_count (λ y. not (member y gone)) now.ballots x) begun (is.other.legal.least i x rn xn sxn) in
    let level_w : held_count (left_after order i) now.ballots x ≤ held_count (left_after order i) now.ballots w =
    subst (λ z. held_count (left_after order i) now.ballots x ≤ held_count (left_after order i) now.ballots z) (sym wr) level in
    let equal : held_count (left_after order i) now.ballots x ≡ held_count (left_after order i) now.ballots w = omega (arith, least, level_w) in
    let equal_there = subst (λ (gone : List ℕ). held_count (λ y. not (member y gone)) now.ballots x ≡ held_count (λ y. not (member y gone)) now.ballots w) (sym begun) equal in
    elim (is.other.choice i x rn xn sxn equal_there) [
      | inl e ↦ wx e
      | inr later ↦ later.0 refl
    ]
