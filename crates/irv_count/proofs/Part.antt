-- An order by a choice at the ties, place by place.
use Rattle.std.proofs.Common.{ℕ, zero, suc, List, [], ◌∷◌, ◌++◌, Option, Some, None, Bool, true, false, ◌≡◌, ◌<◌, ◌≤◌, ◌⊎◌, ◌+◌, ◌-◌, ◌^◌, ◌∙◌, length, take, get_or, refl, sym, inl, inr, arith, subst, length-append}
use Rattle.std.specs.Prelude.{not}
use Rattle.std.proofs.Math.Seq.{get_or-append_seam, take-append_seam}
use Rattle.std.proofs.lemmas.Bool.{cases_lt, cases_eq}
use Rattle.std.proofs.lemmas.List.{take-append-le, get_or_append_left}
use Rattle.ballot_form.specs.declared.limits.TheConstants.{MOST_CANDIDATES}
use Rattle.ballot_form.specs.Ballots.{IsPoll, Poll}
use Rattle.irv_count.specs.Orders.{member, held_count, stands, GoesFirst, IsOrderBy}
use Rattle.irv_count.specs.Rounds.{count_to, Goes, IsOut, IsPart}
use Rattle.irv_count.proofs.Bits.{bits_of_all, bits_without}
use Rattle.irv_count.proofs.Holders.{held_by_bits}
use Rattle.irv_count.proofs.Members.{bool_cases, not_false, not_true}

-- one of those who passed passes no more
count_drop : (n y : ℕ) (s t : ℕ → Bool) → s y ≡ true → t y ≡ false → ((x : ℕ) → x < n → (x ≡ y → ⊥) → t x ≡ s x)
    → (y < n → count_to n s ≡ count_to n t + 1) × (n ≤ y → count_to n s ≡ count_to n t)
count_drop zero y s t at gone same = (λ h. absurd (omega arith), λ h. refl)
count_drop (suc n) y s t at gone same =
    let ih = count_drop n y s t at gone (λ x lt ne. same x (omega arith) ne) in (
      λ h. elim (cases_eq n y) [
        | inl e ↦ let k = ih.1 (omega arith) in rw (e, at, gone) (let k1 = rw e at k in omega arith)
        | inr ne ↦ let k = ih.0 (omega arith) in rw (same n (omega arith) ne) (omega arith)
      ],
      λ h. let k = ih.1 (omega arith) in rw (same n (omega arith) (λ e. omega arith)) (omega arith),
    )

count_all : (n : ℕ) (s : ℕ → Bool) → ((x : ℕ) → x < n → s x ≡ true) → count_to n s ≡ n
count_all zero s h = refl
count_all (suc n) s h = let k = count_all n s (λ x lt. h x (omega arith)) in rw (h n (omega arith)) (omega arith)

count_none : (n : ℕ) (s : ℕ → Bool) → ((x : ℕ) → x < n → s x ≡ false) → count_to n s ≡ 0
count_none zero s h = refl
count_none (suc n) s h = let k = count_none n s (λ x lt. h x (omega arith)) in rw (h n (omega arith)) (omega arith)

none_passes : (n : ℕ) (s : ℕ → Bool) (x : ℕ) → count_to n s ≡ 0 → x < n → s x ≡ false
none_passes zero s x none lt = absurd (omega arith)
none_passes (suc n) s x none lt = elim (bool_cases (s n)) [
  | inl on ↦ absurd (let k = rw on at none in omega arith)
  | inr off ↦ elim (cases_eq x n) [
    | inl e ↦ rw e off
    | inr ne ↦ none_passes n s x (let k = rw off at none in omega arith) (omega arith)
  ]
]

-- somebody stands
pub not_none : (n : ℕ) (s : ℕ → Bool) → 0 < count_to n s → ((x : ℕ) → x < n → s x ≡ false) → ⊥
not_none n s some none = let k = count_none n s none in omega arith

-- counts that are equal below n serve alike
pub same_out : (against : Option ℕ) (f h : ℕ → ℕ) (standing n x : ℕ) → ((y : ℕ) → y < n → f y ≡ h y) → IsOut against f standing n x → IsOut against h standing n x
same_out against f h standing n x same out = record {
  below = out.below;
  among = out.among;
  first = λ y lt s. elim (out.first y lt s) [ inl e ↦ inl e | inr goes ↦ inr (rw (same x out.below, same y lt) at goes) ];
}

-- nobody has gone
pub begun : (against : Option ℕ) (p : Poll) → IsPart against p [] (2 ^ p.c - 1)
begun against p =
    let set = bits_of_all p.c (λ x. not (member x [])) (λ x lt. refl) in
    record {
      set = set;
      below = λ i lt. absurd (omega arith);
      distinct = λ i lt. absurd (omega arith);
      some = let k = count_all p.c (stands (2 ^ p.c - 1)) (λ x lt. set.bits x lt) in omega arith;
      first = λ i y lt. absurd (omega arith);
    }

abbrev FirstBy : Option ℕ → List (List ℕ) → List ℕ → ℕ → ℕ → Type 0
FirstBy against rows gone x y = (y ≡ x) ⊎ Goes against (held_count (λ z. not (member z gone)) rows x) x (held_count (λ z. not (member z gone)) rows y) y

-- the one to go is not yet on the order
pub fresh : (against : Option ℕ) (p : Poll) (order : List ℕ) (standing x : ℕ) (count : ℕ → ℕ) → IsPart against p order standing → IsOut against count standing p.c x
    → member x order ≡ false
fresh against p order standing x count part out = not_true (member x order) (sym (part.set.bits x out.below) ∙ out.among)

-- one more goes
pub stepped : (against : Option ℕ) (p : Poll) (order : List ℕ) (standing after x : ℕ) → IsPoll p
    → IsPart against p order standing → IsOut against (held_count (stands standing) p.ballots) standing p.c x
    → ((y : ℕ) → y < 64 → (y ≡ x → ⊥) → stands after y ≡ stands standing y) → stands after x ≡ false → after ≤ standing → IsPart against p (order ++ x ∷ []) after
stepped against p order standing after x is part out others gone smaller =
    let few : p.c ≤ MOST_CANDIDATES = is.most in
    let long : length (order ++ x ∷ []) ≡ length order + 1 = simp length-append refl in
    let new : member x order ≡ false = fresh against p order standing x (held_count (stands standing) p.ballots) part out in
    let old : (i : ℕ) → i < length order → get_or (order ++ x ∷ []) i 0 ≡ get_or order i 0 = λ i lt. get_or_append_left order (x ∷ []) 0 i lt in
    let last : get_or (order ++ x ∷ []) (length order) 0 ≡ x = get_or-append_seam order x [] 0 in
    let before : (i : ℕ) → i < length order → take i (order ++ x ∷ []) ≡ take i order = λ i lt. take-append-le i order (x ∷ []) (omega arith) in
    let all : take (length order) (order ++ x ∷ []) ≡ order = take-append_seam order (x ∷ []) in
    record {
      set = bits_without p.c order standing after x (omega arith) part.set others gone smaller;
      below = λ i lt. elim (cases_lt i (length order)) [
        | inl l ↦ rw (old i l) (part.below i l)
        | inr g ↦ let e : i ≡ length order = let k = rw long at lt in omega arith in rw (e, last) out.below
      ];
      distinct = λ i lt. elim (cases_lt i (length order)) [
        | inl l ↦ rw (old i l, before i l) (part.distinct i l)
        | inr g ↦ let e : i ≡ length order = let k = rw long at lt in omega arith in rw (e, last, all) new
      ];
      some =
          let k = (count_drop p.c x (stands standing) (stands after) out.among gone (λ y lt ne. others y (omega arith) ne)).0 out.below in
          let s = part.some in rw long (omega arith);
      first = λ i y lt yc stays. elim (cases_lt i (length order)) [
        | inl l ↦
            let s1 : not (member y (take i (order ++ x ∷ []))) ≡ true = stays in
            rw (old i l) (subst (λ gone. FirstBy against p.ballots gone (get_or order i 0) y) (sym (before i l)) (part.first i y l yc (rw (before i l) at s1)))
        | inr g ↦
            let e : i ≡ length order = let k = rw long at lt in omega arith in
            let s1 : not (member y order) ≡ true = rw (e, all) at stays in
            let same : (z : ℕ) → held_count (stands standing) p.ballots z ≡ held_count (λ u. not (member u order)) p.ballots z =
            (λ z. held_by_bits (λ u. not (member u order)) p.c standing p.ballots z is.valid part.set) in
            rw (e, last) (subst (λ gone. FirstBy against p.ballots gone x y) (sym all) (elim (out.first y yc (part.set.bits y yc ∙ s1)) [
              | inl is_x ↦ inl is_x
              | inr goes ↦ inr (rw (same x, same y) at goes)
            ]))
      ];
    }

itself : (against : Option ℕ) (x : ℕ) → GoesFirst against x x
itself None x = omega arith
itself (Some b) x = elim (cases_eq x b) [ inl e ↦ inl e | inr ne ↦ inr (ne, omega arith) ]

-- all have gone
pub ended : (against : Option ℕ) (p : Poll) (order : List ℕ) (standing : ℕ) → IsPart against p order standing → length order ≡ p.c → IsOrderBy against p order
ended against p order standing part long =
    let none : count_to p.c (stands standing) ≡ 0 = let k = part.some in omega arith in
    record {
      legal = record {
        whole = record {
          long = long;
          below = λ i lt. part.below i (rw long lt);
          distinct = λ i lt. part.distinct i (rw long lt);
          every = λ x lt. not_false (member x order) (sym (part.set.bits x lt) ∙ none_passes p.c (stands standing) x none lt);
        };
        least = λ i y lt yc stays. elim (part.first i y (rw long lt) yc stays) [
          | inl is ↦ rw is (omega arith)
          | inr goes ↦ elim goes [ inl less ↦ omega arith | inr tie ↦ let e = tie.0 in omega arith ]
        ];
      };
      choice = λ i y lt yc stays e. elim (part.first i y (rw long lt) yc stays) [
        | inl is ↦ rw is (itself against (get_or order i 0))
        | inr goes ↦ elim goes [ inl less ↦ absurd (omega arith) | inr tie ↦ tie.1 ]
      ];
    }
