-- What the cuts of the last round make of the ballots, and of who holds how many.
use Rattle.std.proofs.Common.{ℕ, zero, suc, List, [], ◌∷◌, Option, Some, None, Bool, true, false, All, ◌≡◌, ◌≢◌, ◌<◌, ◌≤◌, ◌+◌, ◌∙◌, ◌⊎◌, cond, length, take, refl, sym, ap, inl, inr, arith}
use Rattle.std.specs.Prelude.{◌==◌, find}
use Rattle.std.proofs.lemmas.Bool.{cases_eq}
use Rattle.std.proofs.lemmas.Bool.Decides.{nat_tests}
use Rattle.std.proofs.lemmas.List.Elements.{All-cons}
use Rattle.std.proofs.lemmas.List.Kept.{AllPairs-cons}
use Rattle.std.proofs.lemmas.List.Sums.{sum_by-cons}
use Rattle.ballot_form.specs.Alterations.{IsAlterationFrom, after_from}
use Rattle.ballot_form.specs.Ballots.{IsValidBallot}
use Rattle.ballot_form.specs.Scores.{is_some_of}
use Rattle.irv_count.specs.Orders.{held_count}
use Rattle.irv_count.proofs.Members.{bool_cases, differ_test, same_test}
use Rattle.witness_build.specs.LastRounds.{cut_at, cuts_from, holds_last, last_two}
use Rattle.witness_build.proofs.AgainstWinner.{AreShifted}
use Rattle.witness_build.proofs.CoverEnds.{alone, begins_before, replaced, stays}

-- ---- a ballot that x holds in the last round

-- its first candidate is x, or neither x nor r, and x holds the rest
held_from : (x r z : ℕ) (ballot : List ℕ) → holds_last x r (z ∷ ballot) ≡ true → (z ≡ x) ⊎ ((z ≢ x) × (z ≢ r) × (holds_last x r ballot ≡ true))
held_from x r z ballot held = elim (cases_eq z x) [
  | inl at ↦ inl at
  | inr zx ↦ elim (cases_eq z r) [
    | inl zr ↦ absurd (
        let t : last_two x r z ≡ true = rw (differ_test z x zx, same_test z r zr) refl in
        let h : is_some_of (Some z) x ≡ true = sym (ap (λ b. is_some_of (cond b (Some z) (find (last_two x r) ballot)) x) t) ∙ held in
        let clash : true ≡ false = sym h ∙ differ_test z x zx in
        cc)
    | inr zr ↦
        let t : last_two x r z ≡ false = rw (differ_test z x zx, differ_test z r zr) refl in
        inr (zx, zr, sym (ap (λ b. is_some_of (cond b (Some z) (find (last_two x r) ballot)) x) t) ∙ held)
  ]
]

cut_here : (x r z : ℕ) (ballot : List ℕ) → z ≡ x → cut_at x r (z ∷ ballot) ≡ r ∷ []
cut_here x r z ballot e = ap (λ b. cond b (r ∷ []) (z ∷ cut_at x r ballot)) (same_test z x e)

cut_later : (x r z : ℕ) (ballot : List ℕ) → z ≢ x → cut_at x r (z ∷ ballot) ≡ z ∷ cut_at x r ballot
cut_later x r z ballot ne = ap (λ b. cond b (r ∷ []) (z ∷ cut_at x r ballot)) (differ_test z x ne)

-- the holder stays, or r is it in place of x
abbrev Passes : ℕ → ℕ → Option ℕ → Option ℕ → Type 0
Passes x r before now = (now ≡ before) ⊎ ((before ≡ Some x) × (now ≡ Some r))

found_first : (set : ℕ → Bool) (z : ℕ) (ballot : List ℕ) → set z ≡ true → find set (z ∷ ballot) ≡ Some z
found_first set z ballot on = ap (λ b. cond b (Some z) (find set ballot)) on

found_later : (set : ℕ → Bool) (z : ℕ) (ballot : List ℕ) → set z ≡ false → find set (z ∷ ballot) ≡ find set ballot
found_later set z ballot off = ap (λ b. cond b (Some z) (find set ballot)) off

passes : (set : ℕ → Bool) (x r : ℕ) (ballot : List ℕ) → set x ≡ true → set r ≡ true → holds_last x r ballot ≡ true → Passes x r (find set ballot) (find set (cut_at x r ballot))
passes set x r [] sx sr held = absurd (let clash : false ≡ true = held in cc)
passes set x r (z ∷ ballot) sx sr held = elim (held_from x r z ballot held) [
  | inl at ↦ inr (
    found_first set z ballot (ap set at ∙ sx) ∙ ap (λ y. Some y) at,
    ap (find set) (cut_here x r z ballot at) ∙ found_first set r [] sr,
  )
  | inr past ↦ elim (bool_cases (set z)) [
    | inl on ↦ inl (ap (find set) (cut_later x r z ballot past.0) ∙ found_first set z (cut_at x r ballot) on ∙ sym (found_first set z ballot on))
    | inr off ↦
        let now = ap (find set) (cut_later x r z ballot past.0) ∙ found_later set z (cut_at x r ballot) off in
        let before = found_later set z ballot off in
        elim (passes set x r ballot sx sr past.2) [
          | inl same ↦ inl (now ∙ same ∙ sym before)
          | inr other ↦ inr (before ∙ other.0, now ∙ other.1)
        ]
  ]
]

-- in the last round r holds it after the cut
passes_last : (x r : ℕ) (ballot : List ℕ) → holds_last x r ballot ≡ true → find (last_two x r) (cut_at x r ballot) ≡ Some r
passes_last x r [] held = absurd (let clash : false ≡ true = held in cc)
passes_last x r (z ∷ ballot) held = elim (held_from x r z ballot held) [
  | inl at ↦ ap (find (last_two x r)) (cut_here x r z ballot at) ∙ found_first (last_two x r) r [] (grind (arith, nat_tests))
  | inr past ↦
      let off : last_two x r z ≡ false = rw (differ_test z x past.0, differ_test z r past.1) refl in
      ap (find (last_two x r)) (cut_later x r z ballot past.0) ∙ found_later (last_two x r) z (cut_at x r ballot) off ∙ passes_last x r ballot past.2
]

-- ---- the ballots after the cuts

-- the first k that x holds in the last round are cut
abbrev pub cut_first : ℕ → ℕ → ℕ → List (List ℕ) → List (List ℕ)
cut_first x r k [] = []
cut_first x r zero (ballot ∷ ballots) = ballot ∷ ballots
cut_first x r (suc k) (ballot ∷ ballots) = cond (holds_last x r ballot) (cut_at x r ballot ∷ cut_first x r k ballots) (ballot ∷ cut_first x r (suc k) ballots)

-- so many ballots the candidate holds of one
abbrev held_one : (ℕ → Bool) → List ℕ → ℕ → ℕ
held_one set ballot y = cond (is_some_of (find set ballot) y) 1 0

held_more : (set : ℕ → Bool) (ballot : List ℕ) (ballots : List (List ℕ)) (y : ℕ) → held_count set (ballot ∷ ballots) y ≡ held_one set ballot y + held_count set ballots y
held_more set ballot ballots y = sum_by-cons (λ row. cond (is_some_of (find set row) y) 1 0) ballot ballots

-- a point where this one is who holds it
abbrev point : Option ℕ → ℕ → ℕ
point o y = cond (is_some_of o y) 1 0

other_point : (z y : ℕ) → y ≢ z → point (Some z) y ≡ 0
other_point z y ne = ap (λ b. cond b 1 0) (differ_test z y (λ e. ne (sym e)))

own_point : (z : ℕ) → point (Some z) z ≡ 1
own_point z = ap (λ b. cond b 1 0) (same_test z z refl)

-- ---- what becomes of the counts while x and r stand

record AreShiftedIn (set : ℕ → Bool) (x r : ℕ) (before now : List (List ℕ)) : Type 0 where
  kept : (y : ℕ) → y ≢ x → y ≢ r → held_count set now y ≡ held_count set before y
  fallen : held_count set now x ≤ held_count set before x
  risen : held_count set before r ≤ held_count set now r

shift_same : (set : ℕ → Bool) (x r : ℕ) (ballot : List ℕ) (before now : List (List ℕ)) → AreShiftedIn set x r before now → AreShiftedIn set x r (ballot ∷ before) (ballot ∷ now)
shift_same set x r ballot before now is = record {
  kept = λ y yx yr. let a = held_more set ballot now y in let b = held_more set ballot before y in let k = is.kept y yx yr in omega (arith, a, b, k);
  fallen = let a = held_more set ballot now x in let b = held_more set ballot before x in let k = is.fallen in omega (arith, a, b, k);
  risen = let a = held_more set ballot now r in let b = held_more set ballot before r in let k = is.risen in omega (arith, a, b, k);
}

shift_cut : (set : ℕ → Bool) (x r : ℕ) (ballot cut : List ℕ) (before now : List (List ℕ)) → r ≢ x → Passes x r (find set ballot) (find set cut) → AreShiftedIn set x r before now
    → AreShiftedIn set x r (ballot ∷ before) (cut ∷ now)
shift_cut set x r ballot cut before now rx (inl same) is =
    let one : (y : ℕ) → held_one set cut y ≡ held_one set ballot y = λ y. ap (λ o. cond (is_some_of o y) 1 0) same in
    record {
      kept = λ y yx yr. let a = held_more set cut now y in let b = held_more set ballot before y in let k = is.kept y yx yr in let o = one y in omega (arith, a, b, k, o);
      fallen = let a = held_more set cut now x in let b = held_more set ballot before x in let k = is.fallen in let o = one x in omega (arith, a, b, k, o);
      risen = let a = held_more set cut now r in let b = held_more set ballot before r in let k = is.risen in let o = one r in omega (arith, a, b, k, o);
    }
shift_cut set x r ballot cut before now rx (inr other) is =
    let old : (y : ℕ) → held_one set ballot y ≡ point (Some x) y = λ y. ap (λ o. cond (is_some_of o y) 1 0) other.0 in
    let new : (y : ℕ) → held_one set cut y ≡ point (Some r) y = λ y. ap (λ o. cond (is_some_of o y) 1 0) other.1 in
    record {
      kept = λ y yx yr.
          let a = held_more set cut now y in
          let b = held_more set ballot before y in
          let o : held_one set ballot y ≡ 0 = old y ∙ other_point x y yx in
          let n : held_one set cut y ≡ 0 = new y ∙ other_point r y yr in
          let k = is.kept y yx yr in
          omega (arith, a, b, k, o, n);
      fallen =
          let a = held_more set cut now x in
          let b = held_more set ballot before x in
          let n : held_one set cut x ≡ 0 = new x ∙ other_point r x (λ e. rx (sym e)) in
          let k = is.fallen in
          omega (arith, a, b, k, n);
      risen =
          let a = held_more set cut now r in
          let b = held_more set ballot before r in
          let o : held_one set ballot r ≡ 0 = old r ∙ other_point x r rx in
          let k = is.risen in
          omega (arith, a, b, k, o);
    }

unshifted : (set : ℕ → Bool) (x r : ℕ) (ballots : List (List ℕ)) → AreShiftedIn set x r ballots ballots
unshifted set x r ballots = record { kept = λ y yx yr. refl; fallen = omega arith; risen = omega arith }

shifted_in : (set : ℕ → Bool) (x r k : ℕ) (ballots : List (List ℕ)) → r ≢ x → set x ≡ true → set r ≡ true → AreShiftedIn set x r ballots (cut_first x r k ballots)
shifted_in set x r k [] rx sx sr = unshifted set x r []
shifted_in set x r zero (ballot ∷ ballots) rx sx sr = unshifted set x r (ballot ∷ ballots)
shifted_in set x r (suc k) (ballot ∷ ballots) rx sx sr = go (shifted_in set x r k ballots rx sx sr) (shifted_in set x r (suc k) ballots rx sx sr) (holds_last x r ballot) refl
  where
    go : AreShiftedIn set x r ballots (cut_first x r k ballots) → AreShiftedIn set x r ballots (cut_first x r (suc k) ballots) → (b : Bool) → b ≡ holds_last x r ballot
        → AreShiftedIn set x r (ballot ∷ ballots) (cond b (cut_at x r ballot ∷ cut_first x r k ballots) (ballot ∷ cut_first x r (suc k) ballots))
    go fewer same true is = shift_cut set x r ballot (cut_at x r ballot) ballots (cut_first x r k ballots) rx (passes set x r ballot sx sr (sym is)) fewer
    go fewer same false is = shift_same set x r ballot ballots (cut_first x r (suc k) ballots) same

pub cuts_shift : (x r k : ℕ) (ballots : List (List ℕ)) → r ≢ x → AreShifted x r ballots (cut_first x r k ballots)
cuts_shift x r k ballots rx = record {
  kept = λ set y sx sr yx yr. (shifted_in set x r k ballots rx sx sr).kept y yx yr;
  fallen = λ set sx sr. (shifted_in set x r k ballots rx sx sr).fallen;
  risen = λ set sx sr. (shifted_in set x r k ballots rx sx sr).risen;
}

-- ---- the last round after the cuts

only_one : (o : Option ℕ) (x r : ℕ) → r ≢ x → is_some_of o x ≡ true → is_some_of o r ≡ false
only_one None x r rx is = refl
only_one (Some y) x r rx is = grind (arith, nat_tests)

-- so many ballots are r's in place of x's
pub record HaveMoved (x r k : ℕ) (before now : List (List ℕ)) : Type 0 where
  pub from : held_count (last_two x r) now x + k ≡ held_count (last_two x r) before x
  pub to : held_count (last_two x r) now r ≡ held_count (last_two x r) before r + k

pub cuts_move : (x r k : ℕ) (ballots : List (List ℕ)) → r ≢ x → k ≤ held_count (last_two x r) ballots x → HaveMoved x r k ballots (cut_first x r k ballots)
cuts_move x r zero [] rx le = record { from = omega arith; to = omega arith }
cuts_move x r (suc k) [] rx le = absurd (omega (arith, le))
cuts_move x r zero (ballot ∷ ballots) rx le = record { from = omega arith; to = omega arith }
cuts_move x r (suc k) (ballot ∷ ballots) rx le = go (cuts_move x r k ballots rx) (cuts_move x r (suc k) ballots rx) (holds_last x r ballot) refl
  where
    go : (k ≤ held_count (last_two x r) ballots x → HaveMoved x r k ballots (cut_first x r k ballots))
        → (suc k ≤ held_count (last_two x r) ballots x → HaveMoved x r (suc k) ballots (cut_first x r (suc k) ballots)) → (b : Bool) → b ≡ holds_last x r ballot
        → HaveMoved x r (suc k) (ballot ∷ ballots) (cond b (cut_at x r ballot ∷ cut_first x r k ballots) (ballot ∷ cut_first x r (suc k) ballots))
    go fewer same true is =
        let ox : held_one (last_two x r) ballot x ≡ 1 = ap (λ b. cond b 1 0) (sym is) in
        let on_r : held_one (last_two x r) ballot r ≡ 0 = ap (λ b. cond b 1 0) (only_one (find (last_two x r) ballot) x r rx (sym is)) in
        let nx : held_one (last_two x r) (cut_at x r ballot) x ≡ 0 = ap (λ o. cond (is_some_of o x) 1 0) (passes_last x r ballot (sym is)) ∙ other_point r x (λ e. rx (sym e)) in
        let nr : held_one (last_two x r) (cut_at x r ballot) r ≡ 1 = ap (λ o. cond (is_some_of o r) 1 0) (passes_last x r ballot (sym is)) ∙ own_point r in
        let a = held_more (last_two x r) ballot ballots x in
        let b = held_more (last_two x r) ballot ballots r in
        let c = held_more (last_two x r) (cut_at x r ballot) (cut_first x r k ballots) x in
        let d = held_more (last_two x r) (cut_at x r ballot) (cut_first x r k ballots) r in
        let rest = fewer (omega (arith, le, a, ox)) in
        record { from = omega (arith, rest.from, a, c, ox, nx); to = omega (arith, rest.to, b, d, on_r, nr) }
    go fewer same false is =
        let ox : held_one (last_two x r) ballot x ≡ 0 = ap (λ b. cond b 1 0) (sym is) in
        let a = held_more (last_two x r) ballot ballots x in
        let b = held_more (last_two x r) ballot ballots r in
        let c = held_more (last_two x r) ballot (cut_first x r (suc k) ballots) x in
        let d = held_more (last_two x r) ballot (cut_first x r (suc k) ballots) r in
        let rest = same (omega (arith, le, a, ox)) in
        record { from = omega (arith, rest.from, a, c); to = omega (arith, rest.to, b, d) }

-- ---- the cuts are an alteration

cut_others : (z x r : ℕ) (ballot : List ℕ) → z ≢ r → All (λ y. z ≢ y) ballot → All (λ y. z ≢ y) (cut_at x r ballot)
cut_others z x r [] zr apart = apart
cut_others z x r (y ∷ ballot) zr apart =
    let rest = cut_others z x r ballot zr (λ k d lt. apart (suc k) d (omega (arith, lt))) in
    elim (y == x) as (λ b. All (λ w. z ≢ w) (cond b (r ∷ []) (y ∷ cut_at x r ballot))) [
      | true ↦ All-cons (λ w. z ≢ w) r [] zr (λ k d lt. absurd (omega (arith, lt)))
      | false ↦ All-cons (λ w. z ≢ w) y (cut_at x r ballot) (apart 0 y (omega arith)) rest
    ]

pub valid_cut : (c x r : ℕ) (ballot : List ℕ) → r < c → IsValidBallot c ballot → holds_last x r ballot ≡ true → IsValidBallot c (cut_at x r ballot)
valid_cut c x r [] rc valid held = valid
valid_cut c x r (z ∷ ballot) rc valid held = elim (held_from x r z ballot held) [
  | inl at ↦ rw (cut_here x r z ballot at) (alone c r rc)
  | inr past ↦
      let tail : IsValidBallot c ballot = record {
        below = λ k d lt. valid.below (suc k) d (omega (arith, lt));
        distinct = λ i j d less lt. valid.distinct (suc i) (suc j) d (omega (arith, less)) (omega (arith, lt));
      } in
      let rest = valid_cut c x r ballot rc tail past.2 in
      let others : All (λ y. z ≢ y) ballot = λ k d lt. valid.distinct 0 (suc k) d (omega arith) (omega (arith, lt)) in
      rw (cut_later x r z ballot past.0) (record {
        below = All-cons (λ y. y < c) z (cut_at x r ballot) (valid.below 0 z (omega arith)) rest.below;
        distinct = AllPairs-cons (λ a b. a ≢ b) z (cut_at x r ballot) (cut_others z x r ballot past.1 others) rest.distinct;
      })
]

pub cuts_alter : (c x r i n k : ℕ) (ballots : List (List ℕ)) → r < c → All (IsValidBallot c) ballots → i + length ballots ≤ n + 1 → IsAlterationFrom c i n (take k (cuts_from x r i ballots))
cuts_alter c x r i n zero ballots rc valid le = tt
cuts_alter c x r i n (suc k) [] rc valid le = tt
cuts_alter c x r i n (suc k) (ballot ∷ ballots) rc valid le =
    go (cuts_alter c x r (i + 1) n k ballots rc (λ j d lt. valid (suc j) d (omega (arith, lt))) (omega (arith, le)))
    (cuts_alter c x r (i + 1) n (suc k) ballots rc (λ j d lt. valid (suc j) d (omega (arith, lt))) (omega (arith, le))) (holds_last x r ballot) refl
  where
    go : IsAlterationFrom c (i + 1) n (take k (cuts_from x r (i + 1) ballots)) → IsAlterationFrom c (i + 1) n (take (suc k) (cuts_from x r (i + 1) ballots)) → (b : Bool)
        → b ≡ holds_last x r ballot → IsAlterationFrom c i n (take (suc k) (cond b ((i, cut_at x r ballot) ∷ cuts_from x r (i + 1) ballots) (cuts_from x r (i + 1) ballots)))
    go fewer same true is = (omega arith, omega (arith, le), valid_cut c x r ballot rc (valid 0 ballot (omega arith)) (sym is), fewer)
    go fewer same false is = begins_before c i n (take (suc k) (cuts_from x r (i + 1) ballots)) same

pub after_cuts : (c x r i n k : ℕ) (ballots : List (List ℕ)) → r < c → All (IsValidBallot c) ballots → i + length ballots ≤ n + 1
    → after_from i ballots (take k (cuts_from x r i ballots)) ≡ cut_first x r k ballots
after_cuts c x r i n k [] rc valid le = refl
after_cuts c x r i n zero (ballot ∷ ballots) rc valid le = refl
after_cuts c x r i n (suc k) (ballot ∷ ballots) rc valid le =
    let rest : All (IsValidBallot c) ballots = λ j d lt. valid (suc j) d (omega (arith, lt)) in
    go (after_cuts c x r (i + 1) n k ballots rc rest (omega (arith, le))) (after_cuts c x r (i + 1) n (suc k) ballots rc rest (omega (arith, le)))
    (cuts_alter c x r (i + 1) n (suc k) ballots rc rest (omega (arith, le))) (holds_last x r ballot)
  where
    go : after_from (i + 1) ballots (take k (cuts_from x r (i + 1) ballots)) ≡ cut_first x r k ballots
        → after_from (i + 1) ballots (take (suc k) (cuts_from x r (i + 1) ballots)) ≡ cut_first x r (suc k) ballots
        → IsAlterationFrom c (i + 1) n (take (suc k) (cuts_from x r (i + 1) ballots)) → (b : Bool)
        → after_from i (ballot ∷ ballots) (take (suc k) (cond b ((i, cut_at x r ballot) ∷ cuts_from x r (i + 1) ballots) (cuts_from x r (i + 1) ballots)))
        ≡ cond b (cut_at x r ballot ∷ cut_first x r k ballots) (ballot ∷ cut_first x r (suc k) ballots)
    go fewer same alters true = replaced i i ballot (cut_at x r ballot) ballots (take k (cuts_from x r (i + 1) ballots)) refl ∙ ap (λ rows. cut_at x r ballot ∷ rows) fewer
    go fewer same alters false = stays c i n ballot ballots (take (suc k) (cuts_from x r (i + 1) ballots)) alters ∙ ap (λ rows. ballot ∷ rows) same
