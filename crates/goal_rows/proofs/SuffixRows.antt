-- The rows of a suffix: place by place, and those of a legal order.
use Rattle.std.proofs.Common.{ℕ, zero, suc, List, [], ◌∷◌, ◌++◌, Bool, true, false, ◌≡◌, ◌<◌, ◌≤◌, ◌∙◌, ◌↔◌, length, get_or, take, drop, map, ap, sym, refl, inl, inr, arith, All}
use Rattle.std.specs.Prelude.{not, pos, ◌≤ℤ◌}
use Rattle.std.proofs.lemmas.Int.{ints}
use Rattle.std.proofs.lemmas.Bool.{cases_eq, cases_lt}
use Rattle.std.proofs.lemmas.List.Elements.{All-append, All-cons}
use Rattle.mov_base.specs.Sums.{add_up, sum_z}
use Rattle.mov_base.proofs.Signed.{sum_z-difference}
use Rattle.mov_base.proofs.Sums.{add_up-sum_by}
use Rattle.ballot_form.specs.Ballots.{IsValidBallot, Poll}
use Rattle.irv_count.specs.Orders.{IsLegalOrder, IsOrder, held_count, left_after, member}
use Rattle.irv_count.proofs.Holders.{held_same}
use Rattle.irv_count.proofs.Members.{at_member, first_at, member_at, place_member}
use Rattle.goal_rows.specs.Suffixes.{hold_points, hold_weight, suffix_rows}

-- ---- what holds of all of a list

all_front : {X : Type 0} (P : X → Type 0) (xs ys : List X) → All P (xs ++ ys) → All P xs
all_front P [] ys each = λ k d lt. absurd (omega (arith, lt))
all_front P (x ∷ xs) ys each = All-cons P x xs (each 0 x (omega arith)) (all_front P xs ys (λ k d lt. each (suc k) d (omega (arith, lt))))

pub all_back : {X : Type 0} (P : X → Type 0) (xs ys : List X) → All P (xs ++ ys) → All P ys
all_back P [] ys each = each
all_back P (x ∷ xs) ys each = all_back P xs ys (λ k d lt. each (suc k) d (omega (arith, lt)))

pub all_made : {X : Type 0} (P : X → Type 0) (f : ℕ → X) (xs : List ℕ) → All P (map f xs) → (j : ℕ) → j < length xs → P (f (get_or xs j 0))
all_made P f [] each j lt = absurd (omega arith)
all_made P f (x ∷ xs) each zero lt = each 0 (f x) (omega arith)
all_made P f (x ∷ xs) each (suc j) lt = all_made P f xs (λ k d less. each (suc k) d (omega (arith, less))) j (omega arith)

all_of_each : {X : Type 0} (P : X → Type 0) (f : ℕ → X) (xs : List ℕ) → ((j : ℕ) → j < length xs → P (f (get_or xs j 0))) → All P (map f xs)
all_of_each P f [] each = λ k d lt. absurd (omega (arith, lt))
all_of_each P f (x ∷ xs) each = All-cons P (f x) (map f xs) (each 0 (omega arith)) (all_of_each P f xs (λ j lt. each (suc j) (omega arith)))

-- ---- place by place

hold_sum : (standing : List ℕ) (x : ℕ) (ballots : List (List ℕ)) → add_up (hold_points standing x) ballots ≡ held_count (λ z. member z standing) ballots x
hold_sum standing x ballots = add_up-sum_by (hold_points standing x) ballots

-- a row holds where the one holds at least as many ballots as the other
hold_row : (standing : List ℕ) (y x : ℕ) (ballots : List (List ℕ)) → (pos 0 ≤ℤ sum_z (hold_weight standing y x) ballots)
    ↔ (held_count (λ z. member z standing) ballots x ≤ held_count (λ z. member z standing) ballots y)
hold_row standing y x ballots =
    let v = sum_z-difference (hold_points standing y) (hold_points standing x) ballots in
    let a = hold_sum standing y ballots in
    let b = hold_sum standing x ballots in (
      λ holds. omega (arith, ints, holds, v, a, b),
      λ level. omega (arith, ints, level, v, a, b),
    )

-- while those from a place on stand, each later one holds at least as many ballots as the one at the place
pub record AreLevel (suffix : List ℕ) (ballots : List (List ℕ)) : Type 0 where
  pub level : (i j : ℕ) → i < j → j < length suffix
      → held_count (λ z. member z (drop i suffix)) ballots (get_or suffix i 0) ≤ held_count (λ z. member z (drop i suffix)) ballots (get_or suffix j 0)

abbrev HoldAll : List ℕ → List (List ℕ) → Type 0
HoldAll suffix ballots = All (λ weight. pos 0 ≤ℤ sum_z weight ballots) (suffix_rows suffix)

tail_rows : (x : ℕ) (rest : List ℕ) (ballots : List (List ℕ)) → HoldAll (x ∷ rest) ballots → HoldAll rest ballots
tail_rows x rest ballots rows = all_back (λ weight. pos 0 ≤ℤ sum_z weight ballots) (map (λ y. hold_weight (x ∷ rest) y x) rest) (suffix_rows rest) rows

first_rows : (x : ℕ) (rest : List ℕ) (ballots : List (List ℕ)) → HoldAll (x ∷ rest) ballots → (j : ℕ) → j < length rest
    → held_count (λ z. member z (x ∷ rest)) ballots x ≤ held_count (λ z. member z (x ∷ rest)) ballots (get_or rest j 0)
first_rows x rest ballots rows j lt =
    (hold_row (x ∷ rest) (get_or rest j 0) x ballots).0
    (all_made (λ weight. pos 0 ≤ℤ sum_z weight ballots) (λ y. hold_weight (x ∷ rest) y x) rest
    (all_front (λ weight. pos 0 ≤ℤ sum_z weight ballots) (map (λ y. hold_weight (x ∷ rest) y x) rest) (suffix_rows rest) rows) j lt)

level_by : (suffix : List ℕ) (ballots : List (List ℕ)) → HoldAll suffix ballots → (i j : ℕ) → i < j → j < length suffix
    → held_count (λ z. member z (drop i suffix)) ballots (get_or suffix i 0) ≤ held_count (λ z. member z (drop i suffix)) ballots (get_or suffix j 0)
level_by [] ballots rows i j ij jl = absurd (omega arith)
level_by (x ∷ rest) ballots rows i zero ij jl = absurd (omega arith)
level_by (x ∷ rest) ballots rows zero (suc j) ij jl = first_rows x rest ballots rows j (omega arith)
level_by (x ∷ rest) ballots rows (suc i) (suc j) ij jl = level_by rest ballots (tail_rows x rest ballots rows) i j (omega arith) (omega arith)

rows_by : (suffix : List ℕ) (ballots : List (List ℕ)) → AreLevel suffix ballots → HoldAll suffix ballots
rows_by [] ballots are = λ k d lt. absurd (omega (arith, lt))
rows_by (x ∷ rest) ballots are =
    All-append (λ weight. pos 0 ≤ℤ sum_z weight ballots) (map (λ y. hold_weight (x ∷ rest) y x) rest) (suffix_rows rest)
    (all_of_each (λ weight. pos 0 ≤ℤ sum_z weight ballots) (λ y. hold_weight (x ∷ rest) y x) rest
    (λ j lt. (hold_row (x ∷ rest) (get_or rest j 0) x ballots).1 (are.level 0 (suc j) (omega arith) (omega arith))))
    (rows_by rest ballots (record { level = λ i j ij jl. are.level (suc i) (suc j) (omega arith) (omega arith) }))

pub rows_exactly : (suffix : List ℕ) (ballots : List (List ℕ)) → All (λ weight. pos 0 ≤ℤ sum_z weight ballots) (suffix_rows suffix) ↔ AreLevel suffix ballots
rows_exactly suffix ballots = (λ rows. record { level = level_by suffix ballots rows }, rows_by suffix ballots)

-- the rows of who is left are among those of all
pub rows_of_rest : (x : ℕ) (rest : List ℕ) (ballots : List (List ℕ)) → All (λ weight. pos 0 ≤ℤ sum_z weight ballots) (suffix_rows (x ∷ rest))
    → All (λ weight. pos 0 ≤ℤ sum_z weight ballots) (suffix_rows rest)
rows_of_rest x rest ballots rows = tail_rows x rest ballots rows

pub rows_of_suffix : (k : ℕ) (suffix : List ℕ) (ballots : List (List ℕ)) → All (λ weight. pos 0 ≤ℤ sum_z weight ballots) (suffix_rows suffix)
    → All (λ weight. pos 0 ≤ℤ sum_z weight ballots) (suffix_rows (drop k suffix))
rows_of_suffix zero suffix ballots rows = rows
rows_of_suffix (suc k) [] ballots rows = rows
rows_of_suffix (suc k) (x ∷ rest) ballots rows = rows_of_suffix k rest ballots (tail_rows x rest ballots rows)

-- ---- the rows of an order are those of a legal one

-- a member of what is left is at a later place
dropped_at : (x : ℕ) (xs : List ℕ) (i : ℕ) → member x (drop i xs) ≡ true → (k : ℕ) × (i ≤ k) × (k < length xs) × (get_or xs k 0 ≡ x)
dropped_at x xs zero on = let at = member_at x xs on in (at.0, omega arith, at.1, at.2)
dropped_at x [] (suc i) on = cc
dropped_at x (y ∷ xs) (suc i) on = let at = dropped_at x xs i on in (suc at.0, omega (arith, at.1), omega (arith, at.2), at.3)

at_dropped : (xs : List ℕ) (i k : ℕ) → i ≤ k → k < length xs → member (get_or xs k 0) (drop i xs) ≡ true
at_dropped xs zero k ik kl = place_member xs k kl
at_dropped [] (suc i) k ik kl = absurd (omega arith)
at_dropped (y ∷ xs) (suc i) zero ik kl = absurd (omega arith)
at_dropped (y ∷ xs) (suc i) (suc k) ik kl = at_dropped xs i k (omega arith) (omega arith)

-- who stands from a place on is who has not gone before it
same_set : (c : ℕ) (order : List ℕ) (i x : ℕ) → IsOrder c order → x < c → left_after order i x ≡ member x (drop i order)
same_set c order i x whole xc = by (member x (take i order)) (member x (drop i order)) refl refl
  where
    long : length order ≡ c
    long = whole.long

    by : (gone left : Bool) → member x (take i order) ≡ gone → member x (drop i order) ≡ left → not gone ≡ left
    by true false _ _ = refl
    by false true _ _ = refl
    by true true out on =
        let a = first_at x order i out in
        let b = dropped_at x order i on in
        let no : member (get_or order b.0 0) (take b.0 order) ≡ false = whole.distinct b.0 (omega (arith, b.2, long)) in
        let yes : member (get_or order a.0 0) (take b.0 order) ≡ true = at_member order a.0 b.0 (omega (arith, a.1, b.1)) a.2 in
        let e : get_or order a.0 0 ≡ get_or order b.0 0 = a.3 ∙ sym b.3 in
        let yes1 = rw e at yes in
        let z : true ≡ false = sym yes1 ∙ no in
        cc
    by false false out off =
        let at = member_at x order (whole.every x xc) in
        elim (cases_lt at.0 i) [
          | inl less ↦
              let on = at_member order at.0 i less at.1 in
              let on1 = rw at.2 at on in
              let z : true ≡ false = sym on1 ∙ out in
              cc
          | inr ge ↦
              let on = at_dropped order i at.0 ge at.1 in
              let on1 = rw at.2 at on in
              let z : true ≡ false = sym on1 ∙ off in
              cc
        ]

same_counts : (p : Poll) (order : List ℕ) (i x : ℕ) → All (IsValidBallot p.c) p.ballots → IsOrder p.c order
    → held_count (left_after order i) p.ballots x ≡ held_count (λ z. member z (drop i order)) p.ballots x
same_counts p order i x valid whole = held_same (left_after order i) (λ z. member z (drop i order)) p.c p.ballots x valid (λ y yc. same_set p.c order i y whole yc)

legal_level : (p : Poll) (order : List ℕ) → All (IsValidBallot p.c) p.ballots → IsLegalOrder p order → AreLevel order p.ballots
legal_level p order valid legal = record {
  level = λ i j ij jl.
      let long = legal.whole.long in
      let jc : j < p.c = omega (arith, jl, long) in
      let ic : i < p.c = omega (arith, ij, jc) in
      let yc = legal.whole.below j jc in
      let stays = same_set p.c order i (get_or order j 0) legal.whole yc ∙ at_dropped order i j (omega arith) jl in
      let a = same_counts p order i (get_or order i 0) valid legal.whole in
      let b = same_counts p order i (get_or order j 0) valid legal.whole in
      omega (arith, legal.least i (get_or order j 0) ic yc stays, a, b);
}

level_legal : (p : Poll) (order : List ℕ) → All (IsValidBallot p.c) p.ballots → IsOrder p.c order → AreLevel order p.ballots → IsLegalOrder p order
level_legal p order valid whole are = record {
  whole = whole;
  least = λ i y ic yc stays.
      let long = whole.long in
      let at = dropped_at y order i (sym (same_set p.c order i y whole yc) ∙ stays) in
      let a = same_counts p order i (get_or order i 0) valid whole in
      let b = same_counts p order i y valid whole in
      elim (cases_eq i at.0) [
        | inl same ↦ let e : get_or order i 0 ≡ y = ap (λ k. get_or order k 0) same ∙ at.3 in rw e (omega arith)
        | inr differ ↦
            let h = are.level i at.0 (omega (arith, at.1, differ)) at.2 in
            let h1 = rw at.3 at h in
            omega (arith, h1, a, b)
      ];
}

pub legal_rows : (p : Poll) (order : List ℕ) → All (IsValidBallot p.c) p.ballots → IsOrder p.c order
    → IsLegalOrder p order ↔ All (λ weight. pos 0 ≤ℤ sum_z weight p.ballots) (suffix_rows order)
legal_rows p order valid whole = (
  λ legal. (rows_exactly order p.ballots).1 (legal_level p order valid legal),
  λ rows. level_legal p order valid whole ((rows_exactly order p.ballots).0 rows),
)
