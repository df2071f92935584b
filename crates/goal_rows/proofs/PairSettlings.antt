-- With a winner reported, another outcome of the pairs is admitted exactly where somebody is preferred to the winner no
-- less than the winner to them.
use Rattle.std.proofs.Common.{ℕ, zero, suc, Bool, true, false, Option, Some, None, ◌≡◌, ◌≢◌, ◌<◌, ◌≤◌, ◌⊎◌, ◌+◌, ◌*◌, ◌∙◌, cond, sym, refl, ap, subst, inl, inr, arith}
use Rattle.std.specs.Prelude.{◌==◌, ◌&&◌, nat_le}
use Rattle.std.proofs.lemmas.Bool.{cases_eq, cases_lt}
use Rattle.std.proofs.lemmas.Bool.Decides.{nat_tests}
use Rattle.condorcet_count.specs.Settlings.{Chooses, IsAdmittedOutcome, IsChosenInAll, IsOutcomeOf, IsSettling, ties_to_lower}
use Rattle.goal_rows.proofs.OutcomesReported.{one_chosen}

-- at least as many ballots prefer j to x as x to j
pub record IsRival (c : ℕ) (pref : ℕ → ℕ → ℕ) (x j : ℕ) : Type 0 where
  pub stands : j < c
  pub other : j ≢ x
  pub level : pref x j ≤ pref j x

-- ---- with no rival every settling chooses x

rival_or_none : (c n : ℕ) (pref : ℕ → ℕ → ℕ) (x : ℕ) → n ≤ c → ((j : ℕ) × IsRival c pref x j) ⊎ ((j : ℕ) → j < n → j ≢ x → pref j x < pref x j)
rival_or_none c zero pref x le = inr (λ j lt other. absurd (omega arith))
rival_or_none c (suc n) pref x le = elim (rival_or_none c n pref x (omega arith)) [
  | inl found ↦ inl found
  | inr none ↦ elim (cases_eq n x) [
    | inl same ↦ inr (λ j lt other. none j (omega arith) other)
    | inr differ ↦ elim (cases_lt (pref n x) (pref x n)) [
      | inl less ↦ inr (λ j lt other. elim (cases_eq j n) [ inl e ↦ rw e less | inr ne ↦ none j (omega arith) other ])
      | inr ge ↦ inl (n, record { stands = omega arith; other = differ; level = ge })
    ]
  ]
]

lower_chosen : (c : ℕ) (pref : ℕ → ℕ → ℕ) (t : ℕ → ℕ → Bool) (x y : ℕ) (b : Bool) → IsSettling c pref t → pref y x < pref x y → x < y → y < c → t x y ≡ b → b ≡ true
lower_chosen c pref t x y true is less lt yc e = refl
lower_chosen c pref t x y false is less lt yc e = absurd (let h = is.higher x y lt yc e in omega arith)

higher_chosen : (c : ℕ) (pref : ℕ → ℕ → ℕ) (t : ℕ → ℕ → Bool) (x y : ℕ) (b : Bool) → IsSettling c pref t → pref y x < pref x y → y < x → x < c → t y x ≡ b → b ≡ false
higher_chosen c pref t x y false is less lt xc e = refl
higher_chosen c pref t x y true is less lt xc e = absurd (let h = is.lower y x lt xc e in omega arith)

chosen_without_rival : (c : ℕ) (pref : ℕ → ℕ → ℕ) (s : ℕ → ℕ → Bool) (x : ℕ) → x < c → IsSettling c pref s → ((j : ℕ) → j < c → j ≢ x → pref j x < pref x j) → IsChosenInAll c s x
chosen_without_rival c pref s x xc is none = record {
  stands = xc;
  chosen = λ y lt ne. (
    λ below. lower_chosen c pref s x y (s x y) is (none y lt ne) below lt refl,
    λ above. higher_chosen c pref s x y (s y x) is (none y lt ne) above xc refl,
  );
}

other_than : (c : ℕ) (s : ℕ → ℕ → Bool) (x : ℕ) (o : Option ℕ) → IsChosenInAll c s x → IsOutcomeOf c s o → o ≡ Some x
other_than c s x (Some y) chosen is = ap Some (one_chosen c s y x is chosen)
other_than c s x None chosen is = absurd (is x chosen)

pub rival_of_other : (c : ℕ) (pref : ℕ → ℕ → ℕ) (x : ℕ) (o : Option ℕ) → x < c → o ≢ Some x → IsAdmittedOutcome c pref o → (j : ℕ) × IsRival c pref x j
rival_of_other c pref x o xc differ (s, is, gives) = elim (rival_or_none c c pref x (omega arith)) [
  | inl found ↦ found
  | inr none ↦ absurd (differ (other_than c s x o (chosen_without_rival c pref s x xc is none) gives))
]

-- ---- a rival can be chosen against x

-- one more for j against x
abbrev bump : ℕ → ℕ → ℕ → ℕ → ℕ
bump j x a b = cond ((a == j) && (b == x)) 1 0

abbrev lifted : (ℕ → ℕ → ℕ) → ℕ → ℕ → ℕ → ℕ → ℕ
lifted pref j x a b = pref a b * 2 + bump j x a b

small : (t : Bool) → cond t 1 0 ≤ 1
small true = omega arith
small false = omega arith

le_test : (m n : ℕ) → nat_le m n ≡ true → m ≤ n
le_test m n h = grind (arith, nat_tests)

gt_test : (m n : ℕ) → nat_le m n ≡ false → n < m
gt_test m n h = grind (arith, nat_tests)

settles : (c : ℕ) (pref : ℕ → ℕ → ℕ) (j x : ℕ) → IsSettling c pref (ties_to_lower (lifted pref j x))
settles c pref j x = record {
  lower = λ a b _ _ e. let h = le_test _ _ e in let y = small ((a == j) && (b == x)) in omega (arith, h, y);
  higher = λ a b _ _ e. let h = gt_test _ _ e in let y = small ((b == j) && (a == x)) in omega (arith, h, y);
}

above : (pref : ℕ → ℕ → ℕ) (j x : ℕ) → j ≢ x → pref x j ≤ pref j x → lifted pref j x x j < lifted pref j x j x
above pref j x differ level =
    let jj : (j == j) ≡ true = grind (arith, nat_tests) in
    let xx : (x == x) ≡ true = grind (arith, nat_tests) in
    let xj : (x == j) ≡ false = grind (arith, nat_tests) in
    rw (jj, xx, xj) (omega arith)

no_test : (m n : ℕ) → m < n → nat_le n m ≡ true → ⊥
no_test m n lt h = grind (arith, nat_tests)

yes_test : (m n : ℕ) → m < n → nat_le m n ≡ false → ⊥
yes_test m n lt h = grind (arith, nat_tests)

not_chosen : (c : ℕ) (pref : ℕ → ℕ → ℕ) (j x : ℕ) → IsRival c pref x j → IsChosenInAll c (ties_to_lower (lifted pref j x)) x → ⊥
not_chosen c pref j x is chosen =
    let up = above pref j x is.other is.level in
    let h = chosen.chosen j is.stands is.other in
    elim (cases_lt x j) [
      | inl lt ↦ no_test (lifted pref j x x j) (lifted pref j x j x) up (h.0 lt)
      | inr ge ↦ yes_test (lifted pref j x x j) (lifted pref j x j x) up (h.1 (let ne = is.other in omega arith))
    ]

-- ---- a settling has an outcome

chosen_by : (s : ℕ → ℕ → Bool) (x y : ℕ) (t : Bool) → s x y ≡ t → x < y → Chooses s x y ⊎ (Chooses s x y → ⊥)
chosen_by s x y true e lt = inl (λ _. e, λ gt. absurd (omega arith))
chosen_by s x y false e lt = inr (λ h. let d : false ≡ true = sym e ∙ h.0 lt in cc)

chosen_by_higher : (s : ℕ → ℕ → Bool) (x y : ℕ) (t : Bool) → s y x ≡ t → y < x → Chooses s x y ⊎ (Chooses s x y → ⊥)
chosen_by_higher s x y false e lt = inl (λ gt. absurd (omega arith), λ _. e)
chosen_by_higher s x y true e lt = inr (λ h. let d : true ≡ false = sym e ∙ h.1 lt in cc)

chooses_or_not : (s : ℕ → ℕ → Bool) (x y : ℕ) → y ≢ x → Chooses s x y ⊎ (Chooses s x y → ⊥)
chooses_or_not s x y ne = elim (cases_lt x y) [
  | inl lt ↦ chosen_by s x y (s x y) refl lt
  | inr ge ↦ chosen_by_higher s x y (s y x) refl (omega (arith, ne))
]

chosen_below : (s : ℕ → ℕ → Bool) (x n : ℕ) → ((y : ℕ) → y < n → y ≢ x → Chooses s x y) ⊎ ((y : ℕ) × (y < n) × (y ≢ x) × (Chooses s x y → ⊥))
chosen_below s x zero = inl (λ y lt ne. absurd (omega arith))
chosen_below s x (suc n) = elim (chosen_below s x n) [
  | inr found ↦ inr (found.0, omega (arith, found.1), found.2, found.3)
  | inl all ↦ elim (cases_eq n x) [
    | inl same ↦ inl (λ y lt ne. all y (omega arith) ne)
    | inr differ ↦ elim (chooses_or_not s x n differ) [
      | inl chosen ↦ inl (λ y lt ne. elim (cases_eq y n) [ inl e ↦ rw e chosen | inr less ↦ all y (omega arith) ne ])
      | inr isnt ↦ inr (n, omega arith, differ, isnt)
    ]
  ]
]

somebody_or_none : (c n : ℕ) (s : ℕ → ℕ → Bool) → n ≤ c → ((x : ℕ) × IsChosenInAll c s x) ⊎ ((x : ℕ) → x < n → IsChosenInAll c s x → ⊥)
somebody_or_none c zero s le = inr (λ x lt is. omega arith)
somebody_or_none c (suc n) s le = elim (somebody_or_none c n s (omega arith)) [
  | inl found ↦ inl found
  | inr none ↦ elim (chosen_below s n c) [
    | inl all ↦ inl (n, record { stands = omega arith; chosen = all })
    | inr isnt ↦ inr (λ x lt is. elim (cases_eq x n) [
      | inl e ↦ isnt.3 ((subst (λ z. IsChosenInAll c s z) e is).chosen isnt.0 isnt.1 isnt.2)
      | inr less ↦ none x (omega arith) is
    ])
  ]
]

outcome_of : (c : ℕ) (s : ℕ → ℕ → Bool) → (o : Option ℕ) × IsOutcomeOf c s o
outcome_of c s = elim (somebody_or_none c c s (omega arith)) [
  | inl found ↦ (Some found.0, found.1)
  | inr none ↦ (None, λ x is. none x is.stands is)
]

differs : (c : ℕ) (s : ℕ → ℕ → Bool) (x : ℕ) (o : Option ℕ) → IsOutcomeOf c s o → (IsChosenInAll c s x → ⊥) → o ≢ Some x
differs c s x (Some y) is isnt e = isnt (subst (λ z. IsChosenInAll c s z) (let h : y ≡ x = cc in h) is)
differs c s x None is isnt e = cc

pub other_of_rival : (c : ℕ) (pref : ℕ → ℕ → ℕ) (x j : ℕ) → IsRival c pref x j → (o : Option ℕ) × (o ≢ Some x) × IsAdmittedOutcome c pref o
other_of_rival c pref x j is =
    let s = ties_to_lower (lifted pref j x) in
    let gives = outcome_of c s in
    (gives.0, differs c s x gives.0 gives.1 (not_chosen c pref j x is), (s, settles c pref j x, gives.1))
