-- The settling that gives ties to the lower number.
use Rattle.std.proofs.Common.{ℕ, ◌≡◌, ◌<◌, ◌≤◌, Bool, true, false, Option, Some, None, sym, refl, arith}
use Rattle.std.specs.Prelude.{nat_le, IsNone, ◌↔◌}
use Rattle.std.proofs.lemmas.Bool.Decides.{nat_tests}
use Rattle.ballot_form.specs.Ballots.{Poll}
use Rattle.condorcet_count.specs.Preferences.{ArePrefs, Table, count_in, pref_of}
use Rattle.condorcet_count.specs.Settlings.{Chooses, IsAdmittedOutcome, IsChosenInAll, IsOutcomeOf, IsReportedOutcome, IsSettling, ties_to_lower}

le_test : (x y : ℕ) → nat_le x y ≡ true → x ≤ y
le_test x y h = grind (arith, nat_tests)

gt_test : (x y : ℕ) → nat_le x y ≡ false → y ≤ x
gt_test x y h = grind (arith, nat_tests)

settles : (c : ℕ) (pref : ℕ → ℕ → ℕ) → IsSettling c pref (ties_to_lower pref)
settles c pref = record {
  lower = λ x y _ _ e. le_test _ _ e;
  higher = λ x y _ _ e. gt_test _ _ e;
}

-- the reported outcome is admitted
pub admitted : (c : ℕ) (pref : ℕ → ℕ → ℕ) (o : Option ℕ) → IsReportedOutcome c pref o → IsAdmittedOutcome c pref o
admitted c pref o is = (ties_to_lower pref, settles c pref, is)

-- counts that are alike choose alike
abbrev pub AreAlike : ℕ → (ℕ → ℕ → ℕ) → (ℕ → ℕ → ℕ) → Type 0
AreAlike c f g = (x y : ℕ) → x < c → y < c → f x y ≡ g x y

choose_alike : (f g : ℕ → ℕ → ℕ) (x y : ℕ) → f x y ≡ g x y → f y x ≡ g y x → Chooses (ties_to_lower f) x y → Chooses (ties_to_lower g) x y
choose_alike f g x y e d chosen = (λ lt. rw (← e, ← d) (chosen.0 lt), λ gt. rw (← e, ← d) (chosen.1 gt))

chosen_alike : (c : ℕ) (f g : ℕ → ℕ → ℕ) (x : ℕ) → AreAlike c f g → IsChosenInAll c (ties_to_lower f) x → IsChosenInAll c (ties_to_lower g) x
chosen_alike c f g x alike is = record {
  stands = is.stands;
  chosen = λ y lt ne. choose_alike f g x y (alike x y is.stands lt) (alike y x lt is.stands) (is.chosen y lt ne);
}

outcome_alike : (c : ℕ) (f g : ℕ → ℕ → ℕ) (o : Option ℕ) → AreAlike c f g → IsReportedOutcome c f o → IsReportedOutcome c g o
outcome_alike c f g (Some x) alike is = chosen_alike c f g x alike is
outcome_alike c f g None alike is = λ x other. is x (chosen_alike c g f x (λ a b ac bc. sym (alike a b ac bc)) other)

-- the outcome of a roll by its counts
pub of_roll : (p : Poll) (t : Table) (o : Option ℕ) → ArePrefs p t → IsReportedOutcome t.c (count_in t) o → IsReportedOutcome p.c (pref_of p.ballots) o
of_roll p t o are is =
    let here : IsReportedOutcome p.c (count_in t) o = rw (← are.candidates) is in
    outcome_alike p.c (count_in t) (pref_of p.ballots) o are.each here

pub admitted_of_roll : (p : Poll) (t : Table) (o : Option ℕ) → ArePrefs p t → IsReportedOutcome t.c (count_in t) o → IsAdmittedOutcome p.c (pref_of p.ballots) o
admitted_of_roll p t o are is = admitted p.c (pref_of p.ballots) o (of_roll p t o are is)

-- there is no outcome exactly where nobody is chosen in all pairs
pub none_exactly : (c : ℕ) (s : ℕ → ℕ → Bool) (o : Option ℕ) → IsOutcomeOf c s o → IsNone o ↔ ((x : ℕ) → IsChosenInAll c s x → ⊥)
none_exactly c s (Some x) is = (λ e. absurd (cc), λ nobody. absurd (nobody x is))
none_exactly c s None is = (λ _. is, λ _. refl)

-- nobody below c is chosen in all pairs
pub nobody : (c i : ℕ) (s : ℕ → ℕ → Bool) → c ≤ i → ((x : ℕ) → x < i → IsChosenInAll c s x → ⊥) → (x : ℕ) → IsChosenInAll c s x → ⊥
nobody c i s all none x is = none x (omega (arith, is.stands)) is
