-- Where Condorcet's rule reports no winner, a winner is admitted exactly where the rows of a cover hold.
use Rattle.std.proofs.Common.{ℕ, List, [], ◌∷◌, Bool, true, false, Some, ◌≡◌, ◌≢◌, ◌<◌, ◌≤◌, ◌∙◌, ◌↔◌, cond, get_or, inl, inr, arith, All}
use Rattle.std.specs.Prelude.{Contains, ◌==◌, nat_le, nat_lt, not, pos, ◌≤ℤ◌}
use Rattle.std.proofs.lemmas.Bool.{cases_lt}
use Rattle.std.proofs.lemmas.Bool.Decides.{nat_tests}
use Rattle.std.proofs.lemmas.Int.{ints}
use Rattle.std.proofs.lemmas.List.{get_or_default}
use Rattle.std.proofs.lemmas.List.Elements.{All-map, Contains-get_or}
use Rattle.mov_base.specs.Sums.{add_up, sum_z}
use Rattle.mov_base.proofs.Signed.{sum_z-difference}
use Rattle.mov_base.proofs.Sums.{add_up-sum_by}
use Rattle.ballot_form.specs.Alterations.{after}
use Rattle.ballot_form.specs.Ballots.{Poll}
use Rattle.ballot_form.specs.declared.outcome.Outcome.{Outcome}
use Rattle.ballot_form.specs.declared.outcome.Outcome.TheVariants.{Winner, NoWinner, Seats}
use Rattle.ballot_form.specs.declared.rule.Rule.TheVariants.{Condorcet}
use Rattle.condorcet_count.specs.Preferences.{pref_of}
use Rattle.condorcet_count.specs.Settlings.{Chooses, IsAdmittedOutcome, IsSettling}
use Rattle.goal_rows.specs.Margins.{Turns}
use Rattle.goal_rows.specs.Outcomes.{Admits, IsReported}
use Rattle.goal_rows.specs.Suffixes.{cover_rows, others, prefer_points, prefer_weight}
use Rattle.goal_rows.specs.declared.goals.Goal.TheVariants.{Root, Suffix, Pair, Cover}
use Rattle.goal_rows.proofs.Lists.{among_those, is_other, other_is, those_are}
use Rattle.goal_rows.proofs.OutcomesReported.{one_reported}
use Rattle.goal_rows.proofs.PairTurning.{Met, of_contest}
use Rattle.goal_rows.proofs.Roots.{cover_among, covers_are, covers_only}
use Rattle.goal_rows.proofs.SuffixRows.{all_made}

-- ---- the rows of a cover

pub pref_points_sum : (ballots : List (List ℕ)) (x y : ℕ) → add_up (prefer_points x y) ballots ≡ pref_of ballots x y
pref_points_sum ballots x y = add_up-sum_by (prefer_points x y) ballots

prefer_row : (x y : ℕ) (ballots : List (List ℕ)) → (pos 0 ≤ℤ sum_z (prefer_weight x y) ballots) ↔ (pref_of ballots y x ≤ pref_of ballots x y)
prefer_row x y ballots =
    let v = sum_z-difference (prefer_points x y) (prefer_points y x) ballots in
    let a = pref_points_sum ballots x y in
    let b = pref_points_sum ballots y x in (
      λ holds. omega (arith, ints, holds, v, a, b),
      λ level. omega (arith, ints, level, v, a, b),
    )

-- nobody of c candidates is preferred to x by more ballots than prefer x
pub record IsUnbeaten (c : ℕ) (pref : ℕ → ℕ → ℕ) (x : ℕ) : Type 0 where
  pub level : (j : ℕ) → j < c → j ≢ x → pref j x ≤ pref x j

unbeaten_by : (c x : ℕ) (ballots : List (List ℕ)) → All (λ weight. pos 0 ≤ℤ sum_z weight ballots) (cover_rows c x) → IsUnbeaten c (pref_of ballots) x
unbeaten_by c x ballots rows = record {
  level = λ j jc differ.
      let there = among_those c j (λ k. not (k == x)) jc (is_other j x differ) in
      let row = all_made (λ weight. pos 0 ≤ℤ sum_z weight ballots) (λ k. prefer_weight x k) (others c x) rows there.0 there.1 in
      let same = contained_at (others c x) j there in
      let row1 = rw same at row in
      (prefer_row x j ballots).0 row1;
}
  where
    contained_at : (xs : List ℕ) (j : ℕ) (there : Contains xs j) → get_or xs there.0 0 ≡ j
    contained_at xs j there = get_or_default xs there.0 0 j there.1 ∙ there.2

rows_where : (c x : ℕ) (ballots : List (List ℕ)) → IsUnbeaten c (pref_of ballots) x → All (λ weight. pos 0 ≤ℤ sum_z weight ballots) (cover_rows c x)
rows_where c x ballots is =
    All-map (λ weight. pos 0 ≤ℤ sum_z weight ballots) (λ k. prefer_weight x k) (others c x)
    (λ k d lt.
    let among = those_are c (get_or (others c x) k d) (λ j. not (j == x)) (Contains-get_or (others c x) k d lt) in
    (prefer_row x (get_or (others c x) k d) ballots).1 (is.level (get_or (others c x) k d) among.0 (other_is (get_or (others c x) k d) x among.1)))

pub unbeaten_exactly : (c x : ℕ) (ballots : List (List ℕ)) → All (λ weight. pos 0 ≤ℤ sum_z weight ballots) (cover_rows c x) ↔ IsUnbeaten c (pref_of ballots) x
unbeaten_exactly c x ballots = (unbeaten_by c x ballots, rows_where c x ballots)

-- ---- who is unbeaten is admitted, and no one else

-- the greater count is chosen; a tie of g goes to g, and another one to the lower number
abbrev ties_to : (ℕ → ℕ → ℕ) → ℕ → ℕ → ℕ → Bool
ties_to pref g x y = cond (y == g) (nat_lt (pref y x) (pref x y)) (nat_le (pref y x) (pref x y))

chosen_is : (t : Bool) (a b : ℕ) → cond t (nat_lt a b) (nat_le a b) ≡ true → a ≤ b
chosen_is true a b e = grind (arith, nat_tests)
chosen_is false a b e = grind (arith, nat_tests)

other_is_chosen : (t : Bool) (a b : ℕ) → cond t (nat_lt a b) (nat_le a b) ≡ false → b ≤ a
other_is_chosen true a b e = grind (arith, nat_tests)
other_is_chosen false a b e = grind (arith, nat_tests)

ties_settle : (c : ℕ) (pref : ℕ → ℕ → ℕ) (g : ℕ) → IsSettling c pref (ties_to pref g)
ties_settle c pref g = record {
  lower = λ x y _ _ e. chosen_is (y == g) (pref y x) (pref x y) e;
  higher = λ x y _ _ e. other_is_chosen (y == g) (pref y x) (pref x y) e;
}

ties_choose : (pref : ℕ → ℕ → ℕ) (g l : ℕ) → l ≢ g → pref l g ≤ pref g l → Chooses (ties_to pref g) g l
ties_choose pref g l differ level = (above, below)
  where
    above : g < l → ties_to pref g g l ≡ true
    above lt = let t : (l == g) ≡ false = grind (arith, nat_tests) in rw t (grind (arith, nat_tests))

    below : l < g → ties_to pref g l g ≡ false
    below lt = let t : (g == g) ≡ true = grind (arith, nat_tests) in rw t (grind (arith, nat_tests))

admitted_unbeaten : (c : ℕ) (pref : ℕ → ℕ → ℕ) (x : ℕ) → x < c → IsUnbeaten c pref x → IsAdmittedOutcome c pref (Some x)
admitted_unbeaten c pref x xc is = (
  ties_to pref x,
  ties_settle c pref x,
  record { stands = xc; chosen = λ y yc differ. ties_choose pref x y differ (is.level y yc differ) },
)

unbeaten_admitted : (c : ℕ) (pref : ℕ → ℕ → ℕ) (x : ℕ) → IsAdmittedOutcome c pref (Some x) → IsUnbeaten c pref x
unbeaten_admitted c pref x (s, settles, chosen) = record {
  level = λ j jc differ. elim (cases_lt x j) [
    | inl lt ↦ settles.lower x j lt jc ((chosen.chosen j jc differ).0 lt)
    | inr ge ↦
        let lt : j < x = omega (arith, differ) in
        settles.higher j x lt chosen.stands ((chosen.chosen j jc differ).1 lt)
  ];
}

-- ---- another outcome is admitted exactly where a cover's rows hold

nobody_is : (x : ℕ) → NoWinner ≡ Winner x → ⊥
nobody_is x e = cc

unbeaten_met : (p : Poll) (x : ℕ) (changes : List (ℕ × List ℕ)) → x < p.c → IsUnbeaten p.c (pref_of (after p changes).ballots) x → Met (of_contest Condorcet p NoWinner) changes
unbeaten_met p x changes xc is = (Cover x, cover_among p.c x xc, rows_where p.c x (after p changes).ballots is)

turn_met : (p : Poll) (changes : List (ℕ × List ℕ)) (o : Outcome) → IsReported Condorcet p NoWinner → (IsReported Condorcet p o → ⊥) → Admits Condorcet (after p changes) o
    → Met (of_contest Condorcet p NoWinner) changes
turn_met p changes (Winner x) is unlike (s, settles, chosen) =
    unbeaten_met p x changes chosen.stands (unbeaten_admitted p.c (pref_of (after p changes).ballots) x (s, settles, chosen))
turn_met p changes NoWinner is unlike admitted = absurd (unlike is)
turn_met p changes (Seats shares) is unlike admitted = absurd admitted

met_turns : (p : Poll) (changes : List (ℕ × List ℕ)) → IsReported Condorcet p NoWinner → Met (of_contest Condorcet p NoWinner) changes → Turns Condorcet p changes
met_turns p changes is (Root, complete, holds) = absurd complete
met_turns p changes is (Suffix suffix, complete, holds) = let only = covers_only p.c (Suffix (complete.1.0 ∷ [])) complete.1.2 in let h = only.2 in cc
met_turns p changes is (Pair g l, complete, holds) = let only = covers_only p.c (Pair g l) complete in let h = only.2 in cc
met_turns p changes is (Cover x, complete, holds) = (
  Winner x,
  λ reported. nobody_is x (one_reported Condorcet p NoWinner (Winner x) is reported),
  admitted_unbeaten p.c (pref_of (after p changes).ballots) x (covers_are p.c x complete) (unbeaten_by p.c x (after p changes).ballots holds),
)

pub cover_turning : (p : Poll) (changes : List (ℕ × List ℕ)) → IsReported Condorcet p NoWinner → Turns Condorcet p changes ↔ Met (of_contest Condorcet p NoWinner) changes
cover_turning p changes is = (λ turns. turn_met p changes turns.0 is turns.1 turns.2, met_turns p changes is)
