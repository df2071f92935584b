-- The reported outcome of plurality by the list of scores; one outcome is reported, and one number is the margin.
use Rattle.std.proofs.Common.{ℕ, List, Bool, true, false, Option, Some, None, ◌≡◌, ◌<◌, ◌+◌, ◌∙◌, length, get_or, ap, sym, refl, arith, inl, inr}
use Rattle.std.proofs.lemmas.Bool.{cases_lt}
use Rattle.ballot_form.specs.Ballots.{Poll}
use Rattle.ballot_form.specs.Scores.{borda_points, plurality_points}
use Rattle.ballot_form.specs.declared.outcome.Outcome.{Outcome}
use Rattle.ballot_form.specs.declared.outcome.Outcome.TheVariants.{Winner, NoWinner, Seats}
use Rattle.ballot_form.specs.declared.rule.Rule.{Rule}
use Rattle.ballot_form.specs.declared.rule.Rule.TheVariants.{Plurality, Borda, Condorcet, Dhondt, Irv}
use Rattle.condorcet_count.specs.Preferences.{pref_of}
use Rattle.condorcet_count.specs.Settlings.{IsChosenInAll, IsOutcomeOf, IsReportedOutcome, ties_to_lower}
use Rattle.irv_count.specs.Orders.{IsLast, IsOrderBy}
use Rattle.irv_count.proofs.Unique.{same_order}
use Rattle.score_count.specs.Winners.{AreScores, IsScoreWinner}
use Rattle.goal_rows.specs.Outcomes.{Admits, IsLowestWithGreatest, IsReported}
use Rattle.goal_rows.specs.Margins.{IsMargin}

-- who wins by the list of scores has the greatest score, and the lowest number of those
pub lowest_with_greatest : (points : List ℕ → ℕ → ℕ) (p : Poll) (scores : List ℕ) (x : ℕ) → AreScores points p scores → IsScoreWinner scores x → IsLowestWithGreatest points p x
lowest_with_greatest points p scores x are wins =
    let one_each = are.one_each in
    let stands : x < p.c = omega (arith, wins.within) in
    record {
      greatest = record {
        stands = stands;
        greatest = λ y lt. let here = are.each y lt in let best = are.each x stands in omega (arith, wins.greatest y (omega arith));
      };
      lowest = λ y lt. let here = are.each y (omega arith) in let best = are.each x stands in omega (arith, wins.lowest y lt);
    }

pub plurality_winner : (p : Poll) (scores : List ℕ) (x : ℕ) → AreScores plurality_points p scores → IsScoreWinner scores x → IsReported Plurality p (Winner x)
plurality_winner p scores x are wins = lowest_with_greatest plurality_points p scores x are wins

pub plurality_admitted : (p : Poll) (scores : List ℕ) (x : ℕ) → AreScores plurality_points p scores → IsScoreWinner scores x → Admits Plurality p (Winner x)
plurality_admitted p scores x are wins = (lowest_with_greatest plurality_points p scores x are wins).greatest

pub borda_winner : (p : Poll) (scores : List ℕ) (x : ℕ) → AreScores (borda_points p.c) p scores → IsScoreWinner scores x → IsReported Borda p (Winner x)
borda_winner p scores x are wins = lowest_with_greatest (borda_points p.c) p scores x are wins

pub borda_admitted : (p : Poll) (scores : List ℕ) (x : ℕ) → AreScores (borda_points p.c) p scores → IsScoreWinner scores x → Admits Borda p (Winner x)
borda_admitted p scores x are wins = (lowest_with_greatest (borda_points p.c) p scores x are wins).greatest

-- the last of a reported order
pub last_reported : (p : Poll) (order : List ℕ) (i : ℕ) → IsOrderBy None p order → i + 1 ≡ p.c → IsReported Irv p (Winner (get_or order i 0))
last_reported p order i by last = (order, by, (i, by.legal.whole.long ∙ sym last, refl))

pub last_admitted : (p : Poll) (order : List ℕ) (i : ℕ) → IsOrderBy None p order → i + 1 ≡ p.c → Admits Irv p (Winner (get_or order i 0))
last_admitted p order i by last = (order, by.legal, (i, by.legal.whole.long ∙ sym last, refl))

pub one_lowest : (points : List ℕ → ℕ → ℕ) (p : Poll) (x y : ℕ) → IsLowestWithGreatest points p x → IsLowestWithGreatest points p y → x ≡ y
one_lowest points p x y a b = elim (cases_lt x y) [
  | inl lt ↦ absurd (omega (arith, b.lowest x lt, a.greatest.greatest y b.greatest.stands))
  | inr ge ↦ elim (cases_lt y x) [
    | inl lt ↦ absurd (omega (arith, a.lowest y lt, b.greatest.greatest x a.greatest.stands))
    | inr le ↦ omega arith
  ]
]

-- nobody else is chosen against who is chosen in all pairs
pub one_chosen : (c : ℕ) (s : ℕ → ℕ → Bool) (x y : ℕ) → IsChosenInAll c s x → IsChosenInAll c s y → x ≡ y
one_chosen c s x y a b = elim (cases_lt x y) [
  | inl lt ↦ absurd (differ (a.chosen y b.stands (omega arith)).0 (b.chosen x a.stands (omega arith)).1 lt)
  | inr ge ↦ elim (cases_lt y x) [
    | inl lt ↦ absurd (differ (b.chosen x a.stands (omega arith)).0 (a.chosen y b.stands (omega arith)).1 lt)
    | inr le ↦ omega arith
  ]
]
  where
    differ : {k : ℕ} {n : ℕ} {t : Bool} → (k < n → t ≡ true) → (k < n → t ≡ false) → k < n → ⊥
    differ is isnt lt = let e : true ≡ false = sym (is lt) ∙ isnt lt in cc

-- two outcomes of one settling
one_outcome : (c : ℕ) (s : ℕ → ℕ → Bool) (o other : Option ℕ) → IsOutcomeOf c s o → IsOutcomeOf c s other → o ≡ other
one_outcome c s (Some x) (Some y) a b = ap Some (one_chosen c s x y a b)
one_outcome c s (Some x) None a b = absurd (b x a)
one_outcome c s None (Some y) a b = absurd (a y b)
one_outcome c s None None a b = refl

some_is : (x y : ℕ) → Some x ≡ Some y → x ≡ y
some_is x y e = cc

one_settled : (p : Poll) (o other : Option ℕ) → IsReportedOutcome p.c (pref_of p.ballots) o → IsReportedOutcome p.c (pref_of p.ballots) other → o ≡ other
one_settled p o other a b = one_outcome p.c (ties_to_lower (pref_of p.ballots)) o other a b

one_last : (order other : List ℕ) (x y : ℕ) → order ≡ other → IsLast order x → IsLast other y → x ≡ y
one_last order other x y same a b =
    let l : length order ≡ length other = ap length same in
    let e : a.0 ≡ b.0 = omega (arith, a.1, b.1) in
    sym a.2 ∙ ap (λ xs. get_or xs a.0 0) same ∙ ap (λ i. get_or other i 0) e ∙ b.2

pub one_reported : (rule : Rule) (p : Poll) (o other : Outcome) → IsReported rule p o → IsReported rule p other → o ≡ other
one_reported Plurality p (Winner x) (Winner y) a b = ap Winner (one_lowest plurality_points p x y a b)
one_reported Plurality p (Winner x) NoWinner a b = absurd b
one_reported Plurality p (Winner x) (Seats s) a b = absurd b
one_reported Plurality p NoWinner other a b = absurd a
one_reported Plurality p (Seats s) other a b = absurd a
one_reported Borda p (Winner x) (Winner y) a b = ap Winner (one_lowest (borda_points p.c) p x y a b)
one_reported Borda p (Winner x) NoWinner a b = absurd b
one_reported Borda p (Winner x) (Seats s) a b = absurd b
one_reported Borda p NoWinner other a b = absurd a
one_reported Borda p (Seats s) other a b = absurd a
one_reported Condorcet p (Winner x) (Winner y) a b = ap Winner (some_is x y (one_settled p (Some x) (Some y) a b))
one_reported Condorcet p (Winner x) NoWinner a b = absurd (b x a)
one_reported Condorcet p (Winner x) (Seats s) a b = absurd b
one_reported Condorcet p NoWinner (Winner y) a b = absurd (a y b)
one_reported Condorcet p NoWinner NoWinner a b = refl
one_reported Condorcet p NoWinner (Seats s) a b = absurd b
one_reported Condorcet p (Seats s) other a b = absurd a
one_reported (Dhondt seats) p (Seats s) (Seats t) a b = ap Seats (a ∙ sym b)
one_reported (Dhondt seats) p (Seats s) (Winner y) a b = absurd b
one_reported (Dhondt seats) p (Seats s) NoWinner a b = absurd b
one_reported (Dhondt seats) p (Winner x) other a b = absurd a
one_reported (Dhondt seats) p NoWinner other a b = absurd a
one_reported Irv p (Winner x) (Winner y) a b = ap Winner (one_last a.0 b.0 x y (same_order None p a.0 b.0 a.1 b.1) a.2 b.2)
one_reported Irv p (Winner x) NoWinner a b = absurd b
one_reported Irv p (Winner x) (Seats s) a b = absurd b
one_reported Irv p NoWinner other a b = absurd a
one_reported Irv p (Seats s) other a b = absurd a

pub one_margin : (rule : Rule) (p : Poll) (k other : ℕ) → IsMargin rule p k → IsMargin rule p other → k ≡ other
one_margin rule p k other a b = elim (cases_lt k other) [
  | inl lt ↦ absurd (b.least a.turned.0 a.turned.1 (omega (arith, a.turned.2)) a.turned.3)
  | inr ge ↦ elim (cases_lt other k) [
    | inl lt ↦ absurd (a.least b.turned.0 b.turned.1 (omega (arith, b.turned.2)) b.turned.3)
    | inr le ↦ omega arith
  ]
]
