-- From the counts of pairs to their lines.
use Rattle.std.proofs.Common.{ℕ, List, Option, Some, None, ◌≡◌, ◌++◌, ◌∙◌, ◌+◌, ◌-◌, refl, ap, arith}
use Rattle.std.specs.Prelude.{Result, OnOk}
use Rattle.ballot_form.specs.Ballots.{Poll}
use Rattle.ballot_form.specs.declared.rule.Rule.TheVariants.{Condorcet}
use Rattle.condorcet_count.specs.Preferences.{ArePrefs, Table, count_in, pref_of}
use Rattle.condorcet_count.specs.Settlings.{IsReportedOutcome}
use Rattle.goal_rows.specs.Outcomes.{IsReported}
use Rattle.mov_run.specs.Tally.{condorcet_outcome_of, AddsCount, IsCounted, pair_text, pairs_of, pairs_text, reported_text}
use Rattle.mov_run.proofs.Ranges.{adds_both, each_same}

pair_same : (f h : ℕ → ℕ → ℕ) (x y : ℕ) → f x y ≡ h x y → f y x ≡ h y x → pair_text f x y ≡ pair_text h x y
pair_same f h x y one other = rw (one, other) refl

pairs_same : (p : Poll) (m : Table) → ArePrefs p m → pairs_text m.c (count_in m) ≡ pairs_text p.c (pref_of p.ballots)
pairs_same p m are =
    ap (λ c. pairs_text c (count_in m)) are.candidates
    ∙ each_same (pairs_of p.c (count_in m)) (pairs_of p.c (pref_of p.ballots)) 0 p.c (λ x lo hi. each_same (pair_text (count_in m) x) (pair_text (pref_of p.ballots) x) (x + 1) (p.c - (x + 1)) (λ y lo' hi'.
    pair_same (count_in m) (pref_of p.ballots) x y (are.each x y (omega (arith, hi)) (omega (arith, hi'))) (are.each y x (omega (arith, hi')) (omega (arith, hi)))))

reported_of : (p : Poll) (chosen : Option ℕ) → IsReportedOutcome p.c (pref_of p.ballots) chosen → IsReported Condorcet p (condorcet_outcome_of chosen)
reported_of p (Some x) is = is
reported_of p None is = is

pairs_counted : (p : Poll) (m : Table) (chosen : Option ℕ) (text : List ℕ) → ArePrefs p m → IsReportedOutcome p.c (pref_of p.ballots) chosen
    → text ≡ pairs_text m.c (count_in m) ++ reported_text (condorcet_outcome_of chosen) → IsCounted Condorcet p text
pairs_counted p m chosen text are is lines = record {
  count = pairs_text m.c (count_in m);
  outcome = condorcet_outcome_of chosen;
  counted = pairs_same p m are;
  reported = reported_of p chosen is;
  lines = lines;
}

pub pairs_added : {T E : Type 0} (p : Poll) (m : Table) (chosen : Option ℕ) (old mid new : List ℕ) (r : Result T E) → ArePrefs p m → IsReportedOutcome p.c (pref_of p.ballots) chosen
    → mid ≡ old ++ pairs_text m.c (count_in m) → OnOk r (new ≡ mid ++ reported_text (condorcet_outcome_of chosen)) → OnOk r (AddsCount Condorcet p old new)
pairs_added p m chosen old mid new r are is first last =
    adds_both Condorcet p (pairs_text m.c (count_in m)) (reported_text (condorcet_outcome_of chosen)) old mid new r (pairs_counted p m chosen _ are is refl) first last
