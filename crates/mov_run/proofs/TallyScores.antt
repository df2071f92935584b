-- From the scores to their lines.
use Rattle.std.proofs.Common.{ℕ, List, ◌≡◌, ◌++◌, ◌∙◌, length, refl, sym, ap, subst, arith}
use Rattle.std.specs.Prelude.{Result, OnOk, slice_index}
use Rattle.ballot_form.specs.Ballots.{Poll}
use Rattle.ballot_form.specs.Scores.{borda_points, plurality_points, score_of}
use Rattle.ballot_form.specs.declared.outcome.Outcome.TheVariants.{Winner}
use Rattle.ballot_form.specs.declared.rule.Rule.TheVariants.{Borda, Plurality}
use Rattle.score_count.specs.Winners.{AreScores, IsScoreWinner}
use Rattle.goal_rows.proofs.OutcomesReported.{borda_winner, plurality_winner}
use Rattle.mov_run.specs.Tally.{AddsCount, IsCounted, reported_text, score_text, scores_text}
use Rattle.mov_run.proofs.Ranges.{adds_both, each_same}

score_same : (f h : ℕ → ℕ) (x : ℕ) → f x ≡ h x → score_text f x ≡ score_text h x
score_same f h x same = rw same refl

scores_same : (points : List ℕ → ℕ → ℕ) (p : Poll) (scores : List ℕ) → AreScores points p scores
    → scores_text (length scores) (λ x. slice_index scores x) ≡ scores_text p.c (score_of points p.ballots)
scores_same points p scores are =
    ap (λ c. scores_text c (λ x. slice_index scores x)) are.one_each ∙ each_same (score_text (λ x. slice_index scores x)) (score_text (score_of points p.ballots)) 0 p.c (λ x lo hi. score_same (λ y. slice_index scores y) (score_of points p.ballots) x (are.each x (omega (arith, hi))))

plurality_counted : (p : Poll) (scores text : List ℕ) (x : ℕ) → AreScores plurality_points p scores → IsScoreWinner scores x
    → text ≡ scores_text (length scores) (λ y. slice_index scores y) ++ reported_text (Winner x) → IsCounted Plurality p text
plurality_counted p scores text x are wins is = record {
  count = scores_text (length scores) (λ y. slice_index scores y);
  outcome = Winner x;
  counted = scores_same plurality_points p scores are;
  reported = plurality_winner p scores x are wins;
  lines = is;
}

borda_counted : (p : Poll) (scores text : List ℕ) (x : ℕ) → AreScores (borda_points p.c) p scores → IsScoreWinner scores x
    → text ≡ scores_text (length scores) (λ y. slice_index scores y) ++ reported_text (Winner x) → IsCounted Borda p text
borda_counted p scores text x are wins is = record {
  count = scores_text (length scores) (λ y. slice_index scores y);
  outcome = Winner x;
  counted = scores_same (borda_points p.c) p scores are;
  reported = borda_winner p scores x are wins;
  lines = is;
}

pub plurality_added : {T E : Type 0} (p : Poll) (list scores : List ℕ) (x : ℕ) (old mid new : List ℕ) (r : Result T E) → AreScores plurality_points p list → scores ≡ list → IsScoreWinner scores x
    → mid ≡ old ++ scores_text (length scores) (λ y. slice_index scores y) → OnOk r (new ≡ mid ++ reported_text (Winner x)) → OnOk r (AddsCount Plurality p old new)
plurality_added p list scores x old mid new r are same wins first last =
    adds_both Plurality p (scores_text (length scores) (λ y. slice_index scores y)) (reported_text (Winner x)) old mid new r
    (plurality_counted p scores _ x (subst (λ xs. AreScores plurality_points p xs) (sym same) are) wins refl) first last

pub borda_added : {T E : Type 0} (p : Poll) (list scores : List ℕ) (x : ℕ) (old mid new : List ℕ) (r : Result T E) → AreScores (borda_points p.c) p list → scores ≡ list → IsScoreWinner scores x
    → mid ≡ old ++ scores_text (length scores) (λ y. slice_index scores y) → OnOk r (new ≡ mid ++ reported_text (Winner x)) → OnOk r (AddsCount Borda p old new)
borda_added p list scores x old mid new r are same wins first last =
    adds_both Borda p (scores_text (length scores) (λ y. slice_index scores y)) (reported_text (Winner x)) old mid new r
    (borda_counted p scores _ x (subst (λ xs. AreScores (borda_points p.c) p xs) (sym same) are) wins refl) first last
