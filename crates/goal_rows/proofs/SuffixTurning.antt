-- Under instant runoff another candidate wins some legal order exactly where the rows of a suffix of all candidates hold.
use Rattle.std.proofs.Common.{ℕ, suc, List, [], ◌∷◌, true, false, ◌≡◌, ◌≢◌, ◌<◌, ◌+◌, ◌↔◌, cond, length, sym, subst, arith, All}
use Rattle.std.specs.Prelude.{◌==◌}
use Rattle.std.proofs.lemmas.List.Elements.{All-cons}
use Rattle.ballot_form.specs.Alterations.{IsAlteration, IsAlterationFrom, after, after_from}
use Rattle.ballot_form.specs.Ballots.{IsPoll, IsValidBallot, Poll}
use Rattle.ballot_form.specs.declared.outcome.Outcome.{Outcome}
use Rattle.ballot_form.specs.declared.outcome.Outcome.TheVariants.{Winner, NoWinner, Seats}
use Rattle.ballot_form.specs.declared.rule.Rule.TheVariants.{Irv}
use Rattle.irv_count.specs.Orders.{IsOrder}
use Rattle.goal_rows.specs.Margins.{Turns}
use Rattle.goal_rows.specs.Outcomes.{Admits, IsReported}
use Rattle.goal_rows.specs.declared.goals.Goal.TheVariants.{Root, Suffix, Pair, Cover}
use Rattle.goal_rows.proofs.OutcomesReported.{one_reported}
use Rattle.goal_rows.proofs.PairTurning.{Met, of_contest}
use Rattle.goal_rows.proofs.Roots.{last_among, lasts_are, lasts_only}
use Rattle.goal_rows.proofs.SuffixRows.{legal_rows}

-- the ballots after an alteration are valid
after_valid : (c n i low : ℕ) (ballots : List (List ℕ)) (changes : List (ℕ × List ℕ)) → All (IsValidBallot c) ballots → IsAlterationFrom c low n changes
    → All (IsValidBallot c) (after_from i ballots changes)
after_valid c n i low [] changes valid is = λ k d lt. absurd (omega (arith, lt))
after_valid c n i low (ballot ∷ ballots) [] valid is = valid
after_valid c n i low (ballot ∷ ballots) (change ∷ changes) valid is =
    let rest : All (IsValidBallot c) ballots = λ k d lt. valid (suc k) d (omega (arith, lt)) in
    let replaced = after_valid c n (i + 1) (change.0 + 1) ballots changes rest is.3 in
    let kept = after_valid c n (i + 1) low ballots (change ∷ changes) rest is in
    elim (change.0 == i) as (λ t. All (IsValidBallot c) (cond t (change.1 ∷ after_from (i + 1) ballots changes) (ballot ∷ after_from (i + 1) ballots (change ∷ changes)))) [
      | true ↦ All-cons (IsValidBallot c) change.1 (after_from (i + 1) ballots changes) is.2 replaced
      | false ↦ All-cons (IsValidBallot c) ballot (after_from (i + 1) ballots (change ∷ changes)) (valid 0 ballot (omega arith)) kept
    ]

altered_valid : (p : Poll) (changes : List (ℕ × List ℕ)) → IsPoll p → IsAlteration p changes → All (IsValidBallot p.c) (after p changes).ballots
altered_valid p changes poll is = after_valid p.c (length p.ballots) 1 1 p.ballots changes poll.valid is

winner_is : (x y : ℕ) → Winner x ≡ Winner y → x ≡ y
winner_is x y e = cc

turn_met : (p : Poll) (x : ℕ) (changes : List (ℕ × List ℕ)) (o : Outcome) → IsPoll p → IsAlteration p changes → IsReported Irv p (Winner x) → (IsReported Irv p o → ⊥)
    → Admits Irv (after p changes) o → Met (of_contest Irv p (Winner x)) changes
turn_met p x changes (Winner y) poll alters is unlike (order, legal, last) =
    let whole : IsOrder p.c order = legal.whole in
    let long = whole.long in
    let below : y < p.c = subst (λ z. z < p.c) last.2 (whole.below last.0 (let l = last.1 in omega arith)) in
    let differ : y ≢ x = λ same. unlike (subst (λ z. IsReported Irv p (Winner z)) (sym same) is) in
    (Suffix order, (whole, (y, last, last_among p.c x y below differ)), (legal_rows (after p changes) order (altered_valid p changes poll alters) whole).0 legal)
turn_met p x changes NoWinner poll alters is unlike admitted = absurd admitted
turn_met p x changes (Seats shares) poll alters is unlike admitted = absurd admitted

met_turns : (p : Poll) (x : ℕ) (changes : List (ℕ × List ℕ)) → IsPoll p → IsAlteration p changes → IsReported Irv p (Winner x) → Met (of_contest Irv p (Winner x)) changes
    → Turns Irv p changes
met_turns p x changes poll alters is (Root, complete, holds) = absurd complete
met_turns p x changes poll alters is (Pair g l, complete, holds) = let only = lasts_only p.c x (Pair g l) complete in let h = only.3 in cc
met_turns p x changes poll alters is (Cover y, complete, holds) = let only = lasts_only p.c x (Cover y) complete in let h = only.3 in cc
met_turns p x changes poll alters is (Suffix order, (whole, (y, last, there)), holds) =
    let other = lasts_are p.c x y there in (
      Winner y,
      λ reported. other.1 (winner_is y x (one_reported Irv p (Winner y) (Winner x) reported is)),
      (order, (legal_rows (after p changes) order (altered_valid p changes poll alters) whole).1 holds, last),
    )

pub suffix_turning : (p : Poll) (x : ℕ) (changes : List (ℕ × List ℕ)) → IsPoll p → IsAlteration p changes → IsReported Irv p (Winner x)
    → Turns Irv p changes ↔ Met (of_contest Irv p (Winner x)) changes
suffix_turning p x changes poll alters is = (λ turns. turn_met p x changes turns.0 poll alters is turns.1 turns.2, met_turns p x changes poll alters is)
