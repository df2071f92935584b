-- A pair that isn't brought level by so many replacements is cut beyond them by the multiplier 1.
use Rattle.std.proofs.Common.{ℕ, zero, suc, List, [], ◌∷◌, All, ◌≡◌, ◌<◌, ◌≤◌, ◌+◌, ◌-◌, length, map, min, ap, sym, subst, refl, inl, inr, arith}
use Rattle.std.specs.Prelude.{ℤ, pos, ◌+ℤ◌, ◌-ℤ◌, ◌*ℤ◌, ◌<ℤ◌}
use Rattle.std.proofs.lemmas.Int.{ints}
use Rattle.std.proofs.lemmas.Bool.{cases_lt}
use Rattle.mov_base.specs.Sums.{add_up, most, sum_z}
use Rattle.mov_base.proofs.Signed.{sum_z-difference}
use Rattle.ballot_form.specs.Ballots.{IsValidBallot, Poll}
use Rattle.goal_rows.specs.Elections.{Election}
use Rattle.goal_rows.specs.Goals.{IsElection, IsRootOf, gainer_points, loser_points, pair_weight}
use Rattle.goal_rows.specs.Nodes.{Kept, kept_row, without_limits}
use Rattle.goal_rows.specs.Pairs.{gain_of}
use Rattle.goal_rows.specs.declared.goals.Goal.TheVariants.{Pair}
use Rattle.goal_rows.proofs.PairPoints.{pair_points}
use Rattle.dual_bound.specs.CutTest.{AreGains, Cuts, CutsKept, IsGain}
use Rattle.witness_build.specs.Witnesses.{PairReaches, pair_deficit, pair_gains}

-- ---- the gains of the cut test are those of the pair

-- the row of a pair, with the multiplier 1
abbrev one_row_of : (List ℕ → ℕ) → (List ℕ → ℕ) → List (List ℕ) → List (ℕ × Kept)
one_row_of plus minus start = (1, kept_row start (λ ballot. pos (plus ballot) -ℤ pos (minus ballot))) ∷ []

-- no ballot counts more for the gainer than the gainer alone, which counts nothing for the loser
record AreBest (p : Poll) (top g : ℕ) (plus minus : List ℕ → ℕ) : Type 0 where
  pub high : (ballot : List ℕ) → plus ballot ≤ top
  pub alone : plus (g ∷ []) ≡ top
  pub none : minus (g ∷ []) ≡ 0
  pub valid : IsValidBallot p.c (g ∷ [])

gain_is : (p : Poll) (top g : ℕ) (plus minus : List ℕ → ℕ) (start : List (List ℕ)) (ballot : List ℕ) → AreBest p top g plus minus
    → IsGain p (one_row_of plus minus start) ballot (gain_of top plus minus ballot)
gain_is p top g plus minus start ballot best =
    let high = best.high ballot in
    let alone = best.alone in
    let none = best.none in
    let is : pos ((top + minus ballot) - plus ballot) ≡ (pos top +ℤ pos (minus ballot)) -ℤ pos (plus ballot) = omega (arith, ints) in
    record {
      above = λ new ok. let more = best.high new in omega (arith, ints);
      reached = inr (g ∷ [], best.valid, omega (arith, ints));
    }

gains_are : (p : Poll) (top g : ℕ) (plus minus : List ℕ → ℕ) (start ballots : List (List ℕ)) → AreBest p top g plus minus
    → AreGains p (one_row_of plus minus start) ballots (map (gain_of top plus minus) ballots)
gains_are p top g plus minus start [] best = tt
gains_are p top g plus minus start (ballot ∷ ballots) best =
    (gain_is p top g plus minus start ballot best, gains_are p top g plus minus start ballots best)

alone_valid : (c g : ℕ) → g < c → IsValidBallot c (g ∷ [])
alone_valid c g lt = record { below = below; distinct = λ i j d less within. absurd (omega arith) }
  where
    below : All (λ x. x < c) (g ∷ [])
    below zero d within = lt
    below (suc i) d within = absurd (omega arith)

-- ---- what isn't reached is cut

below_zero : (value : ℤ) (plus minus gained : ℕ) → value ≡ pos plus -ℤ pos minus → gained < minus - plus
    → ((pos 1 *ℤ value) +ℤ pos gained) <ℤ pos 0
below_zero value plus minus gained is less = omega (arith, ints, is, less)

-- a pair that isn't brought level by one fewer is cut at k
pub short_is_cut : (e : Election) (g l k : ℕ) → IsElection e → IsRootOf e (Pair g l) → suc k ≤ length e.poll.ballots + 1
    → (PairReaches e g l k → ⊥) → Cuts e (without_limits (Pair g l)) (1 ∷ []) (suc k)
short_is_cut e g l k is root within short =
    let points = pair_points e g l is root in
    let top = gainer_points e g l (g ∷ []) in
    let plus = gainer_points e g l in
    let minus = loser_points e g l in
    let weighed = one_row_of plus minus e.poll.ballots in
    let best : AreBest e.poll top g plus minus = record { high = points.high; alone = refl; none = points.none; valid = alone_valid e.poll.c g root.1 } in
    let gains = gains_are e.poll top g plus minus e.poll.ballots e.poll.ballots best in
    let less : most k (pair_gains e g l) < pair_deficit e g l = (elim (cases_lt (most k (pair_gains e g l)) (pair_deficit e g l)) [
      | inl lt ↦ lt
      | inr ge ↦ absurd (short ge)
    ]) in
    let weight = sum_z-difference plus minus e.poll.ballots in
    let step : suc k - 1 ≡ k = omega arith in
    let here : most (suc k - 1) (pair_gains e g l) ≡ most k (pair_gains e g l) = ap (λ n. most n (pair_gains e g l)) step in
    let low = below_zero (sum_z (pair_weight e g l) e.poll.ballots) (add_up plus e.poll.ballots) (add_up minus e.poll.ballots)
    (most (suc k - 1) (pair_gains e g l)) weight (omega (arith, less, here)) in
    let at : min (suc k) (length e.poll.ballots + 1) ≡ suc k = omega arith in
    subst (CutsKept e.poll weighed) (sym at) (inr (pair_gains e g l, gains, omega (arith, ints, low)))
