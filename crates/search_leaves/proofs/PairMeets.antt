-- The bound of a pair with the multiplier 1 is met: so many replacements bring the gainer level.
use Rattle.std.proofs.Common.{◌≡◌, ℕ, zero, suc, ◌+◌, ◌-◌, ◌<◌, ◌≤◌, ◌==◌, List, [], ◌∷◌, All, cond, true, false, max, min, length, map, sym, ap, subst, inl, inr, arith}
use Rattle.std.specs.Prelude.{ℤ, pos, ◌+ℤ◌, ◌-ℤ◌, ◌*ℤ◌, ◌<ℤ◌}
use Rattle.std.proofs.lemmas.Bool.{cases_lt}
use Rattle.std.proofs.lemmas.Bool.Decides.{nat_tests}
use Rattle.std.proofs.lemmas.Int.{ints}
use Rattle.mov_base.specs.Sums.{add_up, most, sum_z}
use Rattle.mov_base.proofs.Signed.{sum_z-difference}
use Rattle.ballot_form.specs.Alterations.{IsAlteration, IsAlterationFrom, after, after_from}
use Rattle.ballot_form.specs.Ballots.{IsValidBallot, Poll}
use Rattle.goal_rows.specs.Elections.{Election}
use Rattle.goal_rows.specs.Goals.{Holds, IsElection, IsRootOf, gainer_points, loser_points, pair_weight}
use Rattle.goal_rows.specs.Nodes.{Kept, kept_row, without_limits}
use Rattle.goal_rows.specs.Pairs.{gain_of}
use Rattle.goal_rows.specs.declared.goals.Goal.TheVariants.{Pair}
use Rattle.goal_rows.proofs.PairPoints.{pair_points}
use Rattle.goal_rows.proofs.PairTurning.{pair_row}
use Rattle.dual_bound.specs.CutTest.{AreGains, Cuts, CutsKept, IsBound, IsGain}
use Rattle.witness_build.specs.Witnesses.{pair_deficit, pair_gains}

-- the gainer alone counts `top` for the gainer and nothing for the loser, and no ballot counts more for the gainer
record AreBest (p : Poll) (g : ℕ) (plus minus : List ℕ → ℕ) : Type 0 where
  pub high : (ballot : List ℕ) → plus ballot ≤ plus (g ∷ [])
  pub none : minus (g ∷ []) ≡ 0
  pub valid : IsValidBallot p.c (g ∷ [])

-- ---- the largest gains are reached by so many replacements

-- of the ballots from i on, at most k with numbers from j to n are replaced, which bring the gainer closer by `gained`
record Bring (p : Poll) (plus minus : List ℕ → ℕ) (ballots : List (List ℕ)) (i j n k gained : ℕ) : Type 0 where
  pub changes : List (ℕ × List ℕ)
  pub are : IsAlterationFrom p.c j n changes
  pub few : length changes ≤ k
  pub closer : add_up minus (after_from i ballots changes) + (add_up plus ballots + gained) ≤ add_up plus (after_from i ballots changes) + add_up minus ballots

none_brought : (p : Poll) (plus minus : List ℕ → ℕ) (ballots : List (List ℕ)) (i j n k : ℕ) → Bring p plus minus ballots i j n k 0
none_brought p plus minus [] i j n k = record { changes = []; are = tt; few = omega arith; closer = omega arith }
none_brought p plus minus (ballot ∷ ballots) i j n k = record { changes = []; are = tt; few = omega arith; closer = omega arith }

-- a later change leaves the first ballot
later : (p : Poll) (plus minus : List ℕ → ℕ) (ballot : List ℕ) (ballots : List (List ℕ)) (i j n k gained : ℕ) → j ≤ i
    → Bring p plus minus ballots (i + 1) (i + 1) n k gained → Bring p plus minus (ballot ∷ ballots) i j n k gained
later p plus minus ballot ballots i j n k gained le rest = by rest.changes rest.are rest.few rest.closer
  where
    by : (changes : List (ℕ × List ℕ)) → IsAlterationFrom p.c (i + 1) n changes → length changes ≤ k
        → add_up minus (after_from (i + 1) ballots changes) + (add_up plus ballots + gained) ≤ add_up plus (after_from (i + 1) ballots changes) + add_up minus ballots
        → Bring p plus minus (ballot ∷ ballots) i j n k gained
    by [] are few closer = record {
      changes = [];
      are = tt;
      few = few;
      closer = unchanged ballots closer;
    }
      where
        unchanged : (bs : List (List ℕ)) → add_up minus (after_from (i + 1) bs []) + (add_up plus bs + gained) ≤ add_up plus (after_from (i + 1) bs []) + add_up minus bs
            → add_up minus (ballot ∷ bs) + (add_up plus (ballot ∷ bs) + gained) ≤ add_up plus (ballot ∷ bs) + add_up minus (ballot ∷ bs)
        unchanged [] closer = omega (arith, closer)
        unchanged (b ∷ bs) closer = omega (arith, closer)
    by (change ∷ changes) are few closer =
        let from = are.0 in
        let off : (change.0 == i) ≡ false = grind (arith, nat_tests) in
        let is : after_from i (ballot ∷ ballots) (change ∷ changes) ≡ ballot ∷ after_from (i + 1) ballots (change ∷ changes) =
        ap (λ b. cond b (change.1 ∷ after_from (i + 1) ballots changes) (ballot ∷ after_from (i + 1) ballots (change ∷ changes))) off in
        let m = ap (add_up minus) is in
        let q = ap (add_up plus) is in
        record {
          changes = change ∷ changes;
          are = (omega (arith, from, le), are.1, are.2, are.3);
          few = few;
          closer = omega (arith, closer, m, q);
        }

-- the first ballot is replaced by the gainer alone, and so many of the later ones
replaced : (p : Poll) (g : ℕ) (plus minus : List ℕ → ℕ) (ballot : List ℕ) (ballots : List (List ℕ)) (i j n k gained : ℕ) → AreBest p g plus minus → j ≤ i → i ≤ n
    → Bring p plus minus ballots (i + 1) (i + 1) n k gained → Bring p plus minus (ballot ∷ ballots) i j n (suc k) (gain_of (plus (g ∷ [])) plus minus ballot + gained)
replaced p g plus minus ballot ballots i j n k gained best le within rest =
    let on : (i == i) ≡ true = grind (arith, nat_tests) in
    let high = best.high ballot in
    let none = best.none in
    let closer = rest.closer in
    let is : after_from i (ballot ∷ ballots) ((i, g ∷ []) ∷ rest.changes) ≡ (g ∷ []) ∷ after_from (i + 1) ballots rest.changes =
    ap (λ b. cond b ((g ∷ []) ∷ after_from (i + 1) ballots rest.changes) (ballot ∷ after_from (i + 1) ballots ((i, g ∷ []) ∷ rest.changes))) on in
    let m = ap (add_up minus) is in
    let q = ap (add_up plus) is in
    record {
      changes = (i, g ∷ []) ∷ rest.changes;
      are = (le, within, best.valid, rest.are);
      few = omega (arith, rest.few);
      closer = omega (arith, closer, m, q, high, none);
    }

most_brought : (p : Poll) (g : ℕ) (plus minus : List ℕ → ℕ) (ballots : List (List ℕ)) (i j n k : ℕ) → AreBest p g plus minus → j ≤ i → i + length ballots ≤ n + 1
    → Bring p plus minus ballots i j n k (most k (map (gain_of (plus (g ∷ [])) plus minus) ballots))
most_brought p g plus minus [] i j n k best le within = none_brought p plus minus [] i j n k
most_brought p g plus minus (ballot ∷ ballots) i j n zero best le within = none_brought p plus minus (ballot ∷ ballots) i j n zero
most_brought p g plus minus (ballot ∷ ballots) i j n (suc k) best le within =
    let top = plus (g ∷ []) in
    let gain = gain_of top plus minus ballot in
    let gains = map (gain_of top plus minus) ballots in
    let one = replaced p g plus minus ballot ballots i j n k (most k gains) best le (omega (arith, within)) (most_brought p g plus minus ballots (i + 1) (i + 1) n k best (omega arith) (omega (arith, within))) in
    let other = later p plus minus ballot ballots i j n (suc k) (most (suc k) gains) le (most_brought p g plus minus ballots (i + 1) (i + 1) n (suc k) best (omega arith) (omega (arith, within))) in
    elim (cases_lt (gain + most k gains) (most (suc k) gains)) [
      | inl less ↦ let is : most (suc k) gains ≡ max (gain + most k gains) (most (suc k) gains) = omega (arith, less) in subst (Bring p plus minus (ballot ∷ ballots) i j n (suc k)) is other
      | inr more ↦ let is : gain + most k gains ≡ max (gain + most k gains) (most (suc k) gains) = omega (arith, more) in subst (Bring p plus minus (ballot ∷ ballots) i j n (suc k)) is one
    ]

-- ---- what isn't reached is cut

-- the row of a pair, with the multiplier 1
abbrev one_row_of : (List ℕ → ℕ) → (List ℕ → ℕ) → List (List ℕ) → List (ℕ × Kept)
one_row_of plus minus start = (1, kept_row start (λ ballot. pos (plus ballot) -ℤ pos (minus ballot))) ∷ []

gain_is : (p : Poll) (g : ℕ) (plus minus : List ℕ → ℕ) (start : List (List ℕ)) (ballot : List ℕ) → AreBest p g plus minus
    → IsGain p (one_row_of plus minus start) ballot (gain_of (plus (g ∷ [])) plus minus ballot)
gain_is p g plus minus start ballot best =
    let high = best.high ballot in
    let none = best.none in
    let is : pos ((plus (g ∷ []) + minus ballot) - plus ballot) ≡ (pos (plus (g ∷ [])) +ℤ pos (minus ballot)) -ℤ pos (plus ballot) = omega (arith, ints, high) in
    record {
      above = λ new ok. let more = best.high new in omega (arith, ints, is, more);
      reached = inr (g ∷ [], best.valid, omega (arith, ints, is, none));
    }

gains_are : (p : Poll) (g : ℕ) (plus minus : List ℕ → ℕ) (start ballots : List (List ℕ)) → AreBest p g plus minus
    → AreGains p (one_row_of plus minus start) ballots (map (gain_of (plus (g ∷ [])) plus minus) ballots)
gains_are p g plus minus start [] best = tt
gains_are p g plus minus start (ballot ∷ ballots) best = (gain_is p g plus minus start ballot best, gains_are p g plus minus start ballots best)

alone_valid : (c g : ℕ) → g < c → IsValidBallot c (g ∷ [])
alone_valid c g lt = record { below = below; distinct = λ i j d less within. absurd (omega arith) }
  where
    below : All (λ x. x < c) (g ∷ [])
    below zero d within = lt
    below (suc i) d within = absurd (omega arith)

below_zero : (value : ℤ) (plus minus gained : ℕ) → value ≡ pos plus -ℤ pos minus → gained < minus - plus → ((pos 1 *ℤ value) +ℤ pos gained) <ℤ pos 0
below_zero value plus minus gained is less = omega (arith, ints, is, less)

best_of : (e : Election) (g l : ℕ) → IsElection e → IsRootOf e (Pair g l) → AreBest e.poll g (gainer_points e g l) (loser_points e g l)
best_of e g l is root =
    let points = pair_points e g l is root in
    record { high = points.high; none = points.none; valid = alone_valid e.poll.c g root.1 }

short_is_cut : (e : Election) (g l k : ℕ) → IsElection e → IsRootOf e (Pair g l) → k ≤ length e.poll.ballots → most k (pair_gains e g l) < pair_deficit e g l
    → Cuts e (without_limits (Pair g l)) (1 ∷ []) (k + 1)
short_is_cut e g l k is root within less =
    let plus = gainer_points e g l in
    let minus = loser_points e g l in
    let weighed = one_row_of plus minus e.poll.ballots in
    let gains = gains_are e.poll g plus minus e.poll.ballots e.poll.ballots (best_of e g l is root) in
    let weight = sum_z-difference plus minus e.poll.ballots in
    let step : k + 1 - 1 ≡ k = omega arith in
    let here : most (k + 1 - 1) (pair_gains e g l) ≡ most k (pair_gains e g l) = ap (λ n. most n (pair_gains e g l)) step in
    let low = below_zero (sum_z (pair_weight e g l) e.poll.ballots) (add_up plus e.poll.ballots) (add_up minus e.poll.ballots)
    (most (k + 1 - 1) (pair_gains e g l)) weight (omega (arith, less, here)) in
    let at : min (k + 1) (length e.poll.ballots + 1) ≡ k + 1 = omega (arith, within) in
    subst (CutsKept e.poll weighed) (sym at) (inr (pair_gains e g l, gains, omega (arith, ints, low)))

-- ---- so the bound is met

-- an alteration of at most b replacements after which the pair holds
pub record IsMetWithin (e : Election) (g l b : ℕ) : Type 0 where
  pub changes : List (ℕ × List ℕ)
  pub are : IsAlteration e.poll changes
  pub holds : Holds e (Pair g l) (after e.poll changes).ballots
  pub few : length changes ≤ b

met_where_reached : (e : Election) (g l b : ℕ) → IsElection e → IsRootOf e (Pair g l) → pair_deficit e g l ≤ most b (pair_gains e g l) → IsMetWithin e g l b
met_where_reached e g l b is root enough =
    let brought = most_brought e.poll g (gainer_points e g l) (loser_points e g l) e.poll.ballots 1 1 (length e.poll.ballots) b (best_of e g l is root) (omega arith) (omega arith) in
    let closer = brought.closer in
    record {
      changes = brought.changes;
      are = brought.are;
      holds = (pair_row e g l (after e.poll brought.changes).ballots).1 (omega (arith, closer, enough));
      few = brought.few;
    }

pub bound_is_met : (e : Election) (g l b : ℕ) → IsElection e → IsRootOf e (Pair g l) → IsBound e (without_limits (Pair g l)) (1 ∷ []) b → b ≤ length e.poll.ballots → IsMetWithin e g l b
bound_is_met e g l b is root bound within = elim (cases_lt (most b (pair_gains e g l)) (pair_deficit e g l)) [
  | inl short ↦ absurd (omega (arith, bound.greatest (b + 1) (omega (arith, within)) (short_is_cut e g l b is root within short)))
  | inr enough ↦ met_where_reached e g l b is root enough
]
