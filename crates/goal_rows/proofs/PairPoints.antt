-- What ballots count for the gainer and the loser of a pair, under each rule: how much at most, and what the gainer
-- alone counts.
use Rattle.std.proofs.Common.{◌≡◌, ◌≢◌, ℕ, zero, suc, ◌+◌, ◌-◌, ◌≤◌, ◌==◌, List, [], ◌∷◌, Bool, true, false, cond, map, length, Option, Some, None, refl, arith}
use Rattle.std.specs.Prelude.{option_map, slice_index}
use Rattle.std.specs.List.{range_with_len}
use Rattle.std.proofs.lemmas.Bool.Decides.{nat_tests}
use Rattle.std.proofs.lemmas.List.FromFn.{length-range_with_len}
use Rattle.std.proofs.lemmas.List.Sums.{count_by-le-length}
use Rattle.ballot_form.specs.Ballots.{IsPoll, Poll}
use Rattle.ballot_form.specs.Rules.{IsRule}
use Rattle.ballot_form.specs.Scores.{borda_points, is_first, place_of, points_at}
use Rattle.ballot_form.specs.declared.limits.TheConstants.{MOST_SEATS}
use Rattle.ballot_form.specs.declared.outcome.Outcome.{Outcome}
use Rattle.ballot_form.specs.declared.outcome.Outcome.TheVariants.{Winner, NoWinner, Seats}
use Rattle.ballot_form.specs.declared.rule.Rule.{Rule}
use Rattle.ballot_form.specs.declared.rule.Rule.TheVariants.{Plurality, Borda, Condorcet, Dhondt, Irv}
use Rattle.condorcet_count.specs.Preferences.{prefers}
use Rattle.dhondt_seats.specs.Seats.{before, reported_seats, seats_of, votes_of}
use Rattle.std.specs.Prelude.{nat_lt}
use Rattle.goal_rows.specs.Elections.{Election}
use Rattle.goal_rows.specs.Goals.{HasPairs, IsElection, IsRootOf, gainer_points, loser_points}
use Rattle.goal_rows.specs.Outcomes.{IsReported}
use Rattle.goal_rows.specs.declared.goals.Goal.{Goal}
use Rattle.goal_rows.specs.declared.goals.Goal.TheVariants.{Pair}

-- no ballot counts more for the gainer than the gainer alone, which counts nothing for the loser; and all counts are
-- small
pub record ArePairPoints (e : Election) (g l : ℕ) : Type 0 where
  pub low : (ballot : List ℕ) → loser_points e g l ballot ≤ 1024
  pub high : (ballot : List ℕ) → gainer_points e g l ballot ≤ gainer_points e g l (g ∷ [])
  pub top : gainer_points e g l (g ∷ []) ≤ 1024
  pub none : loser_points e g l (g ∷ []) ≡ 0

same : (g : ℕ) → (g == g) ≡ true
same g = grind (arith, nat_tests)

other : (g l : ℕ) → g ≢ l → (g == l) ≡ false
other g l differ = grind (arith, nat_tests)

if_le : (t : Bool) (n : ℕ) → cond t n 0 ≤ n
if_le true n = omega arith
if_le false n = omega arith

-- ---- the ballot that ranks the gainer alone

first_alone : (g : ℕ) → is_first (g ∷ []) g ≡ true
first_alone g = same g

first_other : (g l : ℕ) → g ≢ l → is_first (g ∷ []) l ≡ false
first_other g l differ = other g l differ

place_alone : (g : ℕ) → place_of g (g ∷ []) ≡ Some 1
place_alone g = rw (same g) refl

place_other : (g l : ℕ) → g ≢ l → place_of l (g ∷ []) ≡ None
place_other g l differ = rw (other g l differ) refl

-- ---- Borda: at most one fewer than there are candidates

points_by : (c : ℕ) (t : Bool) (o : Option ℕ) → points_at c (cond t (Some 1) (option_map suc o)) ≤ c - 1
points_by c true o = omega arith
points_by c false None = omega arith
points_by c false (Some r) = omega arith

points_few : (c x : ℕ) (ballot : List ℕ) → borda_points c ballot x ≤ c - 1
points_few c x [] = omega arith
points_few c x (y ∷ ys) = points_by c (y == x) (place_of x ys)

-- ---- D'Hondt: no party has more seats than there are

few_at : (f : ℕ → ℕ) (s : ℕ) (xs : List ℕ) (k : ℕ) → ((a : ℕ) → f a ≤ s) → slice_index (map f xs) k ≤ s
few_at f s [] zero few = omega arith
few_at f s [] (suc k) few = omega arith
few_at f s (x ∷ xs) zero few = few x
few_at f s (x ∷ xs) (suc k) few = few_at f s xs k few

pub few_seats : (votes : List ℕ) (s a : ℕ) → seats_of votes s a ≤ s
few_seats votes s a =
    let n = count_by-le-length (λ q. nat_lt (before votes s a q) s) (range_with_len 1 s) in
    let m = length-range_with_len 1 s in
    omega (arith, n, m)

seats_few : (votes shares : List ℕ) (s a : ℕ) → shares ≡ reported_seats votes s → slice_index shares a ≤ s
seats_few votes shares s a is = rw is (few_at (λ b. seats_of votes s b) s (range_with_len 0 (length votes)) a (λ b. few_seats votes s b))

-- ---- under each rule

abbrev under : Rule → Poll → Outcome → List Goal → Election
under rule p reported roots = record { rule = rule; poll = p; reported = reported; roots = roots }

by_firsts : (p : Poll) (reported : Outcome) (roots : List Goal) (g l : ℕ) → g ≢ l → ArePairPoints (under Plurality p reported roots) g l
by_firsts p reported roots g l differ =
    let one = first_alone g in
    let two = first_other g l differ in
    record {
      low = λ ballot. omega (arith, if_le (is_first ballot l) 1);
      high = λ ballot. rw one (if_le (is_first ballot g) 1);
      top = rw one (omega arith);
      none = rw two refl;
    }

by_places : (p : Poll) (reported : Outcome) (roots : List Goal) (g l : ℕ) → IsPoll p → g ≢ l → ArePairPoints (under Borda p reported roots) g l
by_places p reported roots g l poll differ =
    let one = place_alone g in
    let two = place_other g l differ in
    record {
      low = λ ballot. omega (arith, points_few p.c l ballot, poll.most);
      high = λ ballot. rw one (points_few p.c g ballot);
      top = rw one (omega (arith, poll.most));
      none = rw two refl;
    }

by_preferences : (p : Poll) (reported : Outcome) (roots : List Goal) (g l : ℕ) → g ≢ l → ArePairPoints (under Condorcet p reported roots) g l
by_preferences p reported roots g l differ =
    let one = place_alone g in
    let two = place_other g l differ in
    record {
      low = λ ballot. omega (arith, if_le (prefers ballot l g) 1);
      high = λ ballot. rw (one, two) (if_le (prefers ballot g l) 1);
      top = rw (one, two) (omega arith);
      none = rw two refl;
    }

by_seats : (s : ℕ) (p : Poll) (shares : List ℕ) (roots : List Goal) (g l : ℕ) → s ≤ MOST_SEATS → shares ≡ reported_seats (votes_of p) s → g ≢ l
    → ArePairPoints (under (Dhondt s) p (Seats shares) roots) g l
by_seats s p shares roots g l lawful is differ =
    let one = first_alone g in
    let two = first_other g l differ in
    let mine = seats_few (votes_of p) shares s g is in
    let theirs = seats_few (votes_of p) shares s l is in
    record {
      low = λ ballot. omega (arith, if_le (is_first ballot l) (slice_index shares g + 1), mine, lawful);
      high = λ ballot. rw one (if_le (is_first ballot g) (slice_index shares l));
      top = rw one (omega (arith, theirs, lawful));
      none = rw two refl;
    }

points_under : (rule : Rule) (p : Poll) (reported : Outcome) (roots : List Goal) (g l : ℕ) → IsRule rule → HasPairs rule → IsPoll p → IsReported rule p reported → g ≢ l
    → ArePairPoints (under rule p reported roots) g l
points_under Plurality p reported roots g l lawful has poll is differ = by_firsts p reported roots g l differ
points_under Borda p reported roots g l lawful has poll is differ = by_places p reported roots g l poll differ
points_under Condorcet p reported roots g l lawful has poll is differ = by_preferences p reported roots g l differ
points_under (Dhondt s) p (Seats shares) roots g l lawful has poll is differ = by_seats s p shares roots g l lawful.1 is differ
points_under (Dhondt s) p (Winner x) roots g l lawful has poll is differ = absurd is
points_under (Dhondt s) p NoWinner roots g l lawful has poll is differ = absurd is
points_under Irv p reported roots g l lawful has poll is differ = absurd has

pub pair_points : (e : Election) (g l : ℕ) → IsElection e → IsRootOf e (Pair g l) → ArePairPoints e g l
pair_points e g l is root = points_under e.rule e.poll e.reported e.roots g l is.lawful root.0 is.poll is.reported root.3
