-- Of the ground of a pair: the greatest gain, what is lacking, and how many ballots have each gain.
use Rattle.std.proofs.Common.{ℕ, List, [], ◌∷◌, ◌++◌, ◌≡◌, ◌<◌, ◌≤◌, ◌+◌, ◌-◌, ◌∙◌, length, map, replicate, nat_abs, slice_get, Some, FitsSigned, w64, to_z, of_z, sym, ap, refl, subst, arith, rules}
use Rattle.std.specs.Prelude.{nat_eq, slice_index, ℤ, pos, negsuc, ◌-ℤ◌}
use Rattle.std.proofs.lemmas.Bool.Decides.{nat_tests}
use Rattle.std.proofs.lemmas.Int.{ints, to_z-of_z}
use Rattle.std.proofs.lemmas.List.{length-map}
use Rattle.mov_base.specs.Sums.{add_up, sum_z}
use Rattle.mov_base.proofs.Signed.{sum_z-difference}
use Rattle.mov_base.proofs.Sums.{add_up-le}
use Rattle.ballot_form.specs.declared.limits.TheConstants.{MOST_BALLOTS}
use Rattle.ballot_form.specs.declared.runs.Run.{Run}
use Rattle.ballot_form.specs.Runs.{IsFirstRun, Left}
use Rattle.signature_class.specs.Classes.{classes_of}
use Rattle.signature_class.proofs.Counts.{keys_are_classes, map_equal, sum-times_one}
use Rattle.goal_rows.specs.Elections.{Election}
use Rattle.goal_rows.specs.Goals.{IsElection, IsReached, gainer_points, loser_points, rows_of}
use Rattle.goal_rows.specs.Pairs.{gain_of}
use Rattle.goal_rows.specs.Races.{IsGroundIn, key_of, keys_of, lone_weight}
use Rattle.goal_rows.specs.declared.goals.Goal.{Goal}
use Rattle.goal_rows.specs.declared.goals.Goal.TheVariants.{Root, Suffix, Pair, Cover}
use Rattle.goal_rows.specs.declared.parts.Ground.{Ground}
use Rattle.goal_rows.proofs.PairPoints.{ArePairPoints, pair_points}
use Rattle.goal_rows.proofs.Ways.{reached_pair}
use Rattle.witness_build.specs.Levels.{AreCounts, AreEnough, above, below_zero, deficit_under, equals, gains_under, greatest_under, of_key}
use Rattle.witness_build.specs.Witnesses.{IsPair, pair_gains}

-- ---- the greatest gain

-- the weight of the gainer alone, and no gain is greater than 1,024 more
pub record IsLone (e : Election) (goal : Goal) (lone : ℤ) : Type 0 where
  pub top : ℕ
  pub is : lone ≡ pos top
  pub few : top ≤ 1024
  pub greatest : greatest_under e goal ≡ top + 1024

points_of : (e : Election) (g l : ℕ) → IsElection e → IsReached e (Pair g l) → ArePairPoints e g l
points_of e g l election reached = pair_points e g l election (reached_pair e g l election.roots reached).1

lone_under : (e : Election) (g l : ℕ) → IsElection e → IsReached e (Pair g l) → IsLone e (Pair g l) (lone_weight e (Pair g l))
lone_under e g l election reached =
    let points = points_of e g l election reached in
    let none = points.none in
    record { top = gainer_points e g l (g ∷ []); is = omega (arith, ints, none); few = points.top; greatest = refl }

pub lone_of : (e : Election) (start : Ground) → IsGroundIn e start → IsPair start.goal → IsLone e start.goal start.lone
lone_of e start is (g, l, pair) =
    let own = lone_under e g l is.election (subst (IsReached e) pair is.reached) in
    subst (λ z. IsLone e start.goal z) (sym is.values.lone) (subst (λ goal. IsLone e goal (lone_weight e goal)) (sym pair) own)

-- ---- what is lacking

below_difference : (z : ℤ) (p m : ℕ) → z ≡ pos p -ℤ pos m → below_zero z ≡ m - p
below_difference (pos n) p m is = omega (arith, ints, is)
below_difference (negsuc n) p m is = omega (arith, ints, is)

-- how far the first of the sums is below zero
abbrev pub first_below : List ℤ → ℕ
first_below [] = 0
first_below (sum ∷ sums) = below_zero sum

-- the first row of the goal, on the ballots, is so far below zero
abbrev IsBehind : Election → Goal → Type 0
IsBehind e goal = first_below (map (λ weight. sum_z weight e.poll.ballots) (rows_of e goal)) ≡ deficit_under e goal

below_under : (e : Election) (g l : ℕ) → IsBehind e (Pair g l)
below_under e g l = below_difference _ _ _ (sum_z-difference (gainer_points e g l) (loser_points e g l) e.poll.ballots)

pub behind_is : (e : Election) (start : Ground) → IsGroundIn e start → IsPair start.goal → first_below start.sums ≡ deficit_under e start.goal
behind_is e start is (g, l, pair) = ap first_below is.values.sums ∙ subst (IsBehind e) (sym pair) (below_under e g l)

-- ---- how many ballots have each gain

few_under : (e : Election) (goal : Goal) → IsElection e → length (keys_of e goal) ≤ MOST_BALLOTS
few_under e Root election = omega arith
few_under e (Suffix suffix) election = omega (arith, length-map e.poll.ballots (key_of e (Suffix suffix)), election.poll.few)
few_under e (Pair g l) election = omega (arith, length-map e.poll.ballots (key_of e (Pair g l)), election.poll.few)
few_under e (Cover x) election = omega (arith, length-map e.poll.ballots (key_of e (Cover x)), election.poll.few)

pub few_classes : (e : Election) (start : Ground) → IsGroundIn e start → add_up (λ (c : ℕ × ℕ). c.1) start.classes ≤ MOST_BALLOTS
few_classes e start is =
    let keys = keys_of e start.goal in
    let a = (keys_are_classes keys).counted (λ _. 1) in
    let b = add_up-le (λ (_ : ℕ). 1) 1 keys (λ x. omega arith) in
    let s = sum-times_one (classes_of nat_eq keys) in
    let few = few_under e start.goal is.election in
    rw is.values.classes (omega (arith, a, b, s, few))

same_test : (k n a b : ℕ) → k ≤ n → a + b ≡ n → equals k a ≡ equals (n - k) b
same_test k n a b le sum = grind (arith, nat_tests)

-- the key of a ballot and its gain make up the greatest gain
key_and_gain : (p m top : ℕ) → m ≤ 1024 → p ≤ top → ((p + 1024) - m) + ((top + m) - p) ≡ top + 1024
key_and_gain p m top low high = omega (arith, low, high)

by_gain : (e : Election) (g l k : ℕ) (ballots : List (List ℕ)) → ArePairPoints e g l → k ≤ greatest_under e (Pair g l)
    → add_up (equals k) (map (key_of e (Pair g l)) ballots)
    ≡ add_up (equals (greatest_under e (Pair g l) - k)) (map (λ ballot. (gainer_points e g l (g ∷ []) + loser_points e g l ballot) - gainer_points e g l ballot) ballots)
by_gain e g l k [] points le = refl
by_gain e g l k (ballot ∷ ballots) points le =
    let rest = by_gain e g l k ballots points le in
    let both = key_and_gain (gainer_points e g l ballot) (loser_points e g l ballot) (gainer_points e g l (g ∷ [])) (points.low ballot) (points.high ballot) in
    let one = same_test k (greatest_under e (Pair g l)) (key_of e (Pair g l) ballot) ((gainer_points e g l (g ∷ []) + loser_points e g l ballot) - gainer_points e g l ballot) le both in
    omega (arith, one, rest)

none_above : (n x : ℕ) → x ≤ n → above n x ≡ 0
none_above n x le = grind (arith, nat_tests)

no_greater : (e : Election) (g l : ℕ) (ballots : List (List ℕ)) → ArePairPoints e g l
    → add_up (above (greatest_under e (Pair g l))) (map (λ ballot. (gainer_points e g l (g ∷ []) + loser_points e g l ballot) - gainer_points e g l ballot) ballots) ≡ 0
no_greater e g l [] points = refl
no_greater e g l (ballot ∷ ballots) points =
    let low = points.low ballot in
    let one = none_above (greatest_under e (Pair g l)) ((gainer_points e g l (g ∷ []) + loser_points e g l ballot) - gainer_points e g l ballot) (omega (arith, low)) in
    omega (arith, one, no_greater e g l ballots points)

-- there are so many ballots of each key under the goal
record HaveKeys (e : Election) (counts : List ℕ) (goal : Goal) : Type 0 where
  pub reached : IsReached e goal
  pub size : length counts ≡ greatest_under e goal
  pub each : (k : ℕ) → k < length counts → slice_index counts k ≡ add_up (of_key k) (classes_of nat_eq (keys_of e goal))

counts_under : (e : Election) (g l : ℕ) (counts : List ℕ) → IsElection e → HaveKeys e counts (Pair g l) → AreCounts (gains_under e (Pair g l)) counts
counts_under e g l counts election have =
    let points = points_of e g l election have.reached in
    let size = have.size in
    record {
      few = omega (arith, length-map e.poll.ballots (λ ballot. (gainer_points e g l (g ∷ []) + loser_points e g l ballot) - gainer_points e g l ballot), election.poll.few);
      greatest = rw size (no_greater e g l e.poll.ballots points);
      each = λ k lt.
          have.each k lt ∙ sym ((keys_are_classes (keys_of e (Pair g l))).counted (equals k))
          ∙ by_gain e g l k e.poll.ballots points (omega (arith, lt, size))
          ∙ ap (λ n. add_up (equals (n - k)) (pair_gains e g l)) (sym size);
    }

enough_by : (top : ℕ) (plus minus : List ℕ → ℕ) (ballots : List (List ℕ))
    → add_up minus ballots ≤ add_up plus ballots + add_up (λ x. x) (map (λ ballot. (top + minus ballot) - plus ballot) ballots)
enough_by top plus minus [] = omega arith
enough_by top plus minus (ballot ∷ ballots) = omega (arith, enough_by top plus minus ballots)

enough_under : (e : Election) (goal : Goal) → deficit_under e goal ≤ add_up (λ x. x) (gains_under e goal)
enough_under e Root = omega arith
enough_under e (Suffix suffix) = omega arith
enough_under e (Pair g l) = omega (arith, enough_by (gainer_points e g l (g ∷ [])) (gainer_points e g l) (loser_points e g l) e.poll.ballots)
enough_under e (Cover x) = omega arith

pub counted_gains : (e : Election) (start : Ground) (counts : List ℕ) → IsGroundIn e start → IsPair start.goal → length counts ≡ greatest_under e start.goal
    → ((k : ℕ) → k < length counts → slice_index counts k ≡ add_up (of_key k) start.classes) → AreEnough (deficit_under e start.goal) (gains_under e start.goal) counts
counted_gains e start counts is (g, l, pair) size each =
    let have : HaveKeys e counts start.goal = record {
      reached = is.reached;
      size = size;
      each = λ k lt. each k lt ∙ ap (add_up (of_key k)) is.values.classes;
    } in
    let counted = counts_under e g l counts is.election (subst (HaveKeys e counts) pair have) in
    record { counted = subst (λ goal. AreCounts (gains_under e goal) counts) (sym pair) counted; enough = enough_under e start.goal }

-- ---- as the code has them

pub lone_size : (lone : ℤ) (top n : ℕ) → lone ≡ pos top → top ≤ 1024 → n ≡ nat_abs (to_z w64 (of_z w64 lone)) → n ≡ top
lone_size lone top n is few size =
    let fits : FitsSigned w64 (pos top) = search rules in
    let same : n ≡ nat_abs (to_z w64 (of_z w64 (pos top))) = size ∙ ap (λ z. nat_abs (to_z w64 (of_z w64 z))) is in
    simp to_z-of_z at same

pub below_first : (sum : ℤ) (sums : List ℤ) → Some sum ≡ slice_get sums 0 → first_below sums ≡ below_zero sum
below_first sum [] is = cc
below_first sum (z ∷ zs) is = let same : z ≡ sum = cc in ap below_zero same

-- ---- a run of equal ballots

-- the gains of these ballots
abbrev pub gains_of : Election → Goal → List (List ℕ) → List ℕ
gains_of e goal ballots = gains_under (record e { poll = record e.poll { ballots = ballots } }) goal

-- the gain of each ballot of the run that the old ballots begin with, by its key
pub record IsGained (e : Election) (goal : Goal) (key greatest count : ℕ) (old new : List (List ℕ)) : Type 0 where
  pub below : key ≤ greatest
  pub gains : gains_of e goal old ≡ replicate count (greatest - key) ++ gains_of e goal new

pub gained_by_run : (e : Election) (goal : Goal) (g l key greatest : ℕ) (old : Left) (run : Run) (new : Left) → IsElection e → IsReached e goal → goal ≡ Pair g l
    → IsFirstRun old run new → key ≡ key_of e goal run.row.now → greatest ≡ greatest_under e goal → IsGained e goal key greatest run.count old.ballots new.ballots
gained_by_run e Root g l key greatest old run new election reached pair is key_is greatest_is = absurd (cc)
gained_by_run e (Suffix suffix) g l key greatest old run new election reached pair is key_is greatest_is = absurd (cc)
gained_by_run e (Cover x) g l key greatest old run new election reached pair is key_is greatest_is = absurd (cc)
gained_by_run e (Pair h m) g l key greatest old run new election reached pair is key_is greatest_is =
    let points = points_of e h m election reached in
    let row = run.row.now in
    let low = points.low row in
    let high = points.high row in
    let gain = gain_of (gainer_points e h m (h ∷ [])) (gainer_points e h m) (loser_points e h m) in
    let same : gain row ≡ greatest - key = omega (arith, key_is, greatest_is, low, high) in
    record {
      below = omega (arith, key_is, greatest_is, high);
      gains = ap (map gain) is.joined ∙ map_equal gain run.count row new.ballots ∙ ap (λ n. replicate run.count n ++ map gain new.ballots) same;
    }

pub gains_of_none : (e : Election) (goal : Goal) → gains_of e goal [] ≡ []
gains_of_none e Root = refl
gains_of_none e (Suffix suffix) = refl
gains_of_none e (Pair g l) = refl
gains_of_none e (Cover x) = refl
