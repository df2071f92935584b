-- What a pair is before any replacement, from the kinds of ballots.
use Rattle.std.proofs.Common.{ℕ, zero, suc, List, [], ◌∷◌, ◌++◌, ◌≡◌, ◌<◌, ◌≤◌, ◌+◌, ◌*◌, ◌∙◌, take, length, map, get_or, sym, refl, ap, arith}
use Rattle.std.specs.Prelude.{nat_eq, ℤ, pos, ◌-ℤ◌}
use Rattle.std.specs.Str.{bytes_eq}
use Rattle.std.proofs.lemmas.List.{take_more, map-append, length-map}
use Rattle.mov_base.specs.Sums.{add_up, sum_z}
use Rattle.mov_base.proofs.Sums.{add_up-append, add_up-le}
use Rattle.ballot_form.specs.declared.limits.TheConstants.{MOST_BALLOTS}
use Rattle.signature_class.specs.Classes.{add_all, add_class, classes_of, count_of}
use Rattle.signature_class.proofs.Counts.{add_all-append, classes_by_kinds, count_le, kinds_are_classes, sum-add_all, sum-times_one}
use Rattle.goal_rows.specs.declared.goals.Goal.TheVariants.{Pair}
use Rattle.goal_rows.specs.Goals.{gainer_points, loser_points, pair_weight}
use Rattle.goal_rows.specs.Races.{IsGroundOf, IsRace, election_of, key_of, keyed, seen_by}
use Rattle.goal_rows.specs.declared.parts.Race.{Race}
use Rattle.mov_base.proofs.Signed.{sum_z-difference}
use Rattle.goal_rows.proofs.Seen.{gainer_seen, key_seen, loser_seen, seen_alike}

-- the kinds have as many ballots as there are
pub few_kinds : (race : Race) → IsRace race → add_up (λ (k : List ℕ × ℕ). k.1) race.kinds ≤ MOST_BALLOTS
few_kinds race is =
    let rows = map (seen_by race.rule) race.roll.now.ballots in
    let a = (kinds_are_classes rows).counted (λ _. 1) in
    let b = add_up-le (λ (_ : List ℕ). 1) 1 rows (λ x. omega arith) in
    let m = length-map race.roll.now.ballots (seen_by race.rule) in
    let s = sum-times_one (classes_of bytes_eq rows) in
    let few = is.election.poll.few in
    rw is.kinds (omega (arith, a, b, m, s, few))

-- the first i kinds, and one more
first_kinds : (kinds : List (List ℕ × ℕ)) (i : ℕ) → i < length kinds → take (i + 1) kinds ≡ take i kinds ++ get_or kinds i ([], 0) ∷ []
first_kinds kinds i lt = take_more kinds i ([], 0) lt

-- a first part and the rest
whole_sum : (f : List ℕ × ℕ → ℕ) (kinds : List (List ℕ × ℕ)) (i : ℕ) → add_up f (take i kinds) ≤ add_up f kinds
whole_sum f [] zero = omega arith
whole_sum f [] (suc i) = omega arith
whole_sum f (k ∷ kinds) zero = omega arith
whole_sum f (k ∷ kinds) (suc i) = omega (arith, whole_sum f kinds i)

pub class_more : (key : List ℕ → ℕ) (i : ℕ) (kinds : List (List ℕ × ℕ)) (row : List ℕ) (n k : ℕ) (classes : List (ℕ × ℕ)) → i < length kinds
    → row ≡ (get_or kinds i ([], 0)).0 → n ≡ (get_or kinds i ([], 0)).1 → k ≡ key row
    → classes ≡ add_all nat_eq [] (keyed key (take i kinds)) → add_class nat_eq k n classes ≡ add_all nat_eq [] (keyed key (take (i + 1) kinds))
class_more key i kinds row n k classes lt row_is n_is key_is is =
    let one : List ℕ × ℕ → ℕ × ℕ = λ z. (key z.0, z.1) in
    rw (
      first_kinds kinds i lt,
      map-append one (take i kinds) (get_or kinds i ([], 0) ∷ []),
      add_all-append nat_eq [] (keyed key (take i kinds)) (one (get_or kinds i ([], 0)) ∷ []),
      ← is,
      key_is,
      row_is,
      n_is,
    ) refl

-- how many ballots the first kinds have, and one kind more
pub kinds_more : (i : ℕ) (kinds : List (List ℕ × ℕ)) (n : ℕ) → i < length kinds → n ≡ (get_or kinds i ([], 0)).1
    → add_up (λ (k : List ℕ × ℕ). k.1) (take (i + 1) kinds) ≡ add_up (λ (k : List ℕ × ℕ). k.1) (take i kinds) + n
kinds_more i kinds n lt n_is =
    let j = add_up-append (λ (k : List ℕ × ℕ). k.1) (take i kinds) (get_or kinds i ([], 0) ∷ []) in
    rw (first_kinds kinds i lt) (omega (arith, j, n_is))

pub kinds_few : (i : ℕ) (kinds : List (List ℕ × ℕ)) → add_up (λ (k : List ℕ × ℕ). k.1) kinds ≤ MOST_BALLOTS → add_up (λ (k : List ℕ × ℕ). k.1) (take i kinds) ≤ MOST_BALLOTS
kinds_few i kinds few = omega (arith, whole_sum (λ k. k.1) kinds i)

pub class_room : (key : List ℕ → ℕ) (i : ℕ) (kinds : List (List ℕ × ℕ)) (n k : ℕ) (classes : List (ℕ × ℕ)) → i < length kinds → n ≡ (get_or kinds i ([], 0)).1
    → classes ≡ add_all nat_eq [] (keyed key (take i kinds)) → add_up (λ z. z.1) kinds ≤ MOST_BALLOTS → count_of nat_eq k classes + n ≤ MOST_BALLOTS
class_room key i kinds n k classes lt n_is is few =
    let a = count_le nat_eq k classes in
    let b = sum-times_one classes in
    let d = sum-add_all [] (keyed key (take i kinds)) in
    let e : add_up (λ c. c.1) classes ≡ add_up (λ c. c.1) (add_all nat_eq [] (keyed key (take i kinds))) = ap (add_up (λ c. c.1)) is in
    let f = sum_keyed key (take i kinds) in
    let h = kinds_more i kinds n lt n_is in
    let m = kinds_few (i + 1) kinds few in
    omega (arith, a, b, d, e, f, h, m)
  where
    sum_keyed : (key : List ℕ → ℕ) (ks : List (List ℕ × ℕ)) → add_up (λ c. c.1) (keyed key ks) ≡ add_up (λ k. k.1) ks
    sum_keyed key [] = refl
    sum_keyed key (k ∷ ks) = omega (arith, sum_keyed key ks)

-- ---- sums over the kinds

pub counted_more : (f : List ℕ → ℕ) (i : ℕ) (kinds : List (List ℕ × ℕ)) (row : List ℕ) (n points sum : ℕ) → i < length kinds
    → row ≡ (get_or kinds i ([], 0)).0 → n ≡ (get_or kinds i ([], 0)).1 → points ≡ f row → sum ≡ add_up (λ k. k.1 * f k.0) (take i kinds)
    → sum + n * points ≡ add_up (λ k. k.1 * f k.0) (take (i + 1) kinds)
counted_more f i kinds row n points sum lt row_is n_is points_is is =
    let j = add_up-append (λ (k : List ℕ × ℕ). k.1 * f k.0) (take i kinds) (get_or kinds i ([], 0) ∷ []) in
    rw (first_kinds kinds i lt, points_is, row_is, n_is) (omega (arith, j, is))

by_kinds : (f : List ℕ → ℕ) (race : Race) → IsRace race → ((ballot : List ℕ) → f (seen_by race.rule ballot) ≡ f ballot)
    → add_up (λ k. k.1 * f k.0) race.kinds ≡ add_up f race.roll.now.ballots
by_kinds f race is same =
    let rows = map (seen_by race.rule) race.roll.now.ballots in
    ap (add_up (λ k. k.1 * f k.0)) is.kinds ∙ sym ((kinds_are_classes rows).counted f) ∙ alike race.roll.now.ballots
  where
    alike : (ballots : List (List ℕ)) → add_up f (map (seen_by race.rule) ballots) ≡ add_up f ballots
    alike [] = refl
    alike (ballot ∷ ballots) = omega (arith, same ballot, alike ballots)

pub pair_values : (race : Race) (g l : ℕ) (classes : List (ℕ × ℕ)) (gained lost : ℕ) (sum lone : ℤ) (ballots : ℕ) → IsRace race
    → classes ≡ add_all nat_eq [] (keyed (key_of (election_of race) (Pair g l)) race.kinds)
    → gained ≡ add_up (λ k. k.1 * gainer_points (election_of race) g l k.0) race.kinds → lost ≡ add_up (λ k. k.1 * loser_points (election_of race) g l k.0) race.kinds
    → sum ≡ pos gained -ℤ pos lost → lone ≡ pair_weight (election_of race) g l (g ∷ []) → ballots ≡ length race.roll.now.ballots
    → IsGroundOf (election_of race) (record { goal = Pair g l; classes = classes; sums = sum ∷ []; ballots = ballots; lone = lone })
pair_values race g l classes gained lost sum lone ballots is classes_are gained_is lost_is sum_is alone count =
    let e = election_of race in
    let p = race.roll.now in
    record {
      classes =
          let key = key_of e (Pair g l) in
          classes_are ∙ ap (λ ks. add_all nat_eq [] (keyed key ks)) is.kinds ∙ classes_by_kinds key (map (seen_by race.rule) p.ballots)
          ∙ ap (classes_of nat_eq) (seen_alike key (seen_by race.rule) p.ballots (key_seen e g l));
      sums =
          let all_gained = gained_is ∙ by_kinds (gainer_points e g l) race is (gainer_seen e g l) in
          let all_lost = lost_is ∙ by_kinds (loser_points e g l) race is (loser_seen e g l) in
          let w = sum_z-difference (gainer_points e g l) (loser_points e g l) p.ballots in
          let s : sum ≡ sum_z (pair_weight e g l) p.ballots =
          sum_is ∙ ap (λ n. pos n -ℤ pos lost) all_gained ∙ ap (λ n. pos (add_up (gainer_points e g l) p.ballots) -ℤ pos n) all_lost ∙ sym w in
          ap (λ z. z ∷ []) s;
      ballots = count;
      lone = alone;
    }
