-- A ground of any election is small.
use Rattle.std.proofs.Common.{◌≡◌, ℕ, zero, suc, ◌+◌, ◌-◌, ◌*◌, ◌/◌, ◌<◌, ◌≤◌, Bool, true, false, cond, List, [], ◌∷◌, ◌++◌, map, length, get_or, sym, refl, ap, subst, ◌∙◌, arith, All}
use Rattle.std.specs.Prelude.{ℤ, pos, ◌-ℤ◌, unsigned_abs, nat_eq}
use Rattle.std.proofs.Math.Nat.{mul-le-mul_left}
use Rattle.std.proofs.lemmas.Int.{ints}
use Rattle.std.proofs.lemmas.List.{length-map}
use Rattle.std.proofs.lemmas.List.Elements.{All-cons, Contains-get_or}
use Rattle.mov_base.specs.Sums.{add_up, sum_z}
use Rattle.ballot_form.proofs.Lengths.{length_valid}
use Rattle.row_program.specs.declared.Limit.{Limit}
use Rattle.signature_class.specs.Classes.{classes_of}
use Rattle.signature_class.specs.Classes as classes
use Rattle.signature_class.proofs.Counts.{keys_are_classes, sum-times_one}
use Rattle.sig_graph.specs.Paths.{arc_total}
use Rattle.goal_rows.specs.Elections.{Election}
use Rattle.goal_rows.specs.Goals.{IsElection, IsReached, gainer_points, pair_weight, rows_of}
use Rattle.goal_rows.specs.Nodes.{AreLimits, node_of}
use Rattle.goal_rows.specs.Races.{IsGroundIn, IsGroundOf, key_of, keys_of}
use Rattle.goal_rows.specs.Suffixes.{cover_rows, hold_points, hold_weight, others, prefer_points, prefer_weight, suffix_rows}
use Rattle.goal_rows.specs.declared.goals.Goal.{Goal}
use Rattle.goal_rows.specs.declared.goals.Goal.TheVariants.{Root, Suffix, Pair, Cover}
use Rattle.goal_rows.specs.declared.parts.Ground.{Ground}
use Rattle.goal_rows.proofs.Lengths.{cover_rows_less, suffix_rows_count}
use Rattle.goal_rows.proofs.PairPoints.{pair_points}
use Rattle.goal_rows.proofs.Ways.{reached_cover, reached_pair, reached_suffix}
use Rattle.dual_bound.specs.Sizes.{AreSmallLimits, IsSmallGround, IsSmallSum}
use Rattle.dual_bound.proofs.RoundSums.{few_rows}

-- ---- sums over few ballots

-- no ballot counts more than k, one way or the other
abbrev IsWithin : ℕ → (List ℕ → ℤ) → Type 0
IsWithin k weight = (ballot : List ℕ) → unsigned_abs (weight ballot) ≤ k

sum_within : (k : ℕ) (weight : List ℕ → ℤ) (ballots : List (List ℕ)) → IsWithin k weight → unsigned_abs (sum_z weight ballots) ≤ k * length ballots
sum_within k weight [] within = omega arith
sum_within k weight (ballot ∷ ballots) within = let h = within ballot in omega (arith, ints, h, sum_within k weight ballots within)

all_sums : (k : ℕ) (ballots : List (List ℕ)) (rows : List (List ℕ → ℤ)) → k ≤ 65536 → length ballots ≤ 1000000 → All (IsWithin k) rows
    → All IsSmallSum (map (λ weight. sum_z weight ballots) rows)
all_sums k ballots [] low few within = λ i d lt. absurd (omega (arith, lt))
all_sums k ballots (weight ∷ rows) low few within =
    let h = sum_within k weight ballots (within 0 weight (omega arith)) in
    let m = mul-le-mul_left k few in
    All-cons IsSmallSum (sum_z weight ballots) (map (λ w. sum_z w ballots) rows) (omega (arith, h, m, low))
    (all_sums k ballots rows low few (λ j e le. within (suc j) e (omega (arith, le))))

at_most_one : (b : Bool) → cond b 1 0 ≤ 1
at_most_one true = omega arith
at_most_one false = omega arith

one_apart : (m n : ℕ) → m ≤ 1 → n ≤ 1 → unsigned_abs (pos m -ℤ pos n) ≤ 1
one_apart m n a b = omega (arith, ints)

all_map : {X : Type 0} (P : (List ℕ → ℤ) → Type 0) (f : X → List ℕ → ℤ) (xs : List X) → ((x : X) → P (f x)) → All P (map f xs)
all_map P f [] each = λ i d lt. absurd (omega (arith, lt))
all_map P f (x ∷ xs) each = All-cons P (f x) (map f xs) (each x) (all_map P f xs each)

all_append : (P : (List ℕ → ℤ) → Type 0) (xs ys : List (List ℕ → ℤ)) → All P xs → All P ys → All P (xs ++ ys)
all_append P [] ys one two = two
all_append P (x ∷ xs) ys one two = All-cons P x (xs ++ ys) (one 0 x (omega arith)) (all_append P xs ys (λ k e le. one (suc k) e (omega (arith, le))) two)

suffix_within : (suffix : List ℕ) → All (IsWithin 1) (suffix_rows suffix)
suffix_within [] = λ i d lt. absurd (omega (arith, lt))
suffix_within (x ∷ rest) =
    all_append (IsWithin 1) (map (λ y. hold_weight (x ∷ rest) y x) rest) (suffix_rows rest)
    (all_map (IsWithin 1) (λ y. hold_weight (x ∷ rest) y x) rest (λ y ballot. one_apart (hold_points (x ∷ rest) y ballot) (hold_points (x ∷ rest) x ballot) (at_most_one _) (at_most_one _)))
    (suffix_within rest)

cover_within : (c x : ℕ) → All (IsWithin 1) (cover_rows c x)
cover_within c x =
    all_map (IsWithin 1) (λ j. prefer_weight x j) (others c x) (λ j ballot. one_apart (prefer_points x j ballot) (prefer_points j x ballot) (at_most_one _) (at_most_one _))

-- ---- how many rows

rows_by_arcs : (m : ℕ) → m * (m - 1) / 2 ≡ arc_total (m - 1)
rows_by_arcs zero = refl
rows_by_arcs (suc m) =
    let s : suc m - 1 ≡ m = omega arith in
    let p : suc m * (suc m - 1) ≡ (suc m - 1) * (suc m - 1 + 1) = rw s (omega arith) in
    ap (λ n. n / 2) p

-- ---- the classes

count_all : {A : Type 0} (xs : List A) → add_up (λ _. 1) xs ≡ length xs
count_all [] = refl
count_all (x ∷ xs) = omega (arith, count_all xs)

all_counted : (keys : List ℕ) → add_up (λ c. c.1) (classes_of nat_eq keys) ≡ length keys
all_counted keys =
    let k = (keys_are_classes keys).counted (λ _. 1) in
    let f = count_all keys in
    let h = sum-times_one (classes_of nat_eq keys) in
    omega (arith, k, f, h)

small_keys : (n : ℕ) (keys : List ℕ) → All (λ key. key ≤ n) keys → All (λ c. c.0 ≤ n) (classes_of nat_eq keys)
small_keys n keys small = λ i d lt.
    let cs = classes_of nat_eq keys in
    let ks = classes.keys_of cs in
    let long : length ks ≡ length cs = length-map cs (λ c. c.0) in
    let within : i < length ks = omega (arith, lt, long) in
    let there = ((keys_are_classes keys).keys (get_or ks i d.0)).1 (Contains-get_or ks i d.0 within) in
    let le : get_or ks i d.0 ≤ n = subst (λ key. key ≤ n) there.2 (small there.0 _ there.1) in
    subst (λ key. key ≤ n) (first_of cs i d) le
  where
    first_of : (cs : List (ℕ × ℕ)) (i : ℕ) (d : ℕ × ℕ) → get_or (classes.keys_of cs) i d.0 ≡ (get_or cs i d).0
    first_of [] i d = refl
    first_of (c ∷ cs) zero d = refl
    first_of (c ∷ cs) (suc i) d = first_of cs i d

pair_keys : (n : ℕ) (f : List ℕ → ℕ) (ballots : List (List ℕ)) → ((ballot : List ℕ) → f ballot ≤ n) → All (λ key. key ≤ n) (map f ballots)
pair_keys n f [] each = λ i d lt. absurd (omega (arith, lt))
pair_keys n f (ballot ∷ ballots) each = All-cons (λ key. key ≤ n) (f ballot) (map f ballots) (each ballot) (pair_keys n f ballots each)

-- ---- each goal

abbrev with_goal : Ground → Goal → Ground
with_goal start goal = record { goal = goal; classes = start.classes; sums = start.sums; ballots = start.ballots; lone = start.lone }

-- what is the same for all goals that have rows
module _ (e : Election) (start : Ground) (goal : Goal) (is : IsElection e) (values : IsGroundOf e (with_goal start goal)) where
  few_ballots : start.ballots ≤ 1000000
  few_ballots = let few = is.poll.few in omega (arith, values.ballots, few)

  small_sums : (k : ℕ) → k ≤ 65536 → All (IsWithin k) (rows_of e goal) → All IsSmallSum start.sums
  small_sums k low within = subst (All IsSmallSum) (sym values.sums) (all_sums k e.poll.ballots (rows_of e goal) low is.poll.few within)

  many_sums : length start.sums ≡ length (rows_of e goal)
  many_sums = ap length values.sums ∙ length-map (rows_of e goal) (λ weight. sum_z weight e.poll.ballots)

  counted : length (keys_of e goal) ≡ length e.poll.ballots → add_up (λ c. c.1) start.classes ≡ start.ballots
  counted each = ap (add_up (λ c. c.1)) values.classes ∙ all_counted (keys_of e goal) ∙ each ∙ sym values.ballots

small_suffix : (e : Election) (start : Ground) (suffix : List ℕ) → IsElection e → IsReached e (Suffix suffix) → IsGroundOf e (with_goal start (Suffix suffix))
    → IsSmallGround (with_goal start (Suffix suffix))
small_suffix e start suffix is reached values =
    let valid = (reached_suffix e suffix is.roots reached).1 in
    let most = is.poll.most in
    let few : length suffix ≤ 12 = omega (arith, length_valid e.poll.c suffix valid, most) in
    let n : length start.sums ≡ arc_total (length suffix - 1) = many_sums e start (Suffix suffix) is values ∙ sym (suffix_rows_count suffix) ∙ rows_by_arcs (length suffix) in
    let rows = few_rows (length suffix) (omega (arith, few)) in
    record {
      rows = omega (arith, n, rows);
      sums = small_sums e start (Suffix suffix) is values 1 (omega arith) (suffix_within suffix);
      counted = counted e start (Suffix suffix) is values (length-map e.poll.ballots (key_of e (Suffix suffix)));
      few = few_ballots e start (Suffix suffix) is values;
      suffix = λ s same. let t : suffix ≡ s = cc in (
        subst (λ xs. length xs ≤ 40) t (omega (arith, few)),
        subst (λ xs. length start.sums ≡ arc_total (length xs - 1)) t n,
      );
      pair = λ g l same. absurd (let h : Suffix suffix ≡ Pair g l = same in cc);
      cover = λ x same. absurd (let h : Suffix suffix ≡ Cover x = same in cc);
    }

small_cover : (e : Election) (start : Ground) (x : ℕ) → IsElection e → IsReached e (Cover x) → IsGroundOf e (with_goal start (Cover x)) → IsSmallGround (with_goal start (Cover x))
small_cover e start x is reached values =
    let xc = (reached_cover e x is.roots reached).1 in
    let most = is.poll.most in
    let n = many_sums e start (Cover x) is values in
    let less = cover_rows_less e.poll.c x xc in
    record {
      rows = omega (arith, n, less, most);
      sums = small_sums e start (Cover x) is values 1 (omega arith) (cover_within e.poll.c x);
      counted = counted e start (Cover x) is values (length-map e.poll.ballots (key_of e (Cover x)));
      few = few_ballots e start (Cover x) is values;
      suffix = λ s same. absurd (let h : Cover x ≡ Suffix s = same in cc);
      pair = λ g l same. absurd (let h : Cover x ≡ Pair g l = same in cc);
      cover = λ y same. let t : x ≡ y = cc in (omega (arith, n, less, xc, t), omega (arith, n, less, xc, most));
    }

small_pair : (e : Election) (start : Ground) (g l : ℕ) → IsElection e → IsReached e (Pair g l) → IsGroundOf e (with_goal start (Pair g l)) → IsSmallGround (with_goal start (Pair g l))
small_pair e start g l is reached values =
    let root = (reached_pair e g l is.roots reached).1 in
    let are = pair_points e g l is root in
    let top = are.top in
    let none = are.none in
    let one : length start.sums ≡ 1 = many_sums e start (Pair g l) is values in
    let lone : start.lone ≡ pos (gainer_points e g l (g ∷ [])) = values.lone ∙ omega (arith, ints, none) in
    let keys = pair_keys 2048 (key_of e (Pair g l)) e.poll.ballots (λ ballot. let h = are.high ballot in omega (arith, h, top)) in
    let small = small_keys 2048 (keys_of e (Pair g l)) keys in
    record {
      rows = omega (arith, one);
      sums = small_sums e start (Pair g l) is values 1024 (omega arith) (λ i d lt. within i d lt);
      counted = counted e start (Pair g l) is values (length-map e.poll.ballots (key_of e (Pair g l)));
      few = few_ballots e start (Pair g l) is values;
      suffix = λ s same. absurd (let h : Pair g l ≡ Suffix s = same in cc);
      pair = λ a b same. record {
        one_sum = one;
        lone_low = omega (arith, ints, lone);
        lone_high = omega (arith, ints, lone, top);
        keys = subst (All (λ c. c.0 ≤ 2048)) (sym values.classes) small;
      };
      cover = λ x same. absurd (let h : Pair g l ≡ Cover x = same in cc);
    }
  where
    within : All (IsWithin 1024) (pair_weight e g l ∷ [])
    within zero d lt ballot =
        let root = (reached_pair e g l is.roots reached).1 in
        let are = pair_points e g l is root in
        let top = are.top in
        let high = are.high ballot in
        let low = are.low ballot in
        omega (arith, ints, high, low, top)
    within (suc i) d lt ballot = absurd (omega (arith, lt))

by_goal : (e : Election) (start : Ground) (goal : Goal) → IsElection e → IsReached e goal → IsGroundOf e (with_goal start goal) → (goal ≡ Root → ⊥) → IsSmallGround (with_goal start goal)
by_goal e start Root is reached values other = absurd (other refl)
by_goal e start (Suffix suffix) is reached values other = small_suffix e start suffix is reached values
by_goal e start (Pair g l) is reached values other = small_pair e start g l is reached values
by_goal e start (Cover x) is reached values other = small_cover e start x is reached values

pub small_ground : (e : Election) (start : Ground) → IsGroundIn e start → (start.goal ≡ Root → ⊥) → IsSmallGround start
small_ground e start is other = by_goal e start start.goal is.election is.reached is.values other

pub small_limits : (e : Election) (start : Ground) (limits : List Limit) → AreLimits e (node_of start limits) → AreSmallLimits limits
small_limits e start limits are = record { few = are.few; small = are.small }
