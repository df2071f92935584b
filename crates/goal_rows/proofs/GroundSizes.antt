-- How large what is known of a goal is.
use Rattle.std.proofs.Common.{ℕ, zero, suc, List, [], ◌∷◌, ◌++◌, Bool, true, false, ◌≡◌, ◌<◌, ◌≤◌, ◌+◌, ◌-◌, ◌*◌, ◌∙◌, cond, length, map, get_or, replicate, sym, refl, ap, subst, arith}
use Rattle.std.specs.Prelude.{All, nat_eq, unsigned_abs, ℤ, pos, ◌+ℤ◌, ◌-ℤ◌, ◌≤ℤ◌}
use Rattle.std.specs.List.{flat_map, range_with_len}
use Rattle.std.proofs.Math.IntN.{negsuc}
use Rattle.std.proofs.lemmas.Int.{ints}
use Rattle.std.proofs.lemmas.List.{length-append, length-map, length-replicate}
use Rattle.std.proofs.lemmas.List.Elements.{All-append, All-cons, All-map, All-nil, All-replicate, All-weaker}
use Rattle.std.proofs.lemmas.List.FromFn.{length-range_with_len}
use Rattle.mov_base.specs.Sums.{add_up, sum_z}
use Rattle.mov_base.proofs.Sums.{add_up-le}
use Rattle.ballot_form.proofs.Lengths.{length_valid}
use Rattle.ballot_form.specs.declared.limits.TheConstants.{MOST_BALLOTS}
use Rattle.row_program.specs.declared.limits.TheConstants.{TERM_LIMIT}
use Rattle.signature_class.specs.Classes.{classes_of}
use Rattle.signature_class.specs.declared.limits.TheConstants.{MOST_PLACES}
use Rattle.signature_class.proofs.Counts.{keys_are_classes, sum-times_one}
use Rattle.ballot_form.specs.Scores.{is_some_of}
use Rattle.condorcet_count.specs.Preferences.{prefers}
use Rattle.irv_count.specs.Orders.{holder, member}
use Rattle.row_program.specs.declared.Limit.{Limit}
use Rattle.row_program.specs.Bounds.{IsProgram, IsRow}
use Rattle.row_program.specs.declared.program.Row.{Row}
use Rattle.row_program.specs.declared.limits.TheConstants.{MOST_LIMITS}
use Rattle.sig_graph.proofs.ArcNumbers.{length-arcs_of}
use Rattle.signature_class.specs.Signatures.{suffix_key}
use Rattle.std.proofs.Math.Nat.{mul-le-mul}
use Rattle.std.proofs.lemmas.List.Concat.{flat_map-cons}
use Rattle.std.proofs.lemmas.Slice.Zip.{length-zip}
use Rattle.std.specs.List.{zip}
use Rattle.goal_rows.specs.Elections.{Election}
use Rattle.goal_rows.specs.KeyCounts.{is_held, lead_by, round_values}
use Rattle.goal_rows.specs.Programs.{arcs_under, class_row, class_rows_of, costs_of, flow_rows_of, flow_weighings, goal_rows_of, limit_rows_of, program_rows, row_by, value_before, weighings_of, weights_by}
use Rattle.goal_rows.specs.declared.weighings.Weighing.TheVariants.{Held, Limited, Over, Through}
use Rattle.goal_rows.proofs.KeyRows.{suffix_values_are}
use Rattle.goal_rows.specs.Goals.{IsElection, IsReached, gainer_points, loser_points, pair_weight, rows_of}
use Rattle.goal_rows.specs.Races.{IsSomeGround, key_of, keys_of, lone_weight}
use Rattle.goal_rows.specs.Suffixes.{cover_rows, hold_weight, others, prefer_weight, suffix_rows}
use Rattle.goal_rows.specs.declared.goals.Goal.{Goal}
use Rattle.goal_rows.specs.declared.goals.Goal.TheVariants.{Root, Suffix, Pair, Cover}
use Rattle.goal_rows.specs.declared.parts.Ground.{Ground}
use Rattle.goal_rows.proofs.Lengths.{cover_rows_less, suffix_rows_count}
use Rattle.goal_rows.proofs.PairPoints.{pair_points}
use Rattle.goal_rows.proofs.Ways.{reached_cover, reached_pair, reached_suffix}

reached_at : (start : Ground) (goal : Goal) (some : IsSomeGround start) → start.goal ≡ goal → IsReached some.0 goal
reached_at start goal some goal_is = subst (IsReached some.0) goal_is some.1.reached

-- ---- suffixes and covers

pub suffix_few : (start : Ground) (suffix : List ℕ) → IsSomeGround start → start.goal ≡ Suffix suffix → length suffix ≤ MOST_PLACES
suffix_few start suffix some goal_is =
    let e = some.0 in
    let valid = (reached_suffix e suffix some.1.election.roots (reached_at start (Suffix suffix) some goal_is)).1 in
    let few = length_valid e.poll.c suffix valid in
    let most = some.1.election.poll.most in
    omega (arith, few, most)

pub sums_of : (start : Ground) (goal : Goal) (some : IsSomeGround start) → start.goal ≡ goal → length start.sums ≡ length (rows_of some.0 goal)
sums_of start goal some goal_is =
    let e = some.0 in
    ap length some.1.values.sums ∙ length-map (rows_of e start.goal) (λ weight. sum_z weight e.poll.ballots) ∙ ap (λ g. length (rows_of e g)) goal_is

pub cover_few : (start : Ground) (x : ℕ) (some : IsSomeGround start) → start.goal ≡ Cover x → (length start.sums + 1 ≡ some.0.poll.c) × (x < some.0.poll.c) × (some.0.poll.c ≤ MOST_PLACES)
cover_few start x some goal_is =
    let e = some.0 in
    let below = (reached_cover e x some.1.election.roots (reached_at start (Cover x) some goal_is)).1 in
    let count = cover_rows_less e.poll.c x below in
    let n = sums_of start (Cover x) some goal_is in
    let most = some.1.election.poll.most in
    (omega (arith, count, n, below), below, omega (arith, most))

-- ---- the gainer alone

pub lone_small : (start : Ground) (g l : ℕ) → IsSomeGround start → start.goal ≡ Pair g l → (pos 0 ≤ℤ start.lone) × (start.lone ≤ℤ pos 1024)
lone_small start g l some goal_is =
    let e = some.0 in
    let root = (reached_pair e g l some.1.election.roots (reached_at start (Pair g l) some goal_is)).1 in
    let are = pair_points e g l some.1.election root in
    let lone : start.lone ≡ pair_weight e g l (g ∷ []) = some.1.values.lone ∙ ap (lone_weight e) goal_is in
    let top = are.top in
    let none = are.none in
    (omega (arith, ints, lone, top, none), omega (arith, ints, lone, top, none))

-- ---- the values of rows

abs_add : (a b : ℤ) → unsigned_abs (a +ℤ b) ≤ unsigned_abs a + unsigned_abs b
abs_add (pos a) (pos b) = omega (arith, ints)
abs_add (pos a) (negsuc b) = omega (arith, ints)
abs_add (negsuc a) (pos b) = omega (arith, ints)
abs_add (negsuc a) (negsuc b) = omega (arith, ints)

sum_small : (weight : List ℕ → ℤ) (b : ℕ) (ballots : List (List ℕ)) → ((ballot : List ℕ) → unsigned_abs (weight ballot) ≤ b) → unsigned_abs (sum_z weight ballots) ≤ length ballots * b
sum_small weight b [] few = omega arith
sum_small weight b (ballot ∷ ballots) few =
    let a = abs_add (weight ballot) (sum_z weight ballots) in
    let h = few ballot in
    let ih = sum_small weight b ballots few in
    omega (arith, a, h, ih)

one_less : (s t : Bool) → unsigned_abs (pos (cond s 1 0) -ℤ pos (cond t 1 0)) ≤ 1
one_less true true = omega (arith, ints)
one_less true false = omega (arith, ints)
one_less false true = omega (arith, ints)
one_less false false = omega (arith, ints)

abbrev IsLight : ℕ → (List ℕ → ℤ) → Type 0
IsLight b weight = (ballot : List ℕ) → unsigned_abs (weight ballot) ≤ b

hold_light : (standing : List ℕ) (y x : ℕ) → IsLight 1 (hold_weight standing y x)
hold_light standing y x ballot = one_less (is_some_of (holder (λ z. member z standing) ballot) y) (is_some_of (holder (λ z. member z standing) ballot) x)

prefer_light : (x j : ℕ) → IsLight 1 (prefer_weight x j)
prefer_light x j ballot = one_less (prefers ballot x j) (prefers ballot j x)

suffix_light : (suffix : List ℕ) → All (IsLight 1) (suffix_rows suffix)
suffix_light [] = All-nil (IsLight 1)
suffix_light (x ∷ rest) =
    All-append (IsLight 1) (map (λ y. hold_weight (x ∷ rest) y x) rest) (suffix_rows rest)
    (All-map (IsLight 1) (λ y. hold_weight (x ∷ rest) y x) rest (λ k d lt. hold_light (x ∷ rest) (get_or rest k d) x)) (suffix_light rest)

cover_light : (c x : ℕ) → All (IsLight 1) (cover_rows c x)
cover_light c x = All-map (IsLight 1) (λ j. prefer_weight x j) (others c x) (λ k d lt. prefer_light x (get_or (others c x) k d))

lighter : (weight : List ℕ → ℤ) → IsLight 1 weight → IsLight 1024 weight
lighter weight light ballot = let h = light ballot in omega arith

rows_light : (e : Election) (goal : Goal) → IsElection e → IsReached e goal → All (IsLight 1024) (rows_of e goal)
rows_light e Root is reached = All-nil (IsLight 1024)
rows_light e (Suffix suffix) is reached = All-weaker (IsLight 1) (IsLight 1024) lighter (suffix_rows suffix) (suffix_light suffix)
rows_light e (Pair g l) is reached =
    let root = (reached_pair e g l is.roots reached).1 in
    let are = pair_points e g l is root in
    let top = are.top in
    All-cons (IsLight 1024) (pair_weight e g l) [] (λ ballot. apart (gainer_points e g l ballot) (loser_points e g l ballot) (let h = are.high ballot in omega (arith, h, top)) (are.low ballot))
    (All-nil (IsLight 1024))
  where
    apart : (a b : ℕ) → a ≤ 1024 → b ≤ 1024 → unsigned_abs (pos a -ℤ pos b) ≤ 1024
    apart a b al bl = omega (arith, ints)
rows_light e (Cover x) is reached = All-weaker (IsLight 1) (IsLight 1024) lighter (cover_rows e.poll.c x) (cover_light e.poll.c x)

pub sums_small : (start : Ground) → IsSomeGround start → All (λ s. unsigned_abs s < TERM_LIMIT) start.sums
sums_small start some =
    let e = some.0 in
    let few = some.1.election.poll.few in
    subst (λ sums. All (λ s. unsigned_abs s < TERM_LIMIT) sums) (sym some.1.values.sums)
    (All-map (λ s. unsigned_abs s < TERM_LIMIT) (λ weight. sum_z weight e.poll.ballots) (rows_of e start.goal)
    (All-weaker (IsLight 1024) (λ weight. unsigned_abs (sum_z weight e.poll.ballots) < TERM_LIMIT)
    (λ weight light. let h = sum_small weight 1024 e.poll.ballots light in omega (arith, h, few)) (rows_of e start.goal) (rows_light e start.goal some.1.election some.1.reached)))

-- ---- classes

keys_few : (e : Election) (goal : Goal) → length (keys_of e goal) ≤ length e.poll.ballots
keys_few e Root = omega arith
keys_few e (Suffix suffix) = omega (arith, length-map e.poll.ballots (λ ballot. key_of e (Suffix suffix) ballot))
keys_few e (Pair g l) = omega (arith, length-map e.poll.ballots (λ ballot. key_of e (Pair g l) ballot))
keys_few e (Cover x) = omega (arith, length-map e.poll.ballots (λ ballot. key_of e (Cover x) ballot))

pub classes_small : (start : Ground) → IsSomeGround start → add_up (λ (c : ℕ × ℕ). c.1) start.classes ≤ MOST_BALLOTS
classes_small start some =
    let e = some.0 in
    let keys = keys_of e start.goal in
    let a = (keys_are_classes keys).counted (λ _. 1) in
    let b = add_up-le (λ (_ : ℕ). 1) 1 keys (λ x. omega arith) in
    let m = keys_few e start.goal in
    let s = sum-times_one (classes_of nat_eq keys) in
    let few = some.1.election.poll.few in
    rw some.1.values.classes (omega (arith, a, b, m, s, few))

pub class_small : (classes : List (ℕ × ℕ)) (k : ℕ) → (get_or classes k (0, 0)).1 ≤ add_up (λ (c : ℕ × ℕ). c.1) classes
class_small [] zero = omega arith
class_small [] (suc k) = omega arith
class_small (c ∷ classes) zero = omega arith
class_small (c ∷ classes) (suc k) = omega (arith, class_small classes k)

-- ---- rows

flat_lengths : {A B : Type 0} (f : ℕ → List A) (g : ℕ → List B) (xs : List ℕ) → ((i : ℕ) → length (f i) ≡ length (g i)) → length (flat_map f xs) ≡ length (flat_map g xs)
flat_lengths f g [] same = refl
flat_lengths f g (x ∷ xs) same =
    let a = length-append (f x) (flat_map f xs) in
    let b = length-append (g x) (flat_map g xs) in
    rw (flat_map-cons f x xs, flat_map-cons g x xs) (omega (arith, a, b, same x, flat_lengths f g xs same))

suffix_count : (start : Ground) (suffix : List ℕ) (some : IsSomeGround start) → start.goal ≡ Suffix suffix
    → length (flat_map (λ i. map (λ j. Held i j) (range_with_len (i + 1) (length suffix - (i + 1)))) (range_with_len 0 (length suffix))) ≡ length start.sums
suffix_count start suffix some goal_is =
    let e = some.0 in
    let m = length suffix in
    let few = suffix_few start suffix some goal_is in
    let valid = (reached_suffix e suffix some.1.election.roots (reached_at start (Suffix suffix) some goal_is)).1 in
    let classes = classes_of nat_eq (map (suffix_key suffix) e.poll.ballots) in
    let values = ap length (suffix_values_are suffix e.poll.ballots valid.distinct few) in
    let rows = length-map (suffix_rows suffix) (λ weight. sum_z weight e.poll.ballots) in
    let sums = sums_of start (Suffix suffix) some goal_is in
    let flat = flat_lengths (λ i. map (λ j. Held i j) (range_with_len (i + 1) (m - (i + 1)))) (λ i. round_values m i classes) (range_with_len 0 m)
    (λ i. length-map (range_with_len (i + 1) (m - (i + 1))) (λ j. Held i j)
    ∙ sym (length-map (range_with_len (i + 1) (m - (i + 1))) (λ j. lead_by (is_held i j) (is_held i i) classes))) in
    flat ∙ values ∙ rows ∙ sym sums

-- as many weighings as rows
weighings_under : (start : Ground) (goal : Goal) (some : IsSomeGround start) → start.goal ≡ goal → length (weighings_of start) ≡ length start.sums
weighings_under start Root some goal_is = let n = sums_of start Root some goal_is in rw goal_is (sym n)
weighings_under start (Suffix suffix) some goal_is = rw goal_is (suffix_count start suffix some goal_is)
weighings_under start (Pair g l) some goal_is = let n = sums_of start (Pair g l) some goal_is in rw goal_is (sym n)
weighings_under start (Cover x) some goal_is =
    let c = some.0.poll.c in
    let few = cover_few start x some goal_is in
    let count = cover_rows_less c x few.1 in
    let rows = length-map (others c x) (λ j. prefer_weight x j) in
    let made = length-map (others (length start.sums + 1) x) (λ j. Over x j) in
    let same = ap (λ n. length (others n x)) few.0 in
    rw goal_is (omega (arith, few.0, few.1, count, rows, made, same))

pub weighings_count : (start : Ground) → IsSomeGround start → length (weighings_of start) ≡ length start.sums
weighings_count start some = weighings_under start start.goal some refl

-- ---- the size of a program

sums_under : (start : Ground) (goal : Goal) (some : IsSomeGround start) → start.goal ≡ goal → length start.sums ≤ 1600
sums_under start Root some goal_is = omega (arith, sums_of start Root some goal_is)
sums_under start (Suffix suffix) some goal_is =
    let few = suffix_few start suffix some goal_is in
    let n = sums_of start (Suffix suffix) some goal_is in
    let rows = suffix_rows_count suffix in
    let product : length suffix * (length suffix - 1) ≤ 40 * 40 = mul-le-mul {n₁ = length suffix} {m₁ = length suffix - 1} {n₂ = 40} {m₂ = 40} few (omega (arith, few)) in
    omega (arith, n, rows, product)
sums_under start (Pair g l) some goal_is = omega (arith, sums_of start (Pair g l) some goal_is)
sums_under start (Cover x) some goal_is = let few = cover_few start x some goal_is in omega (arith, few.0, few.2)

arcs_under_few : (start : Ground) (goal : Goal) (some : IsSomeGround start) → start.goal ≡ goal → length (arcs_under goal) ≤ 1640
arcs_under_few start Root some goal_is = omega arith
arcs_under_few start (Suffix suffix) some goal_is =
    let few = suffix_few start suffix some goal_is in
    let n = length-arcs_of (length suffix) in
    let product : length suffix * (length suffix + 1) ≤ 40 * 41 = mul-le-mul {n₁ = length suffix} {m₁ = length suffix + 1} {n₂ = 40} {m₂ = 41} few (omega (arith, few)) in
    omega (arith, n, product)
arcs_under_few start (Pair g l) some goal_is = omega arith
arcs_under_few start (Cover x) some goal_is = omega arith

pub few_arcs : (start : Ground) → IsSomeGround start → length (arcs_under start.goal) ≤ 1640
few_arcs start some = arcs_under_few start start.goal some refl

flow_under : (start : Ground) (goal : Goal) (some : IsSomeGround start) → start.goal ≡ goal → length (flow_weighings goal) ≤ 41
flow_under start Root some goal_is = omega arith
flow_under start (Suffix suffix) some goal_is =
    let few = suffix_few start suffix some goal_is in
    let n = length-map (range_with_len 1 (length suffix - 1)) (λ p. Through p) in
    let r = length-range_with_len 1 (length suffix - 1) in
    omega (arith, few, n, r)
flow_under start (Pair g l) some goal_is = omega arith
flow_under start (Cover x) some goal_is = omega arith

pub goal_rows_count : (start : Ground) → IsSomeGround start → length (goal_rows_of start) ≡ length start.sums
goal_rows_count start some =
    let n = length-map (zip start.sums (weighings_of start)) (λ r. row_by r.0 (weights_by r.1 start.classes (arcs_under start.goal))) in
    let z = length-zip start.sums (weighings_of start) in
    let w = weighings_count start some in
    omega (arith, n, z, w)

pub few_sums : (start : Ground) → IsSomeGround start → length start.sums ≤ 1600
few_sums start some = sums_under start start.goal some refl

pub program_fits : (start : Ground) (limits : List Limit) (costs : List ℕ) (rows : List Row) (kept : ℕ) → IsSomeGround start → length limits ≤ MOST_LIMITS → length start.classes ≤ 4096
    → costs ≡ costs_of start.classes (arcs_under start.goal) → rows ≡ program_rows start limits
    → All (IsRow (length start.classes + length (arcs_under start.goal))) rows → kept ≡ length start.sums + length limits → IsProgram costs rows kept
program_fits start limits costs rows kept some few classes costs_are rows_are good kept_is =
    let arcs = arcs_under start.goal in
    let a = few_arcs start some in
    let s = few_sums start some in
    let g = goal_rows_count start some in
    let fl = flow_under start start.goal some refl in
    let cl = ap length costs_are in
    let c1 = length-append {A = ℕ} (replicate {A = ℕ} (length start.classes) 1) (replicate {A = ℕ} (length arcs) 0) in
    let c2 = length-replicate {A = ℕ} (length start.classes) 1 in
    let c3 = length-replicate {A = ℕ} (length arcs) 0 in
    let count : length costs ≡ length start.classes + length arcs = omega (arith, cl, c1, c2, c3) in
    let l = length-map limits (λ limit. row_by (value_before limit) (weights_by (Limited limit) start.classes arcs)) in
    let k = length-map (range_with_len 0 (length start.classes)) (λ k. class_row k (get_or start.classes k (0, 0)).1) in
    let k2 = length-range_with_len 0 (length start.classes) in
    let f = length-map (flow_weighings start.goal) (λ weighing. row_by (pos 0) (weights_by weighing start.classes arcs)) in
    let r = ap length rows_are in
    let r1 = length-append (goal_rows_of start) (limit_rows_of start limits) in
    let r2 = length-append (goal_rows_of start ++ limit_rows_of start limits) (class_rows_of start.classes) in
    let r3 = length-append (goal_rows_of start ++ limit_rows_of start limits ++ class_rows_of start.classes) (flow_rows_of start) in
    record {
      few_variables = omega (arith, count, a, classes);
      few_rows = omega (arith, few, classes, s, g, fl, l, k, k2, f, r, r1, r2, r3);
      few_kept = omega (arith, g, l, r, r1, r2, r3, kept_is);
      small_costs = rw costs_are (All-append (λ c. c ≤ 1) (replicate {A = ℕ} (length start.classes) 1) (replicate {A = ℕ} (length arcs) 0)
          (All-replicate (λ c. c ≤ 1) (length start.classes) 1 (omega arith)) (All-replicate (λ c. c ≤ 1) (length arcs) 0 (omega arith)));
      good_rows = rw count good;
    }
