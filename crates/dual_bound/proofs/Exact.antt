-- The test over classes is the test of the definition, over ballots one by one and all valid new ballots.
use Rattle.std.proofs.Common.{◌≡◌, ◌↔◌, ℕ, zero, suc, ◌+◌, ◌-◌, ◌<◌, ◌≤◌, List, [], ◌∷◌, ◌++◌, Bool, false, map, min, take, drop, length, get_or, sym, refl, ap, subst, ◌∙◌, inl, inr, arith, All}
use Rattle.std.specs.Prelude.{ℤ, pos, ◌+ℤ◌, ◌-ℤ◌, ◌*ℤ◌, ◌≤ℤ◌, ◌<ℤ◌, IsTrue, nat_eq}
use Rattle.std.specs.List.{zip}
use Rattle.std.proofs.Math.IntN.{negsuc}
use Rattle.std.proofs.lemmas.Int.{ints}
use Rattle.std.proofs.lemmas.Bool.Decides.{Decides-eqb}
use Rattle.std.proofs.lemmas.List.{length-map, length-take}
use Rattle.mov_base.specs.Sums.{most, sum_z}
use Rattle.mov_base.proofs.Signed.{distrib}
use Rattle.ballot_form.specs.Ballots.{IsValidBallot}
use Rattle.ballot_form.proofs.Lengths.{length_valid}
use Rattle.row_program.specs.declared.Feature.{Feature}
use Rattle.row_program.specs.declared.Feature.TheVariants.{From, Arc}
use Rattle.row_program.specs.declared.Limit.{Limit}
use Rattle.signature_class.specs.Classes.{IsGrouped}
use Rattle.signature_class.specs.Signatures.{cover_key, signature_of, suffix_key}
use Rattle.signature_class.proofs.Counts.{keys_are_classes}
use Rattle.sig_graph.specs.Paths.{path_sum}
use Rattle.sig_graph.specs.Rows.{one_where}
use Rattle.goal_rows.specs.Elections.{Election, Node}
use Rattle.goal_rows.specs.Goals.{IsElection, IsReached, pair_weight, rows_of}
use Rattle.goal_rows.specs.Nodes.{AreLimits, IsFeatureOf, Kept, counted_for, kept_limit, kept_row, node_of}
use Rattle.goal_rows.specs.Races.{IsGroundIn, IsGroundOf, key_of, keys_of}
use Rattle.goal_rows.specs.Suffixes.{counted_under_cover, cover_rows, others, prefer_weight}
use Rattle.goal_rows.specs.declared.goals.Goal.{Goal}
use Rattle.goal_rows.specs.declared.goals.Goal.TheVariants.{Root, Suffix, Pair, Cover}
use Rattle.goal_rows.specs.declared.parts.Ground.{Ground}
use Rattle.goal_rows.proofs.Lengths.{cover_rows_less}
use Rattle.goal_rows.proofs.PairPoints.{ArePairPoints, pair_points}
use Rattle.goal_rows.proofs.Ways.{reached_cover, reached_pair, reached_suffix}
use Rattle.dual_bound.specs.CutTest.{AreMultipliers, Cuts, CutsKept, IsBound, base_of, change_by, weighed_of}
use Rattle.dual_bound.specs.Largest.{CutsAt, IsGreatestCut}
use Rattle.dual_bound.specs.Weighing.{IsBestNew, base_by, cost_by, gain_by, is_from, limits_bring, of_limits, of_rows, over_weight, row_arcs, times_all}
use Rattle.dual_bound.proofs.Covers.{cover_above, cover_reached, cover_worth}
use Rattle.dual_bound.proofs.Keyed.{IsByKey, IsMost, keyed_test, rows_change, rows_start, sum_z-zip, worth}
use Rattle.dual_bound.proofs.Limits.{limits_change, limits_start, none_bring}
use Rattle.dual_bound.proofs.PathArcs.{flipped, has_from}
use Rattle.dual_bound.proofs.Suffixes.{suffix_brings, suffix_counts, suffix_most}
use Rattle.dual_bound.proofs.SuffixWeights.{key_places, suffix_worth}

-- what the test comes down to
abbrev pub ExactTest : Election → Ground → List Limit → List ℕ → ℤ → ℕ → Type 0
ExactTest e start limits ls best t =
    CutsAt (base_by start limits ls) (map (gain_by best (cost_by start limits ls)) (keys_of e start.goal)) t ↔ Cuts e (node_of start limits) ls t

-- a ground with another goal in its place
abbrev with_goal : Ground → Goal → Ground
with_goal start goal = record { goal = goal; classes = start.classes; sums = start.sums; ballots = start.ballots; lone = start.lone }

-- ---- rows, and limits behind them

long_as_sums : (e : Election) (start : Ground) → IsGroundOf e start → length (map (kept_row e.poll.ballots) (rows_of e start.goal)) ≡ length start.sums
long_as_sums e start values =
    let rows = rows_of e start.goal in
    length-map rows (kept_row e.poll.ballots) ∙ sym (length-map rows (λ weight. sum_z weight e.poll.ballots)) ∙ sym (ap length values.sums)

-- sums over all rows and limits
both_parts : (e : Election) (start : Ground) (limits : List Limit) (ls : List ℕ) (f : ℕ × Kept → ℤ) → IsGroundOf e start
    → sum_z f (weighed_of e (node_of start limits) ls)
    ≡ sum_z f (zip (of_rows start ls) (map (kept_row e.poll.ballots) (rows_of e start.goal))) +ℤ sum_z f (zip (of_limits start ls) (map (kept_limit e start.goal) limits))
both_parts e start limits ls f values =
    let rows = map (kept_row e.poll.ballots) (rows_of e start.goal) in
    let more = map (kept_limit e start.goal) limits in
    subst (λ n. sum_z f (zip ls (rows ++ more)) ≡ sum_z f (zip (take n ls) rows) +ℤ sum_z f (zip (drop n ls) more)) (long_as_sums e start values) (sum_z-zip f ls rows more)

base_is : (e : Election) (start : Ground) (limits : List Limit) (ls : List ℕ) → IsGroundOf e start → base_of (weighed_of e (node_of start limits) ls) ≡ base_by start limits ls
base_is e start limits ls values =
    let both = both_parts e start limits ls (λ w. pos w.0 *ℤ w.1.start) values in
    let rows = rows_start e.poll.ballots (of_rows start ls) (rows_of e start.goal) ∙ ap (times_all (of_rows start ls)) (sym values.sums) in
    let more = limits_start e start.goal (of_limits start ls) limits in
    omega (arith, ints, both, rows, more)

-- what a replacement changes, where it counts for features by a test for the old ballot and one for the new one
change_is : (e : Election) (start : Ground) (limits : List Limit) (ls old new : List ℕ) (by from : Feature → Bool) → IsGroundOf e start
    → ((feature : Feature) → counted_for e start.goal feature (old, new) ≡ one_where (from feature) + one_where (by feature))
    → change_by (weighed_of e (node_of start limits) ls) (old, new)
    ≡ (worth (of_rows start ls) (rows_of e start.goal) new +ℤ limits_bring by (of_limits start ls) limits)
    -ℤ (worth (of_rows start ls) (rows_of e start.goal) old -ℤ limits_bring from (of_limits start ls) limits)
change_is e start limits ls old new by from values counts =
    let both = both_parts e start limits ls (λ w. pos w.0 *ℤ w.1.change (old, new)) values in
    let rows = rows_change e.poll.ballots (of_rows start ls) (rows_of e start.goal) old new in
    let more = limits_change e start.goal (old, new) by from (of_limits start ls) limits counts in
    omega (arith, ints, both, rows, more)

-- the test by keys
by_keys : (e : Election) (start : Ground) (limits : List Limit) (ls : List ℕ) (best : ℤ) (t : ℕ) (brings : List ℕ → ℤ) (key : List ℕ → ℕ)
    → IsGroundOf e start → t ≤ start.ballots + 1 → IsByKey (weighed_of e (node_of start limits) ls) brings (cost_by start limits ls) key → IsMost e.poll brings best
    → CutsAt (base_by start limits ls) (map (gain_by best (cost_by start limits ls)) (map key e.poll.ballots)) t ↔ Cuts e (node_of start limits) ls t
by_keys e start limits ls best t brings key values within by greatest =
    let n = values.ballots in
    let same : min t (length e.poll.ballots + 1) ≡ t = omega (arith, within, n) in
    let weighed = weighed_of e (node_of start limits) ls in
    subst (λ u. CutsAt (base_by start limits ls) (map (gain_by best (cost_by start limits ls)) (map key e.poll.ballots)) t ↔ CutsKept e.poll weighed u) (sym same)
    (keyed_test e.poll weighed brings (cost_by start limits ls) key best (base_by start limits ls) t by greatest (base_is e start limits ls values))

-- ---- suffixes

few_places : (e : Election) (suffix : List ℕ) → IsElection e → IsValidBallot e.poll.c suffix → length suffix ≤ 12
few_places e suffix is valid =
    let few = length_valid e.poll.c suffix valid in
    let most = is.poll.most in
    omega (arith, few, most)

suffix_by_key : (e : Election) (start : Ground) (suffix : List ℕ) (limits : List Limit) (ls : List ℕ) → IsGroundOf e (with_goal start (Suffix suffix))
    → IsValidBallot e.poll.c suffix → length suffix ≤ 12
    → IsByKey (weighed_of e (node_of (with_goal start (Suffix suffix)) limits) ls) (suffix_brings (with_goal start (Suffix suffix)) limits ls suffix)
    (cost_by (with_goal start (Suffix suffix)) limits ls) (suffix_key suffix)
suffix_by_key e start suffix limits ls values valid few old new =
    let here = with_goal start (Suffix suffix) in
    let m = length suffix in
    let key = suffix_key suffix old in
    let change = change_is e here limits ls old new (has_from 0 (signature_of suffix new)) (is_from key) values (suffix_counts suffix old new) in
    let places = ap (path_sum m (row_arcs m (of_rows here ls)) 0) (key_places suffix old (omega (arith, few))) in
    let cost = suffix_worth suffix (of_rows here ls) old valid.distinct in
    omega (arith, ints, change, places, cost)

suffix_exact : (e : Election) (start : Ground) (suffix : List ℕ) (limits : List Limit) (ls : List ℕ) (best : ℤ) (t : ℕ) → IsElection e → IsReached e (Suffix suffix)
    → IsGroundOf e (with_goal start (Suffix suffix)) → t ≤ start.ballots + 1 → IsBestNew (with_goal start (Suffix suffix)) limits ls best
    → ExactTest e (with_goal start (Suffix suffix)) limits ls best t
suffix_exact e start suffix limits ls best t is reached values within greatest =
    let valid = (reached_suffix e suffix is.roots reached).1 in
    let here = with_goal start (Suffix suffix) in
    by_keys e here limits ls best t (suffix_brings here limits ls suffix) (suffix_key suffix) values within
    (suffix_by_key e start suffix limits ls values valid (few_places e suffix is valid)) (suffix_most e.poll here limits ls suffix best valid greatest)

-- ---- covers

cover_counts : (x : ℕ) (old new : List ℕ) (feature : Feature)
    → counted_under_cover x feature (old, new) ≡ one_where (is_from (cover_key x old) feature) + one_where false
cover_counts x old new (From key) = let same = ap one_where (flipped (cover_key x old) key) in omega (arith, same)
cover_counts x old new (Arc u p) = omega arith

alone_valid : (c g : ℕ) → g < c → IsValidBallot c (g ∷ [])
alone_valid c g lt = record { below = only; distinct = λ i j d less within. absurd (omega arith) }
  where
    only : All (λ x. x < c) (g ∷ [])
    only zero d within = lt
    only (suc i) d within = absurd (omega arith)

-- as many multipliers as rows
long_rows : (start : Ground) (limits : List Limit) (ls : List ℕ) → length ls ≡ length start.sums + length limits → length (of_rows start ls) ≡ length start.sums
long_rows start limits ls long = let l = length-take (length start.sums) ls in omega (arith, l, long)

all_but_one : (e : Election) (start : Ground) (x : ℕ) → IsGroundOf e (with_goal start (Cover x)) → x < e.poll.c → length start.sums + 1 ≡ e.poll.c
all_but_one e start x values xc =
    let n = cover_rows_less e.poll.c x xc in
    let l = ap length values.sums in
    let m = length-map (cover_rows e.poll.c x) (λ weight. sum_z weight e.poll.ballots) in
    omega (arith, n, l, m, xc)

cover_by_key : (e : Election) (start : Ground) (x : ℕ) (limits : List Limit) (ls : List ℕ) → IsGroundOf e (with_goal start (Cover x)) → x < e.poll.c → e.poll.c ≤ 40
    → IsByKey (weighed_of e (node_of (with_goal start (Cover x)) limits) ls) (worth (of_rows start ls) (cover_rows e.poll.c x)) (cost_by (with_goal start (Cover x)) limits ls) (cover_key x)
cover_by_key e start x limits ls values xc few old new =
    let here = with_goal start (Cover x) in
    let key = cover_key x old in
    let change = change_is e here limits ls old new (λ feature. false) (is_from key) values (cover_counts x old new) in
    let none = none_bring (of_limits here ls) limits in
    let cost = cover_worth e.poll.c x (of_rows here ls) old xc few in
    let whole = ap (λ c. times_all (of_rows here ls) (map (over_weight x key) (others c x))) (all_but_one e start x values xc) in
    omega (arith, ints, change, none, cost, whole)

cover_exact : (e : Election) (start : Ground) (x : ℕ) (limits : List Limit) (ls : List ℕ) (best : ℤ) (t : ℕ) → IsElection e → IsReached e (Cover x)
    → IsGroundOf e (with_goal start (Cover x)) → length ls ≡ length start.sums + length limits → t ≤ start.ballots + 1
    → IsBestNew (with_goal start (Cover x)) limits ls best → ExactTest e (with_goal start (Cover x)) limits ls best t
cover_exact e start x limits ls best t is reached values long within greatest =
    let xc = (reached_cover e x is.roots reached).1 in
    let most = is.poll.most in
    let few : e.poll.c ≤ 40 = omega (arith, most) in
    let here = with_goal start (Cover x) in
    let n = long_rows start limits ls long in
    let less = cover_rows_less e.poll.c x xc in
    let all = all_but_one e start x values xc in
    let m = length-map (others e.poll.c x) (prefer_weight x) in
    by_keys e here limits ls best t (worth (of_rows start ls) (cover_rows e.poll.c x)) (cover_key x) values within (cover_by_key e start x limits ls values xc few)
    (record {
      above = λ new ok. let le = cover_above x (of_rows start ls) new (others e.poll.c x) in omega (arith, ints, le, greatest);
      reached = (x ∷ [], alone_valid e.poll.c x xc, cover_reached e.poll.c x (of_rows start ls) few (omega (arith, n, less, all, m)) ∙ sym greatest);
    })

-- ---- goals without features

no_limits : (IsFeature : Feature → Type 0) (limits : List Limit) → ((feature : Feature) → IsFeature feature → ⊥) → All (λ limit. IsFeature limit.feature) limits → limits ≡ []
no_limits IsFeature [] none all = refl
no_limits IsFeature (limit ∷ limits) none all = absurd (none limit.feature (all 0 limit (omega arith)))

nothing_brought : (test : Feature → Bool) (ls : List ℕ) (limits : List Limit) → limits ≡ [] → limits_bring test ls limits ≡ pos 0
nothing_brought test ls limits none = ap (limits_bring test ls) none ∙ by ls
  where
    by : (ls : List ℕ) → limits_bring test ls [] ≡ pos 0
    by [] = refl
    by (l ∷ ls) = refl

-- ---- pairs

times_more : (m : ℕ) (a b : ℤ) → a ≤ℤ b → (pos m *ℤ a) ≤ℤ (pos m *ℤ b)
times_more m a b le = by (b -ℤ a) refl
  where
    by : (d : ℤ) → d ≡ b -ℤ a → (pos m *ℤ a) ≤ℤ (pos m *ℤ b)
    by (pos n) is =
        let whole : a +ℤ pos n ≡ b = omega (arith, ints, is) in
        let apart = distrib m a (pos n) in
        let same = ap (λ z. pos m *ℤ z) whole in
        omega (arith, ints, apart, same)
    by (negsuc n) is = absurd (omega (arith, ints, is, le))

-- one row with its multiplier
one_row : (rows : List ℕ) (weight : List ℕ → ℤ) (ballot : List ℕ) (z : ℤ) → length rows ≡ 1 → weight ballot ≡ z → worth rows (weight ∷ []) ballot ≡ pos (get_or rows 0 0) *ℤ z
one_row [] weight ballot z one is = absurd (omega (arith, one))
one_row (m ∷ []) weight ballot z one is = let same = ap (λ y. pos m *ℤ y) is in omega (arith, ints, same)
one_row (m ∷ l ∷ rows) weight ballot z one is = absurd (omega (arith, one))

pair_by_key : (e : Election) (start : Ground) (g l : ℕ) (limits : List Limit) (ls : List ℕ) → IsGroundOf e (with_goal start (Pair g l)) → limits ≡ [] → ArePairPoints e g l
    → length (of_rows start ls) ≡ 1
    → IsByKey (weighed_of e (node_of (with_goal start (Pair g l)) limits) ls) (worth (of_rows start ls) (pair_weight e g l ∷ [])) (cost_by (with_goal start (Pair g l)) limits ls) (key_of e (Pair g l))
pair_by_key e start g l limits ls values none are one old new =
    let here = with_goal start (Pair g l) in
    let key = key_of e (Pair g l) old in
    let change = change_is e here limits ls old new (λ feature. false) (λ feature. false) values (λ feature. refl) in
    let nothing = none_bring (of_limits here ls) limits in
    let low = are.low old in
    let is : pair_weight e g l old ≡ pos key -ℤ pos 1024 = omega (arith, ints, low) in
    let cost = one_row (of_rows start ls) (pair_weight e g l) old (pos key -ℤ pos 1024) one is in
    let from = nothing_brought (is_from key) (of_limits here ls) limits none in
    omega (arith, ints, change, nothing, cost, from)

pair_most : (e : Election) (g l : ℕ) (rows : List ℕ) (lone best : ℤ) → ArePairPoints e g l → g < e.poll.c → length rows ≡ 1 → lone ≡ pair_weight e g l (g ∷ [])
    → best ≡ pos (get_or rows 0 0) *ℤ lone → IsMost e.poll (worth rows (pair_weight e g l ∷ [])) best
pair_most e g l rows lone best are below one lone_is best_is = record {
  above = λ new ok.
      let high = are.high new in
      let none = are.none in
      let le : pair_weight e g l new ≤ℤ lone = omega (arith, ints, high, none, lone_is) in
      let more = times_more (get_or rows 0 0) (pair_weight e g l new) lone le in
      let is = one_row rows (pair_weight e g l) new (pair_weight e g l new) one refl in
      omega (arith, ints, more, is, best_is);
  reached = (g ∷ [], alone_valid e.poll.c g below, one_row rows (pair_weight e g l) (g ∷ []) lone one (sym lone_is) ∙ sym best_is);
}

pair_exact : (e : Election) (start : Ground) (g l : ℕ) (limits : List Limit) (ls : List ℕ) (best : ℤ) (t : ℕ) → IsElection e → IsReached e (Pair g l)
    → IsGroundOf e (with_goal start (Pair g l)) → All (λ limit. IsFeatureOf e (Pair g l) limit.feature) limits → length ls ≡ length start.sums + length limits
    → t ≤ start.ballots + 1 → IsBestNew (with_goal start (Pair g l)) limits ls best → ExactTest e (with_goal start (Pair g l)) limits ls best t
pair_exact e start g l limits ls best t is reached values features long within greatest =
    let root = (reached_pair e g l is.roots reached).1 in
    let are = pair_points e g l is root in
    let none = no_limits (IsFeatureOf e (Pair g l)) limits (λ feature h. h) features in
    let s : length start.sums ≡ 1 = ap length values.sums in
    let one : length (of_rows start ls) ≡ 1 = omega (arith, long_rows start limits ls long, s) in
    by_keys e (with_goal start (Pair g l)) limits ls best t (worth (of_rows start ls) (pair_weight e g l ∷ [])) (key_of e (Pair g l)) values within
    (pair_by_key e start g l limits ls values none are one) (pair_most e g l (of_rows start ls) start.lone best are root.1 one values.lone greatest)

-- ---- the root

no_rows : (e : Election) (ls : List ℕ) (limits : List Limit) → limits ≡ [] → base_of (weighed_of e (record { goal = Root; limits = limits }) ls) ≡ pos 0
no_rows e ls limits none = ap (λ xs. base_of (weighed_of e (record { goal = Root; limits = xs }) ls)) none ∙ by ls
  where
    by : (ls : List ℕ) → base_of (weighed_of e (record { goal = Root; limits = [] }) ls) ≡ pos 0
    by [] = refl
    by (l ∷ ls) = refl

-- no sum from 0 on is below 0
never_below : (base : ℤ) (n : ℕ) → base ≡ pos 0 → (base +ℤ pos n) <ℤ pos 0 → ⊥
never_below base n is lt = omega (arith, ints, is, lt)

root_kept : (e : Election) (limits : List Limit) (ls : List ℕ) (t : ℕ) → limits ≡ [] → Cuts e (record { goal = Root; limits = limits }) ls t → t ≡ 0
root_kept e limits ls t none (inl z) = omega (arith, z)
root_kept e limits ls t none (inr cut) = absurd (never_below (base_of (weighed_of e (record { goal = Root; limits = limits }) ls)) (most (min t (length e.poll.ballots + 1) - 1) cut.0) (no_rows e ls limits none) cut.2)

cut_at_none : (e : Election) (node : Node) (ls : List ℕ) → Cuts e node ls 0
cut_at_none e node ls = inl (omega arith)

root_exact : (e : Election) (start : Ground) (limits : List Limit) (ls : List ℕ) (best : ℤ) (t : ℕ) → IsGroundOf e (with_goal start Root)
    → All (λ limit. IsFeatureOf e Root limit.feature) limits → ExactTest e (with_goal start Root) limits ls best t
root_exact e start limits ls best t values features = (into, out)
  where
    here : Ground
    here = with_goal start Root

    none : limits ≡ []
    none = no_limits (IsFeatureOf e Root) limits (λ feature h. h) features

    into : CutsAt (base_by (with_goal start Root) limits ls) [] t → Cuts e (record { goal = Root; limits = limits }) ls t
    into (inl z) = subst (Cuts e (record { goal = Root; limits = limits }) ls) (sym z) (cut_at_none e (record { goal = Root; limits = limits }) ls)
    into (inr lt) = absurd (never_below (base_by (with_goal start Root) limits ls) (most (t - 1) []) (sym (base_is e (with_goal start Root) limits ls values) ∙ no_rows e ls limits none) lt)

    out : Cuts e (record { goal = Root; limits = limits }) ls t → CutsAt (base_by (with_goal start Root) limits ls) [] t
    out cut = inl (root_kept e limits ls t none cut)

-- ---- every goal

pub exact_by : (e : Election) (start : Ground) (goal : Goal) (limits : List Limit) (ls : List ℕ) (best : ℤ) (t : ℕ) → IsElection e → IsReached e goal
    → IsGroundOf e (with_goal start goal) → All (λ limit. IsFeatureOf e goal limit.feature) limits → length ls ≡ length start.sums + length limits
    → t ≤ start.ballots + 1 → IsBestNew (with_goal start goal) limits ls best → ExactTest e (with_goal start goal) limits ls best t
exact_by e start Root limits ls best t is reached values features long within greatest = root_exact e start limits ls best t values features
exact_by e start (Suffix suffix) limits ls best t is reached values features long within greatest = suffix_exact e start suffix limits ls best t is reached values within greatest
exact_by e start (Pair g l) limits ls best t is reached values features long within greatest =
    pair_exact e start g l limits ls best t is reached values features long within greatest
exact_by e start (Cover x) limits ls best t is reached values features long within greatest = cover_exact e start x limits ls best t is reached values long within greatest

-- over the gains by the keys of the ballots, the test is that of the definition
pub test_is_exact : (e : Election) (start : Ground) (limits : List Limit) (ls : List ℕ) (best : ℤ) (t : ℕ) → IsGroundIn e start → AreLimits e (node_of start limits)
    → AreMultipliers start limits ls → t ≤ start.ballots + 1 → IsBestNew start limits ls best
    → CutsAt (base_by start limits ls) (map (gain_by best (cost_by start limits ls)) (keys_of e start.goal)) t ↔ Cuts e (node_of start limits) ls t
test_is_exact e start limits ls best t is few are within greatest =
    exact_by e start start.goal limits ls best t is.election is.reached is.values few.features are.one_each within greatest

-- the classes of a ground are those of the keys
pub grouped_keys : (e : Election) (start : Ground) → IsGroundIn e start → IsGrouped (keys_of e start.goal) start.classes
grouped_keys e start is = subst (IsGrouped (keys_of e start.goal)) (sym is.values.classes) (keys_are_classes (keys_of e start.goal)).counted

-- an answer that is the test for all keys in these classes
pub node_test : (e : Election) (start : Ground) (limits : List Limit) (ls : List ℕ) (best : ℤ) (t : ℕ) (answer : Bool) → IsGroundIn e start → AreLimits e (node_of start limits)
    → AreMultipliers start limits ls → t ≤ start.ballots + 1 → IsBestNew start limits ls best
    → ((keys : List ℕ) → IsGrouped keys start.classes → IsTrue answer ↔ CutsAt (base_by start limits ls) (map (gain_by best (cost_by start limits ls)) keys) t)
    → IsTrue answer ↔ Cuts e (node_of start limits) ls t
node_test e start limits ls best t answer is few are within greatest answers =
    let h = answers (keys_of e start.goal) (grouped_keys e start is) in
    let exact = test_is_exact e start limits ls best t is few are within greatest in
    (λ hit. exact.0 (h.0 hit), λ cut. h.1 (exact.1 cut))

pub bound_is_exact : (e : Election) (start : Ground) (limits : List Limit) (ls : List ℕ) (best : ℤ) (t : ℕ) → IsGroundIn e start → AreLimits e (node_of start limits)
    → AreMultipliers start limits ls → IsBestNew start limits ls best
    → IsGreatestCut (base_by start limits ls) (map (gain_by best (cost_by start limits ls)) (keys_of e start.goal)) (start.ballots + 1) t → IsBound e (node_of start limits) ls t
bound_is_exact e start limits ls best t is few are greatest cut =
    let test = λ (u : ℕ) (le : u ≤ start.ballots + 1). test_is_exact e start limits ls best u is few are le greatest in
    let n = is.values.ballots in
    record {
      within = omega (arith, cut.within, n);
      cut = (test t cut.within).0 cut.cut;
      greatest = λ u le also. let in_range : u ≤ start.ballots + 1 = omega (arith, le, n) in cut.greatest u in_range ((test u in_range).1 also);
    }

-- a number that is the greatest cut for all keys in these classes
pub node_bound : (e : Election) (start : Ground) (limits : List Limit) (ls : List ℕ) (best : ℤ) (t : ℕ) → IsGroundIn e start → AreLimits e (node_of start limits)
    → AreMultipliers start limits ls → IsBestNew start limits ls best
    → ((keys : List ℕ) → IsGrouped keys start.classes → IsGreatestCut (base_by start limits ls) (map (gain_by best (cost_by start limits ls)) keys) (start.ballots + 1) t)
    → IsBound e (node_of start limits) ls t
node_bound e start limits ls best t is few are greatest answers =
    bound_is_exact e start limits ls best t is few are greatest (answers (keys_of e start.goal) (grouped_keys e start is))

-- ---- the root by itself

root_limits : (e : Election) (start : Ground) (limits : List Limit) → AreLimits e (node_of start limits) → start.goal ≡ Root → limits ≡ []
root_limits e start limits few goal_is =
    no_limits (IsFeatureOf e Root) limits (λ feature h. h) (subst (λ goal. All (λ limit. IsFeatureOf e goal limit.feature) limits) goal_is few.features)

-- the root is cut at 0 alone
root_at_none : (e : Election) (start : Ground) (limits : List Limit) (ls : List ℕ) (t : ℕ) → AreLimits e (node_of start limits) → start.goal ≡ Root
    → Cuts e (node_of start limits) ls t → t ≡ 0
root_at_none e start limits ls t few goal_is cut =
    root_kept e limits ls t (root_limits e start limits few goal_is) (subst (λ goal. Cuts e (record { goal = goal; limits = limits }) ls t) goal_is cut)

pub root_test : (e : Election) (start : Ground) (limits : List Limit) (ls : List ℕ) (t : ℕ) → AreLimits e (node_of start limits) → start.goal ≡ Root
    → IsTrue (nat_eq t 0) ↔ Cuts e (node_of start limits) ls t
root_test e start limits ls t few goal_is = (
  λ hit. subst (Cuts e (node_of start limits) ls) (sym ((Decides-eqb t 0).0 hit)) (cut_at_none e (node_of start limits) ls),
  λ cut. (Decides-eqb t 0).1 (root_at_none e start limits ls t few goal_is cut),
)

pub root_bound : (e : Election) (start : Ground) (limits : List Limit) (ls : List ℕ) → AreLimits e (node_of start limits) → start.goal ≡ Root
    → IsBound e (node_of start limits) ls 0
root_bound e start limits ls few goal_is = record {
  within = omega arith;
  cut = cut_at_none e (node_of start limits) ls;
  greatest = λ u le cut. omega (arith, root_at_none e start limits ls u few goal_is cut);
}
