-- The bound of a cell whose values break no row: what they cost.
use Rattle.std.proofs.Common.{◌≡◌, ℕ, zero, suc, ◌+◌, ◌-◌, ◌*◌, ◌<◌, ◌≤◌, List, [], ◌∷◌, ◌++◌, Bool, true, false, Some, None, cond, drop, get_or, length, map, min, replicate, take, ap, refl, subst, sym, ◌∙◌, inl, inr, arith, All}
use Rattle.std.specs.Prelude.{◌==◌, ℤ, pos, ◌+ℤ◌, ◌-ℤ◌, ◌*ℤ◌, ◌≤ℤ◌, unsigned_abs, int_lt, nat_lt}
use Rattle.std.specs.Int.{int_max}
use Rattle.std.specs.List.{list_any, position, position_or_len, range_with_len, zip}
use Rattle.std.proofs.Math.IntN.{negsuc}
use Rattle.std.proofs.lemmas.Bool.{cases_eq}
use Rattle.std.proofs.lemmas.Int.{int_max_is, ints}
use Rattle.std.proofs.lemmas.Bool.Decides.{nat_tests}
use Rattle.std.proofs.lemmas.List.{length-map, map-append}
use Rattle.std.proofs.lemmas.List.FromFn.{length-range_with_len}
use Rattle.std.proofs.lemmas.List.Sums.{position_or_len_is}
use Rattle.irv_count.proofs.Members.{differ_test, same_test}
use Rattle.mov_base.specs.Sums.{add_up, most, sum_z}
use Rattle.row_program.specs.Forms.{empty_row}
use Rattle.row_program.specs.Points.{cost_of, row_value}
use Rattle.row_program.specs.declared.program.Row.{Row}
use Rattle.row_program.specs.declared.Feature.{Feature}
use Rattle.row_program.specs.declared.Feature.TheVariants.{From, Arc}
use Rattle.row_program.specs.declared.Limit.{Limit}
use Rattle.sig_graph.specs.Paths.{arc_at, arcs_of, path_sum}
use Rattle.sig_graph.specs.Rows.{one_where, row_weight_of}
use Rattle.goal_rows.specs.Cells.{HasFeatures, IsCell, cell_values, low_end, same_feature}
use Rattle.goal_rows.specs.Elections.{Election}
use Rattle.goal_rows.specs.Nodes.{AreLimits, node_of}
use Rattle.goal_rows.specs.Programs.{IsPointOf, arcs_under, costs_of, point_cost_of, program_rows}
use Rattle.goal_rows.specs.Suffixes.{others}
use Rattle.goal_rows.specs.Races.{IsGroundIn, key_of, keys_of}
use Rattle.goal_rows.specs.declared.goals.Goal.{Goal}
use Rattle.goal_rows.specs.declared.goals.Goal.TheVariants.{Root, Suffix, Pair, Cover}
use Rattle.goal_rows.specs.declared.parts.Ground.{Ground}
use Rattle.dual_bound.specs.CellCuts.{case_of, cell_multipliers, features_of, first_broken, given_each, given_in, is_broken, same_limit, terms_at}
use Rattle.dual_bound.specs.CellParts.{IsFixedClass, variable}
use Rattle.dual_bound.specs.CutTest.{AreMultipliers, IsBound}
use Rattle.dual_bound.specs.declared.cell_cuts.Case.TheVariants.{NoRow}
use Rattle.dual_bound.specs.Largest.{CutsAt, IsGreatestCut}
use Rattle.dual_bound.specs.Sizes.{places_of}
use Rattle.dual_bound.specs.Weighing.{IsBestNew, base_by, cost_by, gain_by, gain_over, is_arc, is_from, limit_start, limits_bring, of_limits, of_rows, over_weight, places_by, row_places, rows_bring, rows_cost, times_all}
use Rattle.dual_bound.proofs.CellEnds.{high_below}
use Rattle.dual_bound.proofs.CellFeatures.{counted_once}
use Rattle.dual_bound.proofs.CellMultipliers.{row_part}
use Rattle.dual_bound.proofs.CellVariables.{features_are, fixed_classes, map_twice, values_are}
use Rattle.dual_bound.proofs.Exact.{bound_is_exact, grouped_keys}
use Rattle.dual_bound.proofs.GivenLimits.{got, kept_at, limits_base, limits_on, low_or_limit, lower, upper}

-- ---- gains of 0 and 1

abbrev pub AreOnes : List ℕ → Type 0
AreOnes [] = Unit {0}
AreOnes (x ∷ xs) = (x ≤ 1) × AreOnes xs

most_ones : (k : ℕ) (xs : List ℕ) → AreOnes xs → most k xs ≡ min k (add_up (λ x. x) xs)
most_ones k [] ones = omega arith
most_ones zero (x ∷ xs) ones = omega arith
most_ones (suc k) (x ∷ xs) ones = omega (arith, ones.0, most_ones k xs ones.1, most_ones (suc k) xs ones.1)

cost_cuts : (base : ℤ) (cost t : ℕ) (gs : List ℕ) → base ≡ pos 0 -ℤ pos cost → AreOnes gs → cost ≤ add_up (λ g. g) gs → CutsAt base gs t → t ≤ cost
cost_cuts base cost t gs is ones enough (inl z) = omega (arith, z)
cost_cuts base cost t gs is ones enough (inr c) = let m = most_ones (t - 1) gs ones in omega (arith, ints, m, c, is)

cost_cuts_back : (base : ℤ) (cost t : ℕ) (gs : List ℕ) → base ≡ pos 0 -ℤ pos cost → AreOnes gs → t ≤ cost → CutsAt base gs t
cost_cuts_back base cost zero gs is ones le = inl refl
cost_cuts_back base cost (suc t) gs is ones le = let m = most_ones (suc t - 1) gs ones in inr (omega (arith, ints, m, is))

few_ones : (gs : List ℕ) → AreOnes gs → add_up (λ g. g) gs ≤ length gs
few_ones [] ones = omega arith
few_ones (g ∷ gs) ones = omega (arith, ones.0, few_ones gs ones.1)

-- the greatest cut is the cost
cost_is_greatest : (base : ℤ) (cost end : ℕ) (gs : List ℕ) → base ≡ pos 0 -ℤ pos cost → AreOnes gs → cost ≤ add_up (λ g. g) gs → length gs ≤ end → IsGreatestCut base gs (end + 1) cost
cost_is_greatest base cost end gs is ones enough long = record {
  within = omega (arith, few_ones gs ones, enough, long);
  cut = cost_cuts_back base cost cost gs is ones (omega arith);
  greatest = λ u le cut. cost_cuts base cost u gs is ones enough cut;
}

-- ---- rows with multipliers of 0

pub none_times : (z : ℤ) → pos 0 *ℤ z ≡ pos 0
none_times (pos n) = omega (arith, ints)
none_times (negsuc n) = omega (arith, ints)

-- multipliers that are all 0
abbrev pub AreZeros : List ℕ → Type 0
AreZeros [] = Unit {0}
AreZeros (l ∷ ls) = (l ≡ 0) × AreZeros ls

range_zeros : (a n : ℕ) → AreZeros (map (λ r. one_where false) (range_with_len a n))
range_zeros a zero = tt
range_zeros a (suc n) = (refl, range_zeros (a + 1) n)

pub zeros_times : {A : Type 0} (f : ℕ × A → ℤ) (ls : List ℕ) (xs : List A) → ((x : A) → f (0, x) ≡ pos 0) → AreZeros ls → sum_z f (zip ls xs) ≡ pos 0
zeros_times f [] xs none all = refl
zeros_times f (l ∷ ls) [] none all = refl
zeros_times f (l ∷ ls) (x ∷ xs) none all =
    let here = ap (λ k. f (k, x)) all.0 ∙ none x in
    let rest = zeros_times f ls xs none all.1 in
    omega (arith, ints, here, rest)

zeros_sum : (ls : List ℕ) → AreZeros ls → add_up (λ l. l) ls ≡ 0
zeros_sum [] all = refl
zeros_sum (l ∷ ls) all = omega (arith, all.0, zeros_sum ls all.1)

-- weights that are all 0
all_none : (f : ℕ × ℕ → ℤ) (xs : List (ℕ × ℕ)) (k : ℕ) → ((a : ℕ × ℕ) → f a ≡ pos 0) → get_or (map f xs) k (pos 0) ≡ pos 0
all_none f [] k none = refl
all_none f (x ∷ xs) zero none = none x
all_none f (x ∷ xs) (suc k) none = all_none f xs k none

path_none : (m u : ℕ) (f : ℕ × ℕ → ℤ) (path : List ℕ) → ((a : ℕ × ℕ) → f a ≡ pos 0) → path_sum m (map f (arcs_of m)) u path ≡ pos 0
path_none m u f [] none = refl
path_none m u f (x ∷ path) none =
    let here = all_none f (arcs_of m) (arc_at m u x) none in
    let rest = path_none m x f path none in
    omega (arith, ints, here, rest)

-- ---- parts of a list

pub take_front : (xs ys : List ℕ) (n : ℕ) → length xs ≡ n → take n (xs ++ ys) ≡ xs
take_front [] ys zero e = refl
take_front [] ys (suc n) e = absurd (omega (arith, e))
take_front (x ∷ xs) ys zero e = absurd (omega (arith, e))
take_front (x ∷ xs) ys (suc n) e = ap (λ zs. x ∷ zs) (take_front xs ys n (omega (arith, e)))

pub drop_front : (xs ys : List ℕ) (n : ℕ) → length xs ≡ n → drop n (xs ++ ys) ≡ ys
drop_front [] ys zero e = refl
drop_front [] ys (suc n) e = absurd (omega (arith, e))
drop_front (x ∷ xs) ys zero e = absurd (omega (arith, e))
drop_front (x ∷ xs) ys (suc n) e = drop_front xs ys n (omega (arith, e))

sum_z-append : (f : Feature → ℤ) (xs ys : List Feature) → sum_z f (xs ++ ys) ≡ sum_z f xs +ℤ sum_z f ys
sum_z-append f [] ys = omega (arith, ints)
sum_z-append f (x ∷ xs) ys = let h = sum_z-append f xs ys in omega (arith, ints, h)

-- ---- what limits on classes get

-- 1 where there is some
abbrev pub some_of : ℕ → ℕ
some_of p = cond (p == 0) 0 1

some_times : (p : ℕ) → some_of p * p ≡ p
some_times p = elim (cases_eq p 0) [
  | inl none ↦ rw (same_test p 0 none) (omega (arith, none))
  | inr some ↦ rw (differ_test p 0 some) (omega arith)
]

some_most : (p : ℕ) → some_of p ≤ 1
some_most p = by (p == 0)
  where
    by : (b : Bool) → cond b 0 1 ≤ 1
    by true = omega arith
    by false = omega arith

some_enough : (p n : ℕ) → p ≤ n → p ≤ n * some_of p
some_enough p n le = elim (cases_eq p 0) [
  | inl none ↦ omega (arith, none)
  | inr some ↦ rw (differ_test p 0 some) (omega (arith, le))
]

nothing : (b : Bool) → ◌≡◌ {A = ℕ} (cond b 0 0) 0
nothing true = refl
nothing false = refl

-- what the third case gives
abbrev pub third : List Feature → Limit → ℕ
third features = given_in NoRow features []

upper_none : (limits : List Limit) (features : List Feature) (f : Feature) → got limits (third features) (upper limits (third features) f) [] limits ≡ 0
upper_none limits features f = nothing (list_any (same_limit (upper limits (third features) f)) limits)

lower_arc : (limits : List Limit) (features : List Feature) (u x : ℕ) → got limits (third features) (lower limits (third features) (Arc u x)) [] limits ≡ 0
lower_arc limits features u x =
    ap (λ n. cond (list_any (same_limit (lower limits (third features) (Arc u x))) limits) n 0) (nothing (low_end limits (Arc u x) == 0))
    ∙ nothing (list_any (same_limit (lower limits (third features) (Arc u x))) limits)

lower_class : (limits : List Limit) (features : List Feature) (key : ℕ)
    → got limits (third features) (lower limits (third features) (From key)) [] limits ≡ some_of (low_end limits (From key))
lower_class limits features key =
    let p = low_end limits (From key) in
    let there = list_any (same_limit (lower limits (third features) (From key))) limits in
    elim (low_or_limit limits (From key)) [
      | inl none ↦
          let z = same_test p 0 none in
          ap (λ b. cond there (cond b 0 1) 0) z ∙ nothing there ∙ sym (ap (λ b. cond b 0 1) z)
      | inr on ↦ ap (λ b. cond b (cond (p == 0) 0 1) 0) on
    ]

-- ---- the value before any replacement

class_sum : (limits : List Limit) (features : List Feature) (cs : List (ℕ × ℕ))
    → sum_z (kept_at limits (third features) [] limits) (map (λ (c : ℕ × ℕ). From c.0) cs) ≡ pos 0 -ℤ pos (add_up (λ c. low_end limits (From c.0)) cs)
class_sum limits features [] = refl
class_sum limits features (c ∷ cs) =
    let p = low_end limits (From c.0) in
    let u = upper_none limits features (From c.0) in
    let d = lower_class limits features c.0 in
    let s = some_times p in
    let here : kept_at limits (third features) [] limits (From c.0) ≡ pos 0 -ℤ pos p =
    ap (λ n. pos (n * p) -ℤ pos (got limits (third features) (lower limits (third features) (From c.0)) [] limits * p)) u
    ∙ ap (λ n. pos (0 * p) -ℤ pos (n * p)) d ∙ ap (λ n. pos (0 * p) -ℤ pos n) s ∙ omega (arith, ints) in
    let rest = class_sum limits features cs in
    omega (arith, ints, here, rest)

arc_sum : (limits : List Limit) (features : List Feature) (arcs : List (ℕ × ℕ)) → sum_z (kept_at limits (third features) [] limits) (map (λ (a : ℕ × ℕ). Arc a.0 a.1) arcs) ≡ pos 0
arc_sum limits features [] = refl
arc_sum limits features (a ∷ arcs) =
    let p = low_end limits (Arc a.0 a.1) in
    let u = upper_none limits features (Arc a.0 a.1) in
    let d = lower_arc limits features a.0 a.1 in
    let here : kept_at limits (third features) [] limits (Arc a.0 a.1) ≡ pos 0 =
    ap (λ n. pos (n * p) -ℤ pos (got limits (third features) (lower limits (third features) (Arc a.0 a.1)) [] limits * p)) u
    ∙ ap (λ n. pos (0 * p) -ℤ pos (n * p)) d ∙ omega (arith, ints) in
    let rest = arc_sum limits features arcs in
    omega (arith, ints, here, rest)

-- what the classes' values are together
abbrev pub class_cost : Ground → List Limit → ℕ
class_cost start limits = add_up (λ c. low_end limits (From c.0)) start.classes

all_sum : (start : Ground) (limits : List Limit) (features : List Feature) → sum_z (kept_at limits (third features) [] limits) (features_of start) ≡ pos 0 -ℤ pos (class_cost start limits)
all_sum start limits features =
    let f = kept_at limits (third features) [] limits in
    let classes = map (λ (c : ℕ × ℕ). From c.0) start.classes in
    let arcs = map (λ (a : ℕ × ℕ). Arc a.0 a.1) (arcs_of (places_of start.goal)) in
    let whole = ap (sum_z f) (features_are start) in
    let split = sum_z-append f classes arcs in
    let one = class_sum limits features start.classes in
    let two = arc_sum limits features (arcs_of (places_of start.goal)) in
    omega (arith, ints, whole, split, one, two)

-- ---- what a replacement brings

pub by_key : (key : ℕ) (g : Feature) → is_from key g ≡ same_feature (From key) g
by_key key (From other) = refl
by_key key (Arc u p) = refl

pub by_arc : (a : ℕ × ℕ) (g : Feature) → is_arc a g ≡ same_feature (Arc a.0 a.1) g
by_arc a (From key) = refl
by_arc a (Arc u p) = refl

key_brings : (limits : List Limit) (features : List Feature) (key : ℕ)
    → limits_bring (is_from key) (given_each limits (third features) [] limits) limits ≡ pos (some_of (low_end limits (From key)))
key_brings limits features key =
    let h = limits_on limits (third features) (From key) (is_from key) (by_key key) [] limits in
    let u = upper_none limits features (From key) in
    let d = lower_class limits features key in
    omega (arith, ints, h, u, d)

arc_brings : (limits : List Limit) (features : List Feature) (a : ℕ × ℕ) → limits_bring (is_arc a) (given_each limits (third features) [] limits) limits ≡ pos 0
arc_brings limits features a =
    let h = limits_on limits (third features) (Arc a.0 a.1) (is_arc a) (by_arc a) [] limits in
    let u = upper_none limits features (Arc a.0 a.1) in
    let d = lower_arc limits features a.0 a.1 in
    omega (arith, ints, h, u, d)

pub rows_none : (m : ℕ) (rows : List ℕ) (a : ℕ × ℕ) → AreZeros rows → rows_bring m rows a ≡ pos 0
rows_none m rows a all = zeros_times (λ r. pos r.0 *ℤ row_weight_of r.1.0 r.1.1 a) rows (row_places m) (λ r. none_times (row_weight_of r.0 r.1 a)) all

abbrev with_goal : Ground → Goal → Ground
with_goal start goal = record { goal = goal; classes = start.classes; sums = start.sums; ballots = start.ballots; lone = start.lone }

pub cost_none : (start : Ground) (goal : Goal) (rows : List ℕ) (key : ℕ) → HasFeatures goal → AreZeros rows → rows_cost (with_goal start goal) rows key ≡ pos 0
cost_none start Root rows key has all = absurd has
cost_none start (Suffix suffix) rows key has all =
    path_none (length suffix) 0 (rows_bring (length suffix) rows) (places_by (length suffix) key) (λ a. rows_none (length suffix) rows a all)
cost_none start (Pair g l) rows key has all = absurd has
cost_none start (Cover x) rows key has all =
    zeros_times (λ v. pos v.0 *ℤ v.1) rows (map (over_weight x key) (others (length start.sums + 1) x)) none_times all

best_none : (start : Ground) (goal : Goal) (limits : List Limit) (ls : List ℕ) → HasFeatures goal → AreZeros (of_rows start ls)
    → ((a : ℕ × ℕ) → limits_bring (is_arc a) (of_limits start ls) limits ≡ pos 0) → IsBestNew (with_goal start goal) limits ls (pos 0)
best_none start Root limits ls has all none = absurd has
best_none start (Suffix suffix) limits ls has all none =
    let m = length suffix in
    let each : (a : ℕ × ℕ) → rows_bring m (of_rows start ls) a +ℤ limits_bring (is_arc a) (of_limits start ls) limits ≡ pos 0 =
    λ a. let r = rows_none m (of_rows start ls) a all in let l = none a in omega (arith, ints, r, l) in
    record {
      above = λ path is. let z = path_none m 0 (λ a. rows_bring m (of_rows start ls) a +ℤ limits_bring (is_arc a) (of_limits start ls) limits) path each in omega (arith, ints, z);
      reached = ([], tt, refl);
    }
best_none start (Pair g l) limits ls has all none = absurd has
best_none start (Cover x) limits ls has all none = sym (ap (λ n. pos n) (zeros_sum (of_rows start ls) all))

over_none : (cost : ℤ) (n : ℕ) → pos 0 -ℤ cost ≡ pos n → gain_over (pos 0) cost ≡ n
over_none cost n is =
    let m : int_max (pos n) (pos 0) ≡ pos n = omega (arith, ints, int_max_is (pos n) (pos 0)) in
    ap (λ z. unsigned_abs (int_max z (pos 0))) is ∙ ap (λ z. unsigned_abs z) m

-- ---- the bound

made_ones : (f g : ℕ → ℕ) (keys : List ℕ) → ((k : ℕ) → f k ≡ some_of (g k)) → AreOnes (map f keys)
made_ones f g [] same = tt
made_ones f g (k ∷ keys) same = (omega (arith, same k, some_most (g k)), made_ones f g keys same)

made_sum : (f g : ℕ → ℕ) (keys : List ℕ) → ((k : ℕ) → f k ≡ g k) → add_up (λ x. x) (map f keys) ≡ add_up g keys
made_sum f g [] same = refl
made_sum f g (k ∷ keys) same = omega (arith, same k, made_sum f g keys same)

enough_for : (limits : List Limit) (cs : List (ℕ × ℕ)) → All (IsFixedClass limits) cs → add_up (λ c. low_end limits (From c.0)) cs ≤ add_up (λ c. c.1 * some_of (low_end limits (From c.0))) cs
enough_for limits [] fixed = omega arith
enough_for limits (c ∷ cs) fixed =
    let here = fixed 0 c (omega arith) in
    let high = high_below limits (variable (From c.0) c.1) in
    let rest = enough_for limits cs (λ k d lt. fixed (suc k) d (omega (arith, lt))) in
    let le : low_end limits (From c.0) ≤ c.1 = omega (arith, here, high) in
    omega (arith, rest, some_enough (low_end limits (From c.0)) c.1 le)

-- the rows' part, and the limits'
parts_of : (start : Ground) (limits : List Limit) → first_broken start limits ≡ None
    → cell_multipliers start limits ≡ row_part (length start.sums) None ++ given_each limits (third (features_of start)) [] limits
parts_of start limits none =
    ap (λ o. row_part (length start.sums) o ++ given_each limits (given_in (case_of start limits o (terms_at (program_rows start limits) o)) (features_of start) (terms_at (program_rows start limits) o)) [] limits) none

keys_count : (e : Election) (goal : Goal) → HasFeatures goal → length (keys_of e goal) ≡ length e.poll.ballots
keys_count e Root has = absurd has
keys_count e (Suffix suffix) has = length-map e.poll.ballots (key_of e (Suffix suffix))
keys_count e (Pair g l) has = absurd has
keys_count e (Cover x) has = length-map e.poll.ballots (key_of e (Cover x))

-- where no row is broken, the multipliers cut up to what the values cost
pub cost_bound : (e : Election) (start : Ground) (limits : List Limit) → IsGroundIn e start → AreLimits e (node_of start limits) → IsCell start limits
    → AreMultipliers start limits (cell_multipliers start limits) → first_broken start limits ≡ None
    → IsBound e (node_of start limits) (cell_multipliers start limits) (class_cost start limits)
cost_bound e start limits is few cell are none =
    let ls = cell_multipliers start limits in
    let features = features_of start in
    let n = length start.sums in
    let front = row_part n None in
    let back = given_each limits (third features) [] limits in
    let parts = parts_of start limits none in
    let long : length front ≡ n = length-map (range_with_len 0 n) (λ r. one_where false) ∙ length-range_with_len 0 n in
    let rows : of_rows start ls ≡ front = ap (take n) parts ∙ take_front front back n long in
    let more : of_limits start ls ≡ back = ap (drop n) parts ∙ drop_front front back n long in
    let zeros : AreZeros (of_rows start ls) = subst AreZeros (sym rows) (range_zeros 0 n) in
    let once = λ (k : ℕ) (d : Limit) (lt : k < length limits). counted_once e start (get_or limits k d).feature is.values (cell.on_variables k d lt) in
    let base : base_by start limits ls ≡ pos 0 -ℤ pos (class_cost start limits) =
    (let a = zeros_times (λ v. pos v.0 *ℤ v.1) (of_rows start ls) start.sums none_times zeros in
    let b = ap (λ xs. times_all xs (map limit_start limits)) more ∙ limits_base limits (third features) features [] limits once ∙ all_sum start limits features in
    omega (arith, ints, a, b)) in
    let best : IsBestNew start limits ls (pos 0) =
    best_none start start.goal limits ls cell.featured zeros (λ a. ap (λ xs. limits_bring (is_arc a) xs limits) more ∙ arc_brings limits features a) in
    let gain : (k : ℕ) → gain_by (pos 0) (cost_by start limits ls) k ≡ some_of (low_end limits (From k)) =
    λ k. over_none (cost_by start limits ls k) (some_of (low_end limits (From k)))
    (let r = cost_none start start.goal (of_rows start ls) k cell.featured zeros in
    let b = ap (λ xs. limits_bring (is_from k) xs limits) more ∙ key_brings limits features k in
    omega (arith, ints, r, b)) in
    let keys = keys_of e start.goal in
    let g = gain_by (pos 0) (cost_by start limits ls) in
    let ones = made_ones g (λ k. low_end limits (From k)) keys gain in
    let total = made_sum g (λ k. some_of (low_end limits (From k))) keys gain ∙ grouped_keys e start is (λ k. some_of (low_end limits (From k))) in
    let enough = enough_for limits start.classes (fixed_classes start limits cell.one_value) in
    let count = length-map keys g ∙ keys_count e start.goal cell.featured ∙ sym is.values.ballots in
    bound_is_exact e start limits ls (pos 0) (class_cost start limits) is few are best
    (cost_is_greatest (base_by start limits ls) (class_cost start limits) start.ballots (map g keys) base ones (omega (arith, total, enough)) (omega (arith, count)))

-- ---- the cost

cost_ones : (cs : List (ℕ × ℕ)) (f : ℕ × ℕ → ℕ) (m : ℕ) (rest : List ℕ)
    → cost_of (replicate {A = ℕ} (length cs) 1 ++ replicate {A = ℕ} m 0) (map f cs ++ rest) ≡ add_up f cs
cost_ones [] f m rest = cost_zeros m rest
  where
    cost_zeros : (m : ℕ) (xs : List ℕ) → cost_of (replicate {A = ℕ} m 0) xs ≡ 0
    cost_zeros zero xs = refl
    cost_zeros (suc m) [] = refl
    cost_zeros (suc m) (x ∷ xs) = omega (arith, cost_zeros m xs)
cost_ones (c ∷ cs) f m rest = omega (arith, cost_ones cs f m rest)

-- the values of the arcs
abbrev pub arc_values : Ground → List Limit → List ℕ
arc_values start limits = map (low_end limits) (map (λ (a : ℕ × ℕ). Arc a.0 a.1) (arcs_of (places_of start.goal)))

pub class_values : (start : Ground) (limits : List Limit) → cell_values start limits ≡ map (λ (c : ℕ × ℕ). low_end limits (From c.0)) start.classes ++ arc_values start limits
class_values start limits =
    let arcs = arcs_of (places_of start.goal) in
    values_are start limits ∙ ap (map (low_end limits)) (features_are start)
    ∙ map-append (low_end limits) (map (λ (c : ℕ × ℕ). From c.0) start.classes) (map (λ (a : ℕ × ℕ). Arc a.0 a.1) arcs)
    ∙ ap (λ xs. xs ++ map (low_end limits) (map (λ (a : ℕ × ℕ). Arc a.0 a.1) arcs)) (map_twice (low_end limits) (λ (c : ℕ × ℕ). From c.0) start.classes)

pub cost_is : (start : Ground) (limits : List Limit) → point_cost_of start (cell_values start limits) ≡ class_cost start limits
cost_is start limits =
    ap (cost_of (costs_of start.classes (arcs_under start.goal))) (class_values start limits)
    ∙ cost_ones start.classes (λ c. low_end limits (From c.0)) (length (arcs_under start.goal)) (arc_values start limits)

-- values that meet all rows break none
pub none_broken : (start : Ground) (limits : List Limit) → IsPointOf start limits (cell_values start limits) 1 → first_broken start limits ≡ None
none_broken start limits point = nowhere (program_rows start limits) point.meets
  where
    not_below : (z : ℤ) → pos 0 ≤ℤ z → int_lt z (pos 0) ≡ false
    not_below z le = grind (arith, ints)

    none_of : (rows : List Row) → All (λ row. pos 0 ≤ℤ row_value row (cell_values start limits) 1) rows → position_or_len (is_broken (cell_values start limits)) rows ≡ length rows
    none_of rows all =
        position_or_len_is (is_broken (cell_values start limits)) rows (length rows) empty_row (omega arith) (λ k lt. not_below (row_value (get_or rows k empty_row) (cell_values start limits) 1) (all k empty_row lt))
        (λ lt. absurd (omega (arith, lt)))

    nowhere : (rows : List Row) → All (λ row. pos 0 ≤ℤ row_value row (cell_values start limits) 1) rows → position (is_broken (cell_values start limits)) rows ≡ None
    nowhere rows all =
        let t : nat_lt (length rows) (length rows) ≡ false = grind (arith, nat_tests) in
        ap (λ n. cond (nat_lt n (length rows)) (Some n) None) (none_of rows all) ∙ ap (λ b. cond b (Some (length rows)) None) t

pub cell_cost : (e : Election) (start : Ground) (limits : List Limit) → IsGroundIn e start → AreLimits e (node_of start limits) → IsCell start limits
    → AreMultipliers start limits (cell_multipliers start limits) → IsPointOf start limits (cell_values start limits) 1
    → IsBound e (node_of start limits) (cell_multipliers start limits) (point_cost_of start (cell_values start limits))
cell_cost e start limits is few cell are point =
    subst (IsBound e (node_of start limits) (cell_multipliers start limits)) (sym (cost_is start limits)) (cost_bound e start limits is few cell are (none_broken start limits point))
