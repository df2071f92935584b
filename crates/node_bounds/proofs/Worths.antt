-- What replaced ballots and the arcs of new ones are worth, goal by goal: together they bring the gains by keys.
use Rattle.std.proofs.Common.{◌≡◌, ◌⊎◌, ℕ, zero, suc, ◌+◌, ◌-◌, ◌*◌, ◌≤◌, List, [], ◌∷◌, ◌++◌, length, map, replicate, refl, sym, ap, subst, ◌∙◌, inl, inr, arith, All}
use Rattle.std.specs.Prelude.{ℤ, pos, ◌+ℤ◌, ◌-ℤ◌, ◌*ℤ◌, ◌≤ℤ◌, unsigned_abs, slice_index}
use Rattle.std.specs.Int.{int_max}
use Rattle.std.proofs.Math.IntN.{negsuc}
use Rattle.std.proofs.lemmas.Int.{int_max_is, ints}
use Rattle.std.proofs.lemmas.List.{length-map, length-replicate, length-take}
use Rattle.std.proofs.lemmas.List.Elements.{All-cons}
use Rattle.mov_base.specs.Sums.{add_up, sum_z}
use Rattle.row_program.specs.declared.Feature.{Feature}
use Rattle.row_program.specs.declared.Limit.{Limit}
use Rattle.row_program.specs.declared.program.Row.{Row}
use Rattle.signature_class.specs.declared.limits.TheConstants.{MOST_PLACES}
use Rattle.sig_graph.specs.Flows.{IsFlow}
use Rattle.sig_graph.specs.Paths.{IsBest, IsPath, arcs_of, path_sum}
use Rattle.sig_graph.specs.Walks.{flow_of, uses_of}
use Rattle.sig_graph.proofs.FlowSums.{flow_sum-le}
use Rattle.sig_graph.proofs.PathFlows.{flow_sum-of, paths_are_flow}
use Rattle.goal_rows.specs.Elections.{Election}
use Rattle.goal_rows.specs.Nodes.{AreLimits, IsFeatureOf, node_of}
use Rattle.goal_rows.specs.Programs.{flow_rows_of, key_weight, weighings_of}
use Rattle.goal_rows.specs.Races.{IsGroundIn}
use Rattle.goal_rows.specs.Suffixes.{others}
use Rattle.goal_rows.specs.declared.goals.Goal.{Goal}
use Rattle.goal_rows.specs.declared.goals.Goal.TheVariants.{Root, Suffix, Pair, Cover}
use Rattle.goal_rows.specs.declared.parts.Ground.{Ground}
use Rattle.goal_rows.proofs.GroundSizes.{lone_small, suffix_few}
use Rattle.dual_bound.specs.Weighing.{IsBestNew, all_arcs, cost_by, gain_by, gain_over, is_arc, limits_bring, of_limits, of_rows, over_weight, rows_bring, times_all}
use Rattle.dual_bound.proofs.Pairwise.{zip_none}
use Rattle.dual_bound.proofs.SuffixWorths.{suffix_arc_worth, suffix_key_worth}
use Rattle.node_bounds.proofs.KeyWorths.{cover_key_worth, limits_by_arc, limits_by_key, pair_key_worth}
use Rattle.node_bounds.proofs.RestRows.{IsMetAt, flow_meets_rows, rows_make_flow}
use Rattle.node_bounds.proofs.RowValues.{AreCounted, AreNumbersOf, arc_worth, arcs_worth, key_worth, limit_key}
use Rattle.dual_bound.proofs.SideBySide.{mixed, times_same}

-- a number cut off below 0
abbrev pub IsCutOff : ℤ → ℕ → Type 0
IsCutOff d n = (d ≤ℤ pos n) × ((n ≡ 0) ⊎ (d ≡ pos n))

cut_off : (d : ℤ) → IsCutOff d (unsigned_abs (int_max d (pos 0)))
cut_off (pos n) = let e : int_max (pos n) (pos 0) ≡ pos n = omega (arith, ints, int_max_is (pos n) (pos 0)) in rw e (omega (arith, ints), inr refl)
cut_off (negsuc n) = let e : int_max (negsuc n) (pos 0) ≡ pos 0 = omega (arith, ints, int_max_is (negsuc n) (pos 0)) in rw e (omega (arith, ints), inl refl)

-- numbers of the arcs that meet the rows of the flow, and bring so much
pub record IsMadeFlow (start : Ground) (limits : List Limit) (ls xs : List ℕ) (worth : ℤ) : Type 0 where
  pub ys : List ℕ
  pub numbers : AreNumbersOf start xs ys
  pub met : All (IsMetAt (xs ++ ys) 1) (flow_rows_of start)
  pub brings : arcs_worth start limits ls ys ≡ worth

-- what is worth what: a replaced ballot, with the most that the arcs of a new one bring, is worth its gain
pub record AreWorths (start : Ground) (limits : List Limit) (ls : List ℕ) (best : ℤ) : Type 0 where
  pub extra : ℤ
  pub keys : (key : ℕ) → IsCutOff (key_worth start limits ls key +ℤ extra) (gain_by best (cost_by start limits ls) key)
  pub at_most : (xs ys : List ℕ) (den : ℕ) → AreNumbersOf start xs ys → All (IsMetAt (xs ++ ys) den) (flow_rows_of start)
      → arcs_worth start limits ls ys ≤ℤ (pos (add_up (λ x. x) xs) *ℤ extra)
  pub reached : (xs : List ℕ) → length xs ≡ length start.classes → IsMadeFlow start limits ls xs (pos (add_up (λ x. x) xs) *ℤ extra)

-- a ground with another goal in its place
abbrev with_goal : Ground → Goal → Ground
with_goal start goal = record { goal = goal; classes = start.classes; sums = start.sums; ballots = start.ballots; lone = start.lone }

-- ---- suffixes

suffix_cut_off : (start : Ground) (suffix : List ℕ) (limits : List Limit) (ls : List ℕ) (best : ℤ) (key : ℕ) → length suffix ≤ MOST_PLACES
    → IsCutOff (key_worth (with_goal start (Suffix suffix)) limits ls key +ℤ best) (gain_by best (cost_by (with_goal start (Suffix suffix)) limits ls) key)
suffix_cut_off start suffix limits ls best key few =
    let here = with_goal start (Suffix suffix) in
    let rows = suffix_key_worth (length suffix) key (of_rows here ls) few in
    let more = limits_by_key key (of_limits here ls) limits in
    let e : key_worth here limits ls key +ℤ best ≡ best -ℤ cost_by here limits ls key = omega (arith, ints, rows, more) in
    subst (λ d. IsCutOff d (gain_by best (cost_by here limits ls) key)) (sym e) (cut_off (best -ℤ cost_by here limits ls key))

suffix_arcs : (start : Ground) (suffix : List ℕ) (limits : List Limit) (ls ys : List ℕ)
    → arcs_worth (with_goal start (Suffix suffix)) limits ls ys ≡ times_all ys (all_arcs (with_goal start (Suffix suffix)) limits ls (length suffix))
suffix_arcs start suffix limits ls ys =
    let here = with_goal start (Suffix suffix) in
    let m = length suffix in
    times_same (arc_worth here limits ls) (λ a. rows_bring m (of_rows here ls) a +ℤ limits_bring (is_arc a) (of_limits here ls) limits) ys (arcs_of m) (λ a.
    let rows = suffix_arc_worth m a (of_rows here ls) in
    let more = limits_by_arc a (of_limits here ls) limits in
    omega (arith, ints, rows, more))

all_same : (P : List ℕ → Type 0) (path : List ℕ) (n : ℕ) → P path → All P (replicate n path)
all_same P path zero is = λ k d lt. absurd (omega (arith, lt))
all_same P path (suc n) is = All-cons P path (replicate n path) is (all_same P path n is)

sum_same : (f : List ℕ → ℤ) (path : List ℕ) (n : ℕ) → sum_z f (replicate n path) ≡ pos n *ℤ f path
sum_same f path zero = omega (arith, ints)
sum_same f path (suc n) = let rest = sum_same f path n in omega (arith, ints, rest)

-- so many times the best path
best_flow : (start : Ground) (suffix : List ℕ) (limits : List Limit) (ls : List ℕ) (best : ℤ) (xs : List ℕ) → length xs ≡ length start.classes
    → IsBest (length suffix) (all_arcs (with_goal start (Suffix suffix)) limits ls (length suffix)) 0 best
    → IsMadeFlow (with_goal start (Suffix suffix)) limits ls xs (pos (add_up (λ x. x) xs) *ℤ best)
best_flow start suffix limits ls best xs long greatest =
    let here = with_goal start (Suffix suffix) in
    let m = length suffix in
    let n = add_up (λ x. x) xs in
    let path = greatest.reached.0 in
    let paths = replicate n path in
    let are = all_same (IsPath m) path n greatest.reached.1 in
    let flow = subst (λ k. IsFlow m (flow_of m paths) k) (length-replicate n path) (paths_are_flow m paths are) in
    let numbers : AreNumbersOf here xs (flow_of m paths) = record { of_classes = long; of_arcs = length-map (arcs_of m) (λ a. uses_of paths a.0 a.1) } in
    record {
      ys = flow_of m paths;
      numbers = numbers;
      met = flow_meets_rows suffix start.classes xs (flow_of m paths) 1 numbers flow;
      brings = suffix_arcs start suffix limits ls (flow_of m paths)
          ∙ flow_sum-of m (all_arcs here limits ls m) paths are
          ∙ sum_same (λ path. path_sum m (all_arcs here limits ls m) 0 path) path n
          ∙ ap (λ z. pos n *ℤ z) greatest.reached.2;
    }

suffix_worths : (start : Ground) (suffix : List ℕ) (limits : List Limit) (ls : List ℕ) (best : ℤ) → length suffix ≤ MOST_PLACES
    → IsBestNew (with_goal start (Suffix suffix)) limits ls best → AreWorths (with_goal start (Suffix suffix)) limits ls best
suffix_worths start suffix limits ls best few greatest = record {
  extra = best;
  keys = λ key. suffix_cut_off start suffix limits ls best key few;
  at_most = λ xs ys den are met.
      let flow = rows_make_flow suffix start.classes xs ys den are met in
      let le = flow_sum-le (length suffix) ys (add_up (λ x. x) xs) (all_arcs (with_goal start (Suffix suffix)) limits ls (length suffix)) best flow greatest in
      let same = suffix_arcs start suffix limits ls ys in
      omega (arith, ints, le, same);
  reached = λ xs long. best_flow start suffix limits ls best xs long greatest;
}

-- ---- goals without arcs

times_nothing : (n : ℕ) → pos n *ℤ pos 0 ≡ pos 0
times_nothing n = omega (arith, ints)

pub record HasNoArcs (start : Ground) : Type 0 where
  pub arcs : (limits : List Limit) (ls ys : List ℕ) → arcs_worth start limits ls ys ≡ pos 0
  pub numbers : (xs : List ℕ) → length xs ≡ length start.classes → AreNumbersOf start xs []
  pub flow : (xs : List ℕ) → All (IsMetAt (xs ++ []) 1) (flow_rows_of start)

plain_worths : (start : Ground) (limits : List Limit) (ls : List ℕ) (best : ℤ) → HasNoArcs start
    → ((key : ℕ) → IsCutOff (key_worth start limits ls key) (gain_by best (cost_by start limits ls) key)) → AreWorths start limits ls best
plain_worths start limits ls best none keys = record {
  extra = pos 0;
  keys = λ key. let e : key_worth start limits ls key +ℤ pos 0 ≡ key_worth start limits ls key = omega (arith, ints) in
      subst (λ d. IsCutOff d (gain_by best (cost_by start limits ls) key)) (sym e) (keys key);
  at_most = λ xs ys den are met. let z = none.arcs limits ls ys in let t = times_nothing (add_up (λ x. x) xs) in omega (arith, ints, z, t);
  reached = λ xs long. record {
    ys = [];
    numbers = none.numbers xs long;
    met = none.flow xs;
    brings = none.arcs limits ls [] ∙ sym (times_nothing (add_up (λ x. x) xs));
  };
}

-- ---- covers

cover_keys : (start : Ground) (x : ℕ) (limits : List Limit) (ls : List ℕ) (best : ℤ) (key : ℕ) → length (of_rows start ls) ≡ length (others (length start.sums + 1) x)
    → IsBestNew (with_goal start (Cover x)) limits ls best
    → IsCutOff (key_worth (with_goal start (Cover x)) limits ls key) (gain_by best (cost_by (with_goal start (Cover x)) limits ls) key)
cover_keys start x limits ls best key long greatest =
    let here = with_goal start (Cover x) in
    let js = others (length start.sums + 1) x in
    let rows = of_rows here ls in
    let made : mixed (λ w. key_weight w key) rows (weighings_of here) ≡ pos (add_up (λ l. l) rows) -ℤ times_all rows (map (over_weight x key) js)
    = cover_key_worth _ (λ w. key_weight w key) x key rows js (λ j. refl) long in
    let more = limits_by_key key (of_limits here ls) limits in
    let e : key_worth here limits ls key ≡ best -ℤ cost_by here limits ls key = omega (arith, ints, made, more, greatest) in
    subst (λ d. IsCutOff d (gain_by best (cost_by here limits ls) key)) (sym e) (cut_off (best -ℤ cost_by here limits ls key))

none_met : (P : Row → Type 0) → All P []
none_met P k d lt = absurd (omega (arith, lt))

rows_long : (start : Ground) (limits : List Limit) (ls : List ℕ) → length ls ≡ length start.sums + length limits → length (of_rows start ls) ≡ length start.sums
rows_long start limits ls one_each = let t = length-take (length start.sums) ls in omega (arith, t, one_each)

cover_worths : (start : Ground) (x : ℕ) (limits : List Limit) (ls : List ℕ) (best : ℤ) → AreCounted (with_goal start (Cover x)) limits ls
    → IsBestNew (with_goal start (Cover x)) limits ls best → AreWorths (with_goal start (Cover x)) limits ls best
cover_worths start x limits ls best count greatest =
    let js = others (length start.sums + 1) x in
    let long = rows_long start limits ls count.multipliers in
    let made : length js ≡ length start.sums = sym (length-map js _) ∙ count.weighings in
    plain_worths (with_goal start (Cover x)) limits ls best (record {
      arcs = λ limits ls ys. zip_none (λ v. pos v.0 *ℤ v.1) ys;
      numbers = λ xs long. record { of_classes = long; of_arcs = refl };
      flow = λ xs. none_met (IsMetAt (xs ++ []) 1);
    }) (λ key. cover_keys start x limits ls best key (long ∙ sym made) greatest)

-- ---- pairs

one_row : {W : Type 0} (f : W → ℤ) (rows : List ℕ) (w : W) → length rows ≡ 1 → mixed f rows (w ∷ []) ≡ pos (slice_index rows 0) *ℤ f w
one_row f [] w one = absurd (omega (arith, one))
one_row f (l ∷ []) w one = omega (arith, ints)
one_row f (l ∷ k ∷ rows) w one = absurd (omega (arith, one))

no_limits_mixed : {X : Type 0} (f : X → ℤ) (ls : List ℕ) (xs : List X) → xs ≡ [] → mixed f ls xs ≡ pos 0
no_limits_mixed f ls xs none = ap (mixed f ls) none ∙ zip_none (λ v. pos v.0 *ℤ f v.1) ls

exactly : (d : ℤ) (n : ℕ) → d ≡ pos n → IsCutOff d n
exactly d n e = (omega (arith, ints, e), inr e)

pair_keys : (start : Ground) (g l : ℕ) (limits : List Limit) (ls : List ℕ) (best : ℤ) (key : ℕ) → limits ≡ [] → length (of_rows start ls) ≡ 1 → pos 0 ≤ℤ start.lone
    → IsBestNew (with_goal start (Pair g l)) limits ls best
    → IsCutOff (key_worth (with_goal start (Pair g l)) limits ls key) (gain_by best (cost_by (with_goal start (Pair g l)) limits ls) key)
pair_keys start g l limits ls best key none one some greatest =
    let here = with_goal start (Pair g l) in
    let rows = of_rows here ls in
    let first = slice_index rows 0 in
    let top = unsigned_abs (start.lone +ℤ pos 1024) in
    let made : mixed (λ w. key_weight w key) rows (weighings_of here) ≡ pos first *ℤ pos (top - key) = one_row (λ w. key_weight w key) rows _ one in
    let more = no_limits_mixed (limit_key key) (of_limits here ls) limits none in
    let brought = sym (limits_by_key key (of_limits here ls) limits) ∙ more in
    let gain : gain_by best (cost_by here limits ls) key ≡ first * (top - key) =
    ap (λ z. gain_over z (cost_by here limits ls key)) greatest
    ∙ ap (λ z. gain_over (pos first *ℤ start.lone) ((pos first *ℤ (pos key -ℤ pos 1024)) -ℤ z)) brought
    ∙ pair_key_worth first key start.lone some in
    subst (IsCutOff (key_worth here limits ls key)) (sym gain) (exactly (key_worth here limits ls key) (first * (top - key)) (omega (arith, ints, made, more)))

pair_worths : (start : Ground) (g l : ℕ) (limits : List Limit) (ls : List ℕ) (best : ℤ) → limits ≡ [] → pos 0 ≤ℤ start.lone → AreCounted (with_goal start (Pair g l)) limits ls
    → IsBestNew (with_goal start (Pair g l)) limits ls best → AreWorths (with_goal start (Pair g l)) limits ls best
pair_worths start g l limits ls best none some count greatest =
    let long = rows_long start limits ls count.multipliers in
    let one : length start.sums ≡ 1 = sym count.weighings in
    plain_worths (with_goal start (Pair g l)) limits ls best (record {
      arcs = λ limits ls ys. zip_none (λ v. pos v.0 *ℤ v.1) ys;
      numbers = λ xs long. record { of_classes = long; of_arcs = refl };
      flow = λ xs. none_met (IsMetAt (xs ++ []) 1);
    }) (λ key. pair_keys start g l limits ls best key none (long ∙ one) some greatest)

-- ---- the root

root_worths : (start : Ground) (limits : List Limit) (ls : List ℕ) (best : ℤ) → limits ≡ [] → IsBestNew (with_goal start Root) limits ls best
    → AreWorths (with_goal start Root) limits ls best
root_worths start limits ls best none greatest =
    let here = with_goal start Root in
    plain_worths here limits ls best (record {
      arcs = λ limits ls ys. zip_none (λ v. pos v.0 *ℤ v.1) ys;
      numbers = λ xs long. record { of_classes = long; of_arcs = refl };
      flow = λ xs. none_met (IsMetAt (xs ++ []) 1);
    }) (λ key.
    let made = zip_none (λ v. pos v.0 *ℤ key_weight v.1 key) (of_rows here ls) in
    let more = no_limits_mixed (limit_key key) (of_limits here ls) limits none in
    let brought = sym (limits_by_key key (of_limits here ls) limits) ∙ more in
    let e : key_worth here limits ls key ≡ best -ℤ cost_by here limits ls key = omega (arith, ints, made, more, brought, greatest) in
    subst (λ d. IsCutOff d (gain_by best (cost_by here limits ls) key)) (sym e) (cut_off (best -ℤ cost_by here limits ls key)))

-- ---- every goal

no_limits : (IsFeature : Feature → Type 0) (limits : List Limit) → ((feature : Feature) → IsFeature feature → ⊥) → All (λ limit. IsFeature limit.feature) limits → limits ≡ []
no_limits IsFeature [] none all = refl
no_limits IsFeature (limit ∷ limits) none all = absurd (none limit.feature (all 0 limit (omega arith)))

worths_by : (e : Election) (start : Ground) (goal : Goal) (limits : List Limit) (ls : List ℕ) (best : ℤ) → IsGroundIn e (with_goal start goal)
    → All (λ limit. IsFeatureOf e goal limit.feature) limits → AreCounted (with_goal start goal) limits ls → IsBestNew (with_goal start goal) limits ls best
    → AreWorths (with_goal start goal) limits ls best
worths_by e start Root limits ls best is features count greatest = root_worths start limits ls best (no_limits (IsFeatureOf e Root) limits (λ feature h. h) features) greatest
worths_by e start (Suffix suffix) limits ls best is features count greatest =
    suffix_worths start suffix limits ls best (suffix_few (with_goal start (Suffix suffix)) suffix (e, is) refl) greatest
worths_by e start (Pair g l) limits ls best is features count greatest =
    pair_worths start g l limits ls best (no_limits (IsFeatureOf e (Pair g l)) limits (λ feature h. h) features) (lone_small (with_goal start (Pair g l)) g l (e, is) refl).0 count greatest
worths_by e start (Cover x) limits ls best is features count greatest = cover_worths start x limits ls best count greatest

pub worths_of : (e : Election) (start : Ground) (limits : List Limit) (ls : List ℕ) (best : ℤ) → IsGroundIn e start → AreLimits e (node_of start limits)
    → AreCounted start limits ls → IsBestNew start limits ls best → AreWorths start limits ls best
worths_of e start limits ls best is few count greatest = worths_by e start start.goal limits ls best is few.features count greatest
