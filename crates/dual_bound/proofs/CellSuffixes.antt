-- A cell of a suffix: a bound for its gains, variable by variable; and where its values break a row of the goal, its
-- multipliers cut it at each number.
use Rattle.std.proofs.Common.{◌≡◌, ℕ, zero, suc, ◌+◌, ◌*◌, ◌<◌, ◌≤◌, List, [], ◌∷◌, Some, get_or, length, map, ap, refl, sym, ◌∙◌, arith}
use Rattle.std.specs.Prelude.{Contains, ℤ, pos, ◌+ℤ◌, ◌-ℤ◌, ◌*ℤ◌, ◌≤ℤ◌, ◌<ℤ◌}
use Rattle.std.proofs.lemmas.Int.{ints}
use Rattle.std.proofs.lemmas.List.{length-map}
use Rattle.mov_base.specs.Sums.{add_up, sum_z}
use Rattle.row_program.specs.declared.Feature.{Feature}
use Rattle.row_program.specs.declared.Feature.TheVariants.{From, Arc}
use Rattle.row_program.specs.declared.Limit.{Limit}
use Rattle.sig_graph.specs.Paths.{IsPath, arcs_of, path_arcs, path_sum}
use Rattle.goal_rows.specs.Cells.{IsCell, variables_of}
use Rattle.goal_rows.specs.Elections.{Election}
use Rattle.goal_rows.specs.Nodes.{AreLimits, node_of}
use Rattle.goal_rows.specs.Programs.{arc_weight, held_rows, key_weight}
use Rattle.goal_rows.specs.Races.{IsGroundIn, key_of, keys_of}
use Rattle.goal_rows.specs.declared.goals.Goal.TheVariants.{Suffix}
use Rattle.goal_rows.specs.declared.parts.Ground.{Ground}
use Rattle.goal_rows.proofs.GroundSizes.{suffix_few, weighings_count}
use Rattle.dual_bound.specs.CellCuts.{cell_multipliers, features_of, first_broken}
use Rattle.dual_bound.specs.CutTest.{AreMultipliers, IsBound}
use Rattle.dual_bound.specs.Weighing.{all_arcs, base_by, cost_by, gain_by, is_arc, is_from, limits_bring, of_limits, of_rows, rows_bring}
use Rattle.dual_bound.proofs.CellBreaks.{cut_beyond, gain_most, left_is, left_on, one_change}
use Rattle.dual_bound.proofs.CellCosts.{by_arc, by_key}
use Rattle.dual_bound.proofs.CellCovers.{base_low, broken_terms, gives, limits_are, made_most, rows_are, unit_times, weight_is, with_goal}
use Rattle.dual_bound.proofs.CellFeatures.{key_there}
use Rattle.dual_bound.proofs.CellMultipliers.{row_part}
use Rattle.dual_bound.proofs.CellVariables.{on_arc}
use Rattle.dual_bound.proofs.Exact.{bound_is_exact, grouped_keys}
use Rattle.dual_bound.proofs.GivenLimits.{limits_on}
use Rattle.dual_bound.proofs.Keyed.{sum_z-made}
use Rattle.dual_bound.proofs.PathArcs.{by_arcs}
use Rattle.dual_bound.proofs.PathTotals.{path_at_most, path_within}
use Rattle.dual_bound.proofs.SideBySide.{mixed}
use Rattle.dual_bound.proofs.SomeBest.{some_best}
use Rattle.dual_bound.proofs.SuffixWorths.{suffix_arc_worth, suffix_key_worth}

-- ---- gains by what is left of each variable

-- so much for each, and as much again for all
each_more : (f : ℕ → ℕ) (all : ℕ) (keys : List ℕ) → add_up (λ k. f k + all) keys ≡ add_up f keys + length keys * all
each_more f all keys = by keys
  where
    by : (ks : List ℕ) → add_up (λ k. f k + all) ks ≡ add_up f ks + length ks * all
    by [] = omega arith
    by (k ∷ ks) = omega (arith, by ks)

-- what is left of the key's variable and of all arcs bounds each gain; so where the value before any replacement, with
-- what is left of all variables, is below 0, the multipliers cut at each number
pub left_cuts : (e : Election) (start : Ground) (suffix : List ℕ) (limits : List Limit) (ls : List ℕ) (left : Feature → ℕ) → IsGroundIn e (with_goal start (Suffix suffix))
    → AreLimits e (node_of (with_goal start (Suffix suffix)) limits) → AreMultipliers (with_goal start (Suffix suffix)) limits ls
    → (base_by (with_goal start (Suffix suffix)) limits ls +ℤ pos (add_up (λ v. left v.feature * v.end) (variables_of (with_goal start (Suffix suffix))))) <ℤ pos 0
    → ((k : ℕ) (path : List ℕ) → Contains (keys_of e (Suffix suffix)) k → IsPath (length suffix) path
    → (path_sum (length suffix) (all_arcs (with_goal start (Suffix suffix)) limits ls (length suffix)) 0 path -ℤ cost_by (with_goal start (Suffix suffix)) limits ls k)
    ≤ℤ pos (left (From k) + add_up (λ a. left (Arc a.0 a.1)) (path_arcs 0 path)))
    → IsBound e (node_of (with_goal start (Suffix suffix)) limits) ls (start.ballots + 1)
left_cuts e start suffix limits ls left is few are low each =
    let here = with_goal start (Suffix suffix) in
    let m = length suffix in
    let best = some_best here limits ls in
    let b = best.0 in
    let path = best.1.reached.0 in
    let arcs : ℕ × ℕ → ℕ = λ a. left (Arc a.0 a.1) in
    let all = add_up arcs (arcs_of m) in
    let keys = keys_of e (Suffix suffix) in
    let gain : (k : ℕ) → Contains keys k → gain_by b (cost_by here limits ls) k ≤ left (From k) + all =
    λ k there.
    let within = path_within m arcs path best.1.reached.1 in
    let le = each k path there best.1.reached.1 in
    let whole = best.1.reached.2 in
    gain_most b (cost_by here limits ls k) (left (From k) + all) (omega (arith, ints, within, le, whole)) in
    let most = made_most (gain_by b (cost_by here limits ls)) (λ k. left (From k) + all) keys gain in
    let apart = each_more (λ k. left (From k)) all keys in
    let count = length-map e.poll.ballots (key_of e (Suffix suffix)) in
    let n = is.values.ballots in
    let grouped = grouped_keys e here is (λ k. left (From k)) in
    let total = left_is here left in
    let product : length keys * all ≡ start.ballots * all = ap (λ j. j * all) (omega (arith, count, n)) in
    bound_is_exact e here limits ls b (start.ballots + 1) is few are best.1
    (cut_beyond (base_by here limits ls) (map (gain_by b (cost_by here limits ls)) keys) (start.ballots + 1) (add_up (λ v. left v.feature * v.end) (variables_of here)) low
    (omega (arith, most, apart, grouped, total, product)))

-- what the arcs of a path bring by the rows and the limits
pub path_brings : (start : Ground) (limits : List Limit) (ls : List ℕ) (m : ℕ) (path : List ℕ) → IsPath m path
    → path_sum m (all_arcs start limits ls m) 0 path ≡ sum_z (λ a. rows_bring m (of_rows start ls) a +ℤ limits_bring (is_arc a) (of_limits start ls) limits) (path_arcs 0 path)
path_brings start limits ls m path is = by_arcs (λ a. rows_bring m (of_rows start ls) a +ℤ limits_bring (is_arc a) (of_limits start ls) limits) m 0 path is

-- ---- a row of the goal

-- the item at r, of what is made of it
made_at : {W X : Type 0} (make : W → X → ℤ) (x : X) (ws : List W) (r : ℕ) → r < length ws → get_or (map (λ w. make w x) ws) r (pos 0) ≡ (get_or (map make ws) r (λ y. pos 0)) x
made_at make x [] r within = absurd (omega (arith, within))
made_at make x (w ∷ ws) zero within = refl
made_at make x (w ∷ ws) (suc r) within = made_at make x ws r (omega (arith, within))

-- the one row with the multiplier 1
one_row : {W X : Type 0} (make : W → X → ℤ) (x : X) (r n : ℕ) (ws : List W) → r < n → r < length ws → mixed (λ w. make w x) (row_part n (Some r)) ws ≡ (get_or (map make ws) r (λ y. pos 0)) x
one_row make x r n ws low within =
    let m = length-map ws (λ w. make w x) in
    sym (sum_z-made (λ v. pos v.0 *ℤ v.1) (λ w. make w x) (row_part n (Some r)) ws)
    ∙ unit_times r 0 n r (map (λ w. make w x) ws) (omega arith) low (omega (arith, m, within))
    ∙ made_at make x ws r within

pub suffix_cut : (e : Election) (start : Ground) (suffix : List ℕ) (limits : List Limit) (r : ℕ) → IsGroundIn e (with_goal start (Suffix suffix))
    → AreLimits e (node_of (with_goal start (Suffix suffix)) limits) → IsCell (with_goal start (Suffix suffix)) limits
    → AreMultipliers (with_goal start (Suffix suffix)) limits (cell_multipliers (with_goal start (Suffix suffix)) limits)
    → first_broken (with_goal start (Suffix suffix)) limits ≡ Some r → r < length start.sums
    → IsBound e (node_of (with_goal start (Suffix suffix)) limits) (cell_multipliers (with_goal start (Suffix suffix)) limits) (start.ballots + 1)
suffix_cut e start suffix limits r is few cell are broken low =
    let here = with_goal start (Suffix suffix) in
    let m = length suffix in
    let ls = cell_multipliers here limits in
    let features = features_of here in
    let n = length start.sums in
    let ws = held_rows m in
    let rows = rows_are e here limits r is cell broken low in
    let more = limits_are e here limits r is cell broken low in
    let terms = broken_terms e here limits r is cell broken low in
    let give = gives e here limits r is cell broken low in
    let left = left_on limits features terms in
    let count = weighings_count here (e, is) in
    let within : r < length ws = omega (arith, low, count) in
    let arc : (u x : ℕ) → u < x → x ≤ m → (rows_bring m (of_rows here ls) (u, x) +ℤ limits_bring (is_arc (u, x)) (of_limits here ls) limits) ≤ℤ pos (left (Arc u x)) =
    λ u x begins ends.
    let row = sym (suffix_arc_worth m (u, x) (of_rows here ls)) ∙ ap (λ xs. mixed (λ w. arc_weight w (u, x)) xs ws) rows ∙ one_row arc_weight (u, x) r n ws low within in
    let bring = ap (λ xs. limits_bring (is_arc (u, x)) xs limits) more ∙ limits_on limits give (Arc u x) (is_arc (u, x)) (by_arc (u, x)) [] limits in
    let w = weight_is e here limits r is cell broken low (Arc u x) ((on_arc here u x).1 (begins, ends)) in
    let change = one_change limits features terms (Arc u x) in
    omega (arith, ints, row, bring, w, change) in
    left_cuts e start suffix limits ls left is few are (base_low e here limits r is cell broken low)
    (λ k path there path_is.
    let row = ap (λ xs. mixed (λ w. key_weight w k) xs ws) rows ∙ one_row key_weight k r n ws low within in
    let cost = suffix_key_worth m k (of_rows here ls) (suffix_few here suffix (e, is) refl) in
    let bring = ap (λ xs. limits_bring (is_from k) xs limits) more ∙ limits_on limits give (From k) (is_from k) (by_key k) [] limits in
    let w = weight_is e here limits r is cell broken low (From k) (key_there e here is.values k there) in
    let change = one_change limits features terms (From k) in
    let brought = path_brings here limits ls m path path_is in
    let arcs = path_at_most m 0 (λ a. rows_bring m (of_rows here ls) a +ℤ limits_bring (is_arc a) (of_limits here ls) limits) (λ a. left (Arc a.0 a.1)) path path_is arc in
    omega (arith, ints, row, cost, bring, w, change, brought, arcs))
