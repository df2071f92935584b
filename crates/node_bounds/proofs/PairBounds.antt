-- The bound of a pair whose one row has the multiplier 1 is the pair's ceiling.
use Rattle.std.proofs.Common.{◌≡◌, ◌⊎◌, ℕ, ◌+◌, ◌-◌, ◌*◌, ◌≤◌, List, [], ◌∷◌, ◌++◌, length, sym, ap, subst, ◌∙◌, inl, inr, arith, All}
use Rattle.std.specs.Prelude.{ℤ, pos, ◌+ℤ◌, ◌≤ℤ◌, ◌<ℤ◌}
use Rattle.std.proofs.Math.IntN.{negsuc}
use Rattle.std.proofs.lemmas.Bool.{cases_lt}
use Rattle.std.proofs.lemmas.Int.{ints}
use Rattle.std.proofs.lemmas.List.{append-nil, length-map}
use Rattle.std.proofs.lemmas.List.Elements.{All-append, All-cons}
use Rattle.mov_base.specs.Sums.{most}
use Rattle.row_program.specs.Points.{row_value}
use Rattle.row_program.specs.declared.program.Row.{Row}
use Rattle.dual_theory.specs.Multipliers.{weighted}
use Rattle.goal_rows.specs.Elections.{Election}
use Rattle.goal_rows.specs.Nodes.{node_of}
use Rattle.goal_rows.specs.Programs.{IsPointOf, class_rows_of, flow_rows_of, goal_rows_of, point_cost_of, program_rows}
use Rattle.goal_rows.specs.Races.{IsGroundIn}
use Rattle.goal_rows.specs.declared.goals.Goal.TheVariants.{Root, Pair}
use Rattle.goal_rows.specs.declared.parts.Ground.{Ground}
use Rattle.goal_rows.proofs.GroundSizes.{sums_of}
use Rattle.dual_bound.specs.CutTest.{IsBound}
use Rattle.dual_bound.specs.Weighing.{IsBestNew, base_by, cost_by, gain_by}
use Rattle.node_bounds.specs.Ceilings.{HasNoNodePoint, IsAffordable, IsCeiling, ground_at}
use Rattle.node_bounds.proofs.CeilingCuts.{counted, cut_below_cost, exact, ground_is, grouped_gains, key_gains, no_cheap_point}
use Rattle.node_bounds.proofs.CeilingSizes.{all_ballots}
use Rattle.node_bounds.proofs.Inheritance.{no_limits_are}
use Rattle.node_bounds.proofs.PointValues.{all_numbers, class_gains, cost_is, taken_bring, taken_met}
use Rattle.node_bounds.proofs.RestRows.{IsMetAt}
use Rattle.node_bounds.proofs.RowValues.{rows_kept}
use Rattle.node_bounds.proofs.TakenGains.{taken}
use Rattle.dual_bound.proofs.SideBySide.{one_time}
use Rattle.dual_bound.proofs.SomeBest.{some_best}
use Rattle.node_bounds.proofs.Worths.{worths_of}

-- one row that isn't below 0, with its multiplier, is met
one_met : (rows more : List Row) (whole : List ℕ) (den : ℕ) → length rows ≡ 1 → pos 0 ≤ℤ weighted (1 ∷ []) (rows ++ more) whole den → All (IsMetAt whole den) rows
one_met [] more whole den one some = absurd (omega (arith, one))
one_met (row ∷ []) more whole den one some =
    let is = one_time (row_value row whole den) in
    All-cons (IsMetAt whole den) row [] (omega (arith, ints, is, some)) (λ k d lt. absurd (omega (arith, lt)))
one_met (row ∷ other ∷ rows) more whole den one some = absurd (omega (arith, one))

-- the rows of a node without limits
all_met : (start : Ground) (whole : List ℕ) (den : ℕ) → All (IsMetAt whole den) (goal_rows_of start) → All (IsMetAt whole den) (class_rows_of start.classes ++ flow_rows_of start)
    → All (IsMetAt whole den) (program_rows start [])
all_met start whole den rows rest =
    let met = IsMetAt whole den in
    subst (All met) (sym (rows_kept start []))
    (All-append met (goal_rows_of start ++ []) (class_rows_of start.classes ++ flow_rows_of start) (subst (All met) (sym (append-nil (goal_rows_of start))) rows) rest)

not_below : (z : ℤ) → (z <ℤ pos 0 → ⊥) → pos 0 ≤ℤ z
not_below (pos n) not = omega (arith, ints)
not_below (negsuc n) not = absurd (not (omega (arith, ints)))

-- where the base and the k largest gains aren't below 0, some point costs at most k
cheap_point : (e : Election) (start : Ground) (best : ℤ) (k : ℕ) → IsGroundIn e start → length start.sums ≡ 1 → IsBestNew start [] (1 ∷ []) best
    → pos 0 ≤ℤ (base_by start [] (1 ∷ []) +ℤ pos (most k (key_gains e start [] (1 ∷ []) best))) → (whole : List ℕ) × IsPointOf start [] whole 1 × (point_cost_of start whole ≤ k * 1)
cheap_point e start best k is one greatest some =
    let ls : List ℕ = 1 ∷ [] in
    let count = counted e start [] ls is (omega (arith, one)) in
    let worths = worths_of e start [] ls best is (no_limits_are e start.goal) count greatest in
    let chosen = taken k (class_gains start [] ls best) (key_gains e start [] ls best) (grouped_gains e start [] ls best is) in
    let long : length chosen.xs ≡ length start.classes = chosen.long ∙ length-map start.classes (λ (c : ℕ × ℕ). (gain_by best (cost_by start [] ls) c.0, c.1)) in
    let flow = worths.reached chosen.xs long in
    let whole = chosen.xs ++ flow.ys in
    let value = taken_bring start [] ls chosen.xs best count long worths chosen.gaining in
    let high = chosen.enough in
    let from : pos 0 ≤ℤ weighted ls (program_rows start []) whole 1 = omega (arith, ints, value, high, some) in
    let apart_is = rows_kept start [] ∙ ap (λ rows. rows ++ (class_rows_of start.classes ++ flow_rows_of start)) (append-nil (goal_rows_of start)) in
    let row = one_met (goal_rows_of start) (class_rows_of start.classes ++ flow_rows_of start) whole 1 (count.rows ∙ one) (subst (λ rows. pos 0 ≤ℤ weighted ls rows whole 1) apart_is from) in (
      whole,
      record {
        all_variables = all_numbers start chosen.xs flow.ys flow.numbers;
        positive = omega arith;
        meets = all_met start whole 1 row (taken_met start [] ls chosen.xs best long worths chosen.within);
      },
      omega (arith, cost_is start chosen.xs flow.ys flow.numbers, chosen.few),
    )

pub pair_ceiling : (e : Election) (start : Ground) (g l t : ℕ) → IsGroundIn e start → start.goal ≡ Pair g l → IsBound e (node_of start []) (1 ∷ []) t → IsCeiling e (node_of start []) t
pair_ceiling e start g l t is goal_is bound = record { reached = reached; least = λ u some. least u some }
  where
    ls : List ℕ
    ls = 1 ∷ []

    one : length start.sums ≡ 1
    one = sums_of start (Pair g l) (e, is) goal_is

    one_each : length {A = ℕ} (1 ∷ []) ≡ length start.sums + 0
    one_each = omega (arith, one)

    other : start.goal ≡ Root → ⊥
    other root = let no = sym goal_is ∙ root in cc

    same : start ≡ ground_at e start.goal
    same = ground_is e start is

    least : (u : ℕ) → IsAffordable e (node_of start []) u → t ≤ u
    least u some =
        let point = subst (λ own. IsPointOf own [] some.0 some.1) (sym same) some.2 in
        let cheap = subst (λ own. point_cost_of own some.0 ≤ u * some.1) (sym same) some.3 in
        cut_below_cost e start [] (1 ∷ []) t some.0 some.1 u is (no_limits_are e start.goal) one_each other bound.within bound.cut point cheap

    best : (b : ℤ) × IsBestNew start [] (1 ∷ []) b
    best = some_best start [] (1 ∷ [])

    inside : t ≤ length e.poll.ballots → IsAffordable e (node_of start []) t
    inside le =
        let test = exact e start [] (1 ∷ []) best.0 (t + 1) is (no_limits_are e start.goal) one_each (omega (arith, le)) best.1 in
        let back : t + 1 - 1 ≡ t = omega arith in
        let base = base_by start [] (1 ∷ []) in
        let gains = key_gains e start [] (1 ∷ []) best.0 in
        let beyond : (base +ℤ pos (most t gains)) <ℤ pos 0 → ⊥ = λ lt.
        let cut = test.0 (inr (subst (λ k. (base +ℤ pos (most k gains)) <ℤ pos 0) (sym back) lt)) in
        omega (arith, bound.greatest (t + 1) (omega (arith, le)) cut)
        in
        let point = cheap_point e start best.0 t is one best.1 (not_below (base +ℤ pos (most t gains)) beyond) in (
          point.0,
          1,
          subst (λ own. IsPointOf own [] point.0 1) same point.1,
          subst (λ own. point_cost_of own point.0 ≤ t * 1) same point.2,
        )

    -- where all replacements together don't do
    nowhere : t ≡ length e.poll.ballots + 1 → HasNoNodePoint e (node_of start [])
    nowhere all whole den point =
        let here = subst (λ own. IsPointOf own [] whole den) (sym same) point in
        let back : t - 1 ≡ length e.poll.ballots = omega (arith, all) in
        let base = base_by start [] (1 ∷ []) in
        let gains = key_gains e start [] (1 ∷ []) best.0 in
        elim ((exact e start [] (1 ∷ []) best.0 t is (no_limits_are e start.goal) one_each bound.within best.1).1 bound.cut) [
          | inl none ↦ omega (arith, none, all)
          | inr lt ↦ no_cheap_point e start [] (1 ∷ []) best.0 (length e.poll.ballots) whole den is (no_limits_are e start.goal) one_each best.1 other (omega arith)
              (subst (λ k. (base +ℤ pos (most k gains)) <ℤ pos 0) back lt) here (all_ballots e start [] whole den is here)
        ]

    reached : IsAffordable e (node_of start []) t ⊎ (HasNoNodePoint e (node_of start []) × (t ≡ length e.poll.ballots + 1))
    reached = elim (cases_lt (length e.poll.ballots) t) [
      | inl past ↦ let all : t ≡ length e.poll.ballots + 1 = omega (arith, past, bound.within) in inr (nowhere all, all)
      | inr le ↦ inl (inside le)
    ]
