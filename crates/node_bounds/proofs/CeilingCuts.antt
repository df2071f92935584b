-- How far multipliers cut a node: never beyond its ceiling, and those of its solved program up to it.
use Rattle.std.proofs.Common.{◌≡◌, ℕ, zero, suc, ◌+◌, ◌-◌, ◌*◌, ◌<◌, ◌≤◌, List, ◌++◌, min, length, map, drop, refl, sym, ap, subst, ◌∙◌, inl, inr, arith, All}
use Rattle.std.specs.Prelude.{ℤ, pos, ◌+ℤ◌, ◌-ℤ◌, ◌*ℤ◌, ◌≤ℤ◌, ◌<ℤ◌, nat_eq}
use Rattle.std.proofs.Math.IntN.{negsuc}
use Rattle.std.proofs.Math.Nat.{mul-le-mul_right}
use Rattle.std.proofs.lemmas.Bool.{cases_lt}
use Rattle.std.proofs.lemmas.Bool.Decides.{Decides-eqb}
use Rattle.std.proofs.lemmas.Int.{ints}
use Rattle.std.proofs.lemmas.List.{length-append, length-map}
use Rattle.mov_base.specs.Sums.{add_up, most, sum_z}
use Rattle.mov_base.proofs.Signed.{distrib}
use Rattle.mov_base.proofs.Sums.{add_up-map}
use Rattle.row_program.specs.Points.{IsLeastCost, IsPoint, cost_of}
use Rattle.row_program.specs.declared.Limit.{Limit}
use Rattle.row_program.specs.declared.program.Program.{Program}
use Rattle.dual_theory.specs.Multipliers.{BoundsCost, MeetsRest, RulesOut, weighted}
use Rattle.signature_class.specs.Classes.{IsGrouped, classes_of}
use Rattle.goal_rows.specs.Elections.{Election}
use Rattle.goal_rows.specs.Goals.{rows_of}
use Rattle.goal_rows.specs.Nodes.{AreLimits, node_of}
use Rattle.goal_rows.specs.Programs.{IsPointOf, class_rows_of, flow_rows_of, goal_rows_of, limit_rows_of, point_cost_of, program_rows}
use Rattle.goal_rows.specs.Races.{IsGroundIn, keys_of}
use Rattle.goal_rows.specs.declared.goals.Goal.{Goal}
use Rattle.goal_rows.specs.declared.goals.Goal.TheVariants.{Root, Suffix, Pair, Cover}
use Rattle.goal_rows.specs.declared.parts.Ground.{Ground}
use Rattle.goal_rows.proofs.GroundSizes.{goal_rows_count, weighings_count}
use Rattle.dual_bound.specs.CutTest.{Cuts, CutsKept, weighed_of}
use Rattle.dual_bound.specs.Largest.{CutsAt}
use Rattle.dual_bound.specs.Weighing.{IsBestNew, base_by, cost_by, gain_by}
use Rattle.dual_bound.specs.WeighingParts.{gains_by}
use Rattle.dual_bound.proofs.Exact.{ExactTest, exact_by, grouped_keys, root_test}
use Rattle.dual_bound.proofs.SmallGrounds.{small_ground}
use Rattle.node_bounds.specs.Ceilings.{HasNoNodePoint, IsAffordable, IsCeiling, IsProgramOf, ground_at}
use Rattle.node_bounds.proofs.PointValues.{all_numbers, apart, class_gains, cost_is, met_bring, point_brings, rest_met, rest_of, taken_bring, taken_met, within_gains}
use Rattle.node_bounds.proofs.RestRows.{IsMetAt, classes_within}
use Rattle.node_bounds.proofs.RowValues.{AreCounted, limit_count}
use Rattle.node_bounds.proofs.TakenGains.{gained-le_most, taken}
use Rattle.dual_bound.proofs.SideBySide.{turned, one_time}
use Rattle.dual_bound.proofs.SomeBest.{some_best}
use Rattle.node_bounds.proofs.Worths.{worths_of}

-- ---- whole numbers

-- a factor that is left out
cancelled : (d : ℕ) (a b : ℤ) → 1 ≤ d → (pos d *ℤ a) ≤ℤ (pos d *ℤ b) → a ≤ℤ b
cancelled d a b some le = by (a -ℤ b) refl
  where
    by : (z : ℤ) → z ≡ a -ℤ b → a ≤ℤ b
    by (pos zero) is = omega (arith, ints, is)
    by (pos (suc n)) is =
        let whole : b +ℤ pos (suc n) ≡ a = omega (arith, ints, is) in
        let apart = distrib d b (pos (suc n)) in
        let same = ap (λ v. pos d *ℤ v) whole in
        let product : d * suc n ≡ d * n + d = omega arith in
        absurd (omega (arith, ints, apart, same, le, product, some))
    by (negsuc n) is = omega (arith, ints, is)

grown : (d : ℕ) (a b : ℤ) → a ≤ℤ b → (pos d *ℤ a) ≤ℤ (pos d *ℤ b)
grown d a b le = by (b -ℤ a) refl
  where
    by : (z : ℤ) → z ≡ b -ℤ a → (pos d *ℤ a) ≤ℤ (pos d *ℤ b)
    by (pos n) is =
        let whole : a +ℤ pos n ≡ b = omega (arith, ints, is) in
        let apart = distrib d a (pos n) in
        let same = ap (λ v. pos d *ℤ v) whole in
        omega (arith, ints, apart, same)
    by (negsuc n) is = absurd (omega (arith, ints, is, le))

below_times : (d : ℕ) (z : ℤ) → 1 ≤ d → z <ℤ pos 0 → (pos d *ℤ z) <ℤ pos 0
below_times d (pos n) some lt = absurd (omega (arith, ints, lt))
below_times zero (negsuc n) some lt = absurd (omega (arith, some))
below_times (suc d) (negsuc n) some lt = omega (arith, ints)

falls : (z : ℤ) → (pos 0 ≤ℤ z → ⊥) → z <ℤ pos 0
falls (pos n) not = absurd (not (omega (arith, ints)))
falls (negsuc n) not = omega (arith, ints)

-- ---- grounds

abbrev made : Goal → List (ℕ × ℕ) → List ℤ → ℕ → ℤ → Ground
made goal classes sums ballots lone = record { goal = goal; classes = classes; sums = sums; ballots = ballots; lone = lone }

pub ground_is : (e : Election) (start : Ground) → IsGroundIn e start → start ≡ ground_at e start.goal
ground_is e start is =
    let v = is.values in
    let goal = start.goal in
    let classes = classes_of nat_eq (keys_of e goal) in
    let sums = map (λ weight. sum_z weight e.poll.ballots) (rows_of e goal) in
    ap (λ cs. made goal cs start.sums start.ballots start.lone) v.classes
    ∙ ap (λ ss. made goal classes ss start.ballots start.lone) v.sums
    ∙ ap (λ n. made goal classes sums n start.lone) v.ballots
    ∙ ap (λ l. made goal classes sums (length e.poll.ballots) l) v.lone

pub counted : (e : Election) (start : Ground) (limits : List Limit) (ls : List ℕ) → IsGroundIn e start → length ls ≡ length start.sums + length limits → AreCounted start limits ls
counted e start limits ls is one_each = record { rows = goal_rows_count start (e, is); weighings = weighings_count start (e, is); multipliers = one_each }

-- ---- the test by classes

-- the gains of the ballots, by their keys
abbrev pub key_gains : Election → Ground → List Limit → List ℕ → ℤ → List ℕ
key_gains e start limits ls best = map (gain_by best (cost_by start limits ls)) (keys_of e start.goal)

grouped : (best : ℤ) (cost : ℕ → ℤ) (classes : List (ℕ × ℕ)) (keys : List ℕ) → IsGrouped keys classes → IsGrouped (map (gain_by best cost) keys) (gains_by best cost classes)
grouped best cost classes keys same f =
    add_up-map f (gain_by best cost) keys ∙ same (λ key. f (gain_by best cost key)) ∙ sym (add_up-map (λ p. p.1 * f p.0) (λ (c : ℕ × ℕ). (gain_by best cost c.0, c.1)) classes)

pub grouped_gains : (e : Election) (start : Ground) (limits : List Limit) (ls : List ℕ) (best : ℤ) → IsGroundIn e start
    → IsGrouped (key_gains e start limits ls best) (class_gains start limits ls best)
grouped_gains e start limits ls best is = grouped best (cost_by start limits ls) start.classes (keys_of e start.goal) (grouped_keys e start is)

pub exact : (e : Election) (start : Ground) (limits : List Limit) (ls : List ℕ) (best : ℤ) (t : ℕ) → IsGroundIn e start → AreLimits e (node_of start limits)
    → length ls ≡ length start.sums + length limits → t ≤ length e.poll.ballots + 1 → IsBestNew start limits ls best → ExactTest e start limits ls best t
exact e start limits ls best t is few one_each within greatest =
    let n = is.values.ballots in
    exact_by e start start.goal limits ls best t is.election is.reached is.values few.features one_each (omega (arith, within, n)) greatest

-- ---- no cut is beyond the ceiling

-- the number of ballots in the classes
pub enough : (e : Election) (start : Ground) (limits : List Limit) (ls : List ℕ) (best : ℤ) → IsGroundIn e start → (start.goal ≡ Root → ⊥)
    → add_up (λ (p : ℕ × ℕ). p.1) (class_gains start limits ls best) ≡ length e.poll.ballots
enough e start limits ls best is other =
    add_up-map (λ (p : ℕ × ℕ). p.1) (λ (c : ℕ × ℕ). (gain_by best (cost_by start limits ls) c.0, c.1)) start.classes
    ∙ (small_ground e start is other).counted ∙ is.values.ballots

-- where the base and the k largest gains are below 0, no point costs at most k
pub no_cheap_point : (e : Election) (start : Ground) (limits : List Limit) (ls : List ℕ) (best : ℤ) (k : ℕ) (whole : List ℕ) (den : ℕ) → IsGroundIn e start → AreLimits e (node_of start limits)
    → length ls ≡ length start.sums + length limits → IsBestNew start limits ls best → (start.goal ≡ Root → ⊥) → k ≤ length e.poll.ballots
    → (base_by start limits ls +ℤ pos (most k (key_gains e start limits ls best))) <ℤ pos 0
    → IsPointOf start limits whole den → point_cost_of start whole ≤ k * den → ⊥
no_cheap_point e start limits ls best k whole den is few one_each greatest other within cut point cheap =
    let parts = apart start whole point.all_variables in
    let count = counted e start limits ls is one_each in
    let met : All (IsMetAt (parts.xs ++ parts.ys) den) (program_rows start limits) = subst (λ w. All (IsMetAt w den) (program_rows start limits)) parts.is point.meets in
    let some = met_bring ls (program_rows start limits) (parts.xs ++ parts.ys) den met in
    let rest = rest_met start limits (parts.xs ++ parts.ys) den met in
    let worths = worths_of e start limits ls best is few count greatest in
    let brings = point_brings start limits ls parts.xs parts.ys best den count parts.numbers worths rest.1 in
    let inside = within_gains best (cost_by start limits ls) den start.classes parts.xs (classes_within start.classes parts.xs parts.ys den rest.0) in
    let cost : point_cost_of start whole ≡ add_up (λ x. x) parts.xs = ap (point_cost_of start) parts.is ∙ cost_is start parts.xs parts.ys parts.numbers in
    let count_is = enough e start limits ls best is other in
    let gs = key_gains e start limits ls best in
    let high = gained-le_most den k (class_gains start limits ls best) parts.xs gs (grouped_gains e start limits ls best is) (omega (arith, count_is, within)) inside (omega (arith, cost, cheap)) in
    let below = below_times den (base_by start limits ls +ℤ pos (most k gs)) point.positive cut in
    let sum = distrib den (base_by start limits ls) (pos (most k gs)) in
    omega (arith, ints, some, brings, high, below, sum)

pub cut_below_cost : (e : Election) (start : Ground) (limits : List Limit) (ls : List ℕ) (t : ℕ) (whole : List ℕ) (den v : ℕ) → IsGroundIn e start → AreLimits e (node_of start limits)
    → length ls ≡ length start.sums + length limits → (start.goal ≡ Root → ⊥) → t ≤ length e.poll.ballots + 1
    → Cuts e (node_of start limits) ls t → IsPointOf start limits whole den → point_cost_of start whole ≤ v * den → t ≤ v
cut_below_cost e start limits ls t whole den v is few one_each other within cut point cheap = elim (cases_lt v t) [
  | inr le ↦ le
  | inl less ↦
      let best = some_best start limits ls in
      elim ((exact e start limits ls best.0 t is few one_each within best.1).1 cut) [
        | inl none ↦ absurd (omega (arith, none, less))
        | inr lt ↦
            let more = mul-le-mul_right den (let le : v ≤ t - 1 = omega (arith, less) in le) in
            absurd (no_cheap_point e start limits ls best.0 (t - 1) whole den is few one_each best.1 other (omega (arith, within)) lt point (omega (arith, cheap, more)))
      ]
]

pub cut_within_ceiling : (e : Election) (start : Ground) (limits : List Limit) (ls : List ℕ) (t v : ℕ) → IsGroundIn e start → AreLimits e (node_of start limits)
    → length ls ≡ length start.sums + length limits → t ≤ length e.poll.ballots + 1 → Cuts e (node_of start limits) ls t → IsCeiling e (node_of start limits) v → t ≤ v
cut_within_ceiling e start limits ls t v is few one_each within cut ceiling = elim ceiling.reached [
  | inr none ↦ omega (arith, within, none.1)
  | inl some ↦ by start.goal refl some
]
  where
    other : (start.goal ≡ Root → ⊥) → IsAffordable e (node_of start limits) v → t ≤ v
    other not some =
        let same = sym (ground_is e start is) in
        let point = subst (λ g. IsPointOf g limits some.0 some.1) same some.2 in
        let cheap = subst (λ g. point_cost_of g some.0 ≤ v * some.1) same some.3 in
        cut_below_cost e start limits ls t some.0 some.1 v is few one_each not within cut point cheap

    by : (goal : Goal) → start.goal ≡ goal → IsAffordable e (node_of start limits) v → t ≤ v
    by Root goal_is some = let none = (Decides-eqb t 0).0 ((root_test e start limits ls t few goal_is).1 cut) in omega (arith, none)
    by (Suffix suffix) goal_is some = other (λ root. let no = sym goal_is ∙ root in cc) some
    by (Pair g l) goal_is some = other (λ root. let no = sym goal_is ∙ root in cc) some
    by (Cover x) goal_is some = other (λ root. let no = sym goal_is ∙ root in cc) some

-- ---- solved programs

point_into : (start : Ground) (limits : List Limit) (program : Program) (whole : List ℕ) (den : ℕ) → IsProgramOf start limits program → IsPoint program whole den → IsPointOf start limits whole den
point_into start limits program whole den is point = record {
  all_variables = point.all_variables ∙ ap length is.costs;
  positive = point.positive;
  meets = subst (All (IsMetAt whole den)) is.rows point.meets;
}

point_back : (start : Ground) (limits : List Limit) (program : Program) (whole : List ℕ) (den : ℕ) → IsProgramOf start limits program → IsPointOf start limits whole den → IsPoint program whole den
point_back start limits program whole den is point = record {
  all_variables = point.all_variables ∙ sym (ap length is.costs);
  positive = point.positive;
  meets = subst (All (IsMetAt whole den)) (sym is.rows) point.meets;
}

-- where the kept rows, with their multipliers, fall below 0 wherever the rest is met at a cost of at most k, so do the base and the k largest gains
base_falls : (e : Election) (start : Ground) (limits : List Limit) (program : Program) (ls : List ℕ) (best : ℤ) (k : ℕ) → IsGroundIn e start → AreLimits e (node_of start limits)
    → IsProgramOf start limits program → length ls ≡ program.kept → IsBestNew start limits ls best
    → ((whole : List ℕ) → MeetsRest program whole 1 → cost_of program.costs whole ≤ k → weighted ls program.rows whole 1 <ℤ pos 0)
    → (base_by start limits ls +ℤ pos (most k (key_gains e start limits ls best))) <ℤ pos 0
base_falls e start limits program ls best k is few made one_each greatest fall =
    let count = counted e start limits ls is (one_each ∙ made.kept) in
    let worths = worths_of e start limits ls best is few count greatest in
    let chosen = taken k (class_gains start limits ls best) (key_gains e start limits ls best) (grouped_gains e start limits ls best is) in
    let long : length chosen.xs ≡ length start.classes = chosen.long ∙ length-map start.classes (λ (c : ℕ × ℕ). (gain_by best (cost_by start limits ls) c.0, c.1)) in
    let flow = worths.reached chosen.xs long in
    let whole = chosen.xs ++ flow.ys in
    let kept : program.kept ≡ length (goal_rows_of start ++ limit_rows_of start limits) =
    (let both = length-append (goal_rows_of start) (limit_rows_of start limits) in omega (arith, made.kept, both, count.rows, limit_count start limits)) in
    let behind : drop program.kept program.rows ≡ class_rows_of start.classes ++ flow_rows_of start = ap (drop program.kept) made.rows ∙ rest_of start limits program.kept kept in
    let rest : MeetsRest program whole 1 = record {
      all_variables = all_numbers start chosen.xs flow.ys flow.numbers ∙ sym (ap length made.costs);
      positive = omega arith;
      meets = subst (All (IsMetAt whole 1)) (sym behind) (taken_met start limits ls chosen.xs best long worths chosen.within);
    } in
    let cost : cost_of program.costs whole ≡ add_up (λ x. x) chosen.xs = ap (λ cs. cost_of cs whole) made.costs ∙ cost_is start chosen.xs flow.ys flow.numbers in
    let lt = fall whole rest (omega (arith, cost, chosen.few)) in
    let value = ap (λ rows. weighted ls rows whole 1) made.rows ∙ taken_bring start limits ls chosen.xs best count long worths chosen.gaining in
    let high = chosen.enough in
    omega (arith, ints, lt, value, high)

-- a cut at v from the test at each lower number
cut_where : (e : Election) (start : Ground) (limits : List Limit) (ls : List ℕ) (best : ℤ) (v : ℕ) → IsGroundIn e start → AreLimits e (node_of start limits)
    → length ls ≡ length start.sums + length limits → IsBestNew start limits ls best
    → ((k : ℕ) → k < v → (base_by start limits ls +ℤ pos (most k (key_gains e start limits ls best))) <ℤ pos 0) → Cuts e (node_of start limits) ls v
cut_where e start limits ls best v is few one_each greatest fall =
    let u = min v (length e.poll.ballots + 1) in
    let same : min u (length e.poll.ballots + 1) ≡ u = omega arith in
    let test : CutsAt (base_by start limits ls) (key_gains e start limits ls best) u = elim (cases_lt 0 u) [
      | inl some ↦ inr (fall (u - 1) (omega (arith, some)))
      | inr none ↦ inl (omega (arith, none))
    ] in
    subst (CutsKept e.poll (weighed_of e (node_of start limits) ls)) same ((exact e start limits ls best u is few one_each (omega arith) greatest).0 test)

pub best_cuts : (e : Election) (start : Ground) (limits : List Limit) (program : Program) (ls : List ℕ) (num den : ℤ) (v : ℕ) → IsGroundIn e start → AreLimits e (node_of start limits)
    → IsProgramOf start limits program → IsLeastCost program num den → BoundsCost program ls num den → length ls ≡ program.kept
    → num ≤ℤ (pos v *ℤ den) → ((u : ℕ) → num ≤ℤ (pos u *ℤ den) → v ≤ u) → Cuts e (node_of start limits) ls v
best_cuts e start limits program ls num den v is few made least bounds one_each high lowest =
    let best = some_best start limits ls in
    cut_where e start limits ls best.0 v is few (one_each ∙ made.kept) best.1 (λ k less.
    base_falls e start limits program ls best.0 k is few made one_each best.1 (λ whole rest cheap. falls (weighted ls program.rows whole 1) (λ some.
    let le = bounds whole 1 rest some in
    let one = turned num 1 in
    let num_is : pos 1 *ℤ num ≡ num = one_time num in
    let cost = den_times (cost_of program.costs whole) k den least.positive cheap in
    let most_v = lowest k (omega (arith, ints, le, one, num_is, cost)) in
    omega (arith, less, most_v))))
  where
    den_times : (a b : ℕ) (d : ℤ) → pos 0 <ℤ d → a ≤ b → (pos a *ℤ d) ≤ℤ (pos b *ℤ d)
    den_times a b (pos n) some le = let m = mul-le-mul_right n le in omega (arith, ints, m)
    den_times a b (negsuc n) some le = absurd (omega (arith, ints, some))

pub never_cuts : (e : Election) (start : Ground) (limits : List Limit) (program : Program) (ls : List ℕ) (v : ℕ) → IsGroundIn e start → AreLimits e (node_of start limits)
    → IsProgramOf start limits program → RulesOut program ls → length ls ≡ program.kept → Cuts e (node_of start limits) ls v
never_cuts e start limits program ls v is few made rules one_each =
    let best = some_best start limits ls in
    cut_where e start limits ls best.0 v is few (one_each ∙ made.kept) best.1 (λ k less.
    base_falls e start limits program ls best.0 k is few made one_each best.1 (λ whole rest cheap. rules whole 1 rest))

-- ---- ceilings

-- a point of least cost reaches the ceiling
reaches : (cost d v : ℕ) (num den : ℤ) → pos 0 <ℤ den → pos cost *ℤ den ≡ num *ℤ pos d → num ≤ℤ (pos v *ℤ den) → cost ≤ v * d
reaches cost d v num (pos n) some is le =
    let more = grown d num (pos v *ℤ pos n) le in
    let other = turned num d in
    let short = cancelled n (pos cost) (pos (v * d)) (omega (arith, ints, some)) (omega (arith, ints, more, other, is)) in
    omega (arith, ints, short)
reaches cost d v num (negsuc n) some is le = absurd (omega (arith, ints, some))

-- and a number that some point costs at most is at least the least cost
least_for : (cost d u : ℕ) (num den : ℤ) → 1 ≤ d → pos 0 <ℤ den → (num *ℤ pos d) ≤ℤ (pos cost *ℤ den) → cost ≤ u * d → num ≤ℤ (pos u *ℤ den)
least_for cost d u num (pos n) some positive le cheap =
    let other = turned num d in
    let more = mul-le-mul_right n cheap in
    cancelled d num (pos u *ℤ pos n) some (omega (arith, ints, le, other, more))
least_for cost d u num (negsuc n) some positive le cheap = absurd (omega (arith, ints, positive))

pub best_ceiling : (e : Election) (start : Ground) (limits : List Limit) (program : Program) (num den : ℤ) (v : ℕ) → IsGroundIn e start → IsProgramOf start limits program
    → IsLeastCost program num den → num ≤ℤ (pos v *ℤ den) → ((u : ℕ) → num ≤ℤ (pos u *ℤ den) → v ≤ u) → IsCeiling e (node_of start limits) v
best_ceiling e start limits program num den v is made least high lowest =
    let same = ground_is e start is in
    let whole = least.reached.0 in
    let d = least.reached.1 in
    let cost : cost_of program.costs whole ≡ point_cost_of start whole = ap (λ cs. cost_of cs whole) made.costs in
    let cheap = reaches (cost_of program.costs whole) d v num den least.positive least.reached.3 high in
    record {
      reached = inl (
        whole,
        d,
        subst (λ g. IsPointOf g limits whole d) same (point_into start limits program whole d made least.reached.2),
        subst (λ g. point_cost_of g whole ≤ v * d) same (omega (arith, cheap, cost)),
      );
      least = λ u some.
          let point = point_back start limits program some.0 some.1 made (subst (λ g. IsPointOf g limits some.0 some.1) (sym same) some.2) in
          let within : point_cost_of start some.0 ≤ u * some.1 = subst (λ g. point_cost_of g some.0 ≤ u * some.1) (sym same) some.3 in
          let cost : cost_of program.costs some.0 ≡ point_cost_of start some.0 = ap (λ cs. cost_of cs some.0) made.costs in
          lowest u (least_for (cost_of program.costs some.0) some.1 u num den point.positive least.positive (least.least some.0 some.1 point) (omega (arith, within, cost)));
    }

pub never_ceiling : (e : Election) (start : Ground) (limits : List Limit) (program : Program) → IsGroundIn e start → IsProgramOf start limits program
    → ((whole : List ℕ) (den : ℕ) → IsPoint program whole den → ⊥) → IsCeiling e (node_of start limits) (length e.poll.ballots + 1)
never_ceiling e start limits program is made none =
    let none_here : HasNoNodePoint e (node_of start limits) = λ whole den point.
    none whole den (point_back start limits program whole den made (subst (λ g. IsPointOf g limits whole den) (sym (ground_is e start is)) point)) in
    record { reached = inr (none_here, refl); least = λ u some. absurd (none_here some.0 some.1 some.2) }
