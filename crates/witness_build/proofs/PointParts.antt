-- The parts of a whole point of a goal's program without limits: the numbers of the classes, and those of the arcs.
use Rattle.std.proofs.Common.{ℕ, List, [], ◌∷◌, ◌++◌, ◌≡◌, ◌<◌, ◌≤◌, ◌∙◌, drop, length, get_or, ap, sym, refl, subst, arith, All, cond}
use Rattle.std.specs.Prelude.{◌==◌}
use Rattle.std.proofs.Math.Seq.{drop-append_seam}
use Rattle.std.proofs.lemmas.List.{length-append}
use Rattle.std.proofs.lemmas.List.Elements.{All-append, All-cons, All-head, All-nil, All-tail}
use Rattle.mov_base.specs.Sums.{add_up}
use Rattle.ballot_form.specs.declared.limits.TheConstants.{MOST_BALLOTS}
use Rattle.row_program.specs.declared.Limit.{Limit}
use Rattle.sig_graph.proofs.ArcNumbers.{arc_of}
use Rattle.sig_graph.proofs.Splits.{flow_at-le}
use Rattle.goal_rows.specs.Elections.{Election}
use Rattle.goal_rows.specs.Programs.{IsPointOf, arcs_under, class_rows_of, flow_rows_of, goal_rows_of, limit_rows_of, program_rows}
use Rattle.goal_rows.specs.Races.{IsGroundIn}
use Rattle.goal_rows.specs.declared.goals.Goal.{Goal}
use Rattle.goal_rows.specs.declared.goals.Goal.TheVariants.{Root, Suffix, Pair, Cover}
use Rattle.goal_rows.specs.declared.parts.Ground.{Ground}
use Rattle.goal_rows.proofs.GroundSizes.{classes_small}
use Rattle.node_bounds.proofs.PointValues.{apart, cost_is, rest_met}
use Rattle.node_bounds.proofs.RestRows.{AreWithin, IsMetAt, classes_within, rows_make_flow}
use Rattle.node_bounds.proofs.RowValues.{AreNumbersOf}
use Rattle.witness_build.specs.FromPoints.{IsFlowUnder, IsPointWithout, arcs_at, number_for, replaced_at}

-- a ground with another goal in its place
abbrev pub with_goal : Ground → Goal → Ground
with_goal start goal = record { goal = goal; classes = start.classes; sums = start.sums; ballots = start.ballots; lone = start.lone }

-- the numbers of the classes and those of the arcs: no more of a class than it has, and the arcs have a flow
pub record ArePartsOf (start : Ground) (whole : List ℕ) : Type 0 where
  pub xs : List ℕ
  pub ys : List ℕ
  pub numbers : AreNumbersOf start xs ys
  pub is : whole ≡ xs ++ ys
  pub arcs : arcs_at start whole ≡ ys
  pub cost : replaced_at start whole ≡ add_up (λ x. x) xs
  pub within : AreWithin 1 start.classes xs
  pub flow : IsFlowUnder start.goal ys (add_up (λ x. x) xs)
  pub met : All (IsMetAt (xs ++ ys) 1) (program_rows start [])

flow_under : (start : Ground) (goal : Goal) (xs ys : List ℕ) → AreNumbersOf (with_goal start goal) xs ys
    → All (IsMetAt (xs ++ ys) 1) (flow_rows_of (with_goal start goal)) → IsFlowUnder goal ys (add_up (λ x. x) xs)
flow_under start Root xs ys are met = tt
flow_under start (Suffix suffix) xs ys are met = rows_make_flow suffix start.classes xs ys 1 are met
flow_under start (Pair g l) xs ys are met = tt
flow_under start (Cover x) xs ys are met = tt

pub parts_of : (start : Ground) (whole : List ℕ) → IsPointWithout start whole → ArePartsOf start whole
parts_of start whole point =
    let both = apart start whole point.all_variables in
    let met : All (IsMetAt (both.xs ++ both.ys) 1) (program_rows start []) =
    subst (λ zs. All (IsMetAt zs 1) (program_rows start [])) both.is point.meets in
    let rest = rest_met start [] (both.xs ++ both.ys) 1 met in
    record {
      xs = both.xs;
      ys = both.ys;
      numbers = both.numbers;
      is = both.is;
      arcs = ap (drop (length start.classes)) both.is
          ∙ ap (λ n. drop n (both.xs ++ both.ys)) (sym both.numbers.of_classes) ∙ drop-append_seam both.xs both.ys;
      cost = ap (replaced_at start) both.is ∙ cost_is start both.xs both.ys both.numbers;
      within = classes_within start.classes both.xs both.ys 1 rest.0;
      flow = flow_under start start.goal both.xs both.ys both.numbers rest.1;
      met = met;
    }

-- what it says of the arcs is a flow, of as many as it costs
pub flow_at_point : (start : Ground) (whole : List ℕ) → IsPointWithout start whole → IsFlowUnder start.goal (arcs_at start whole) (replaced_at start whole)
flow_at_point start whole point =
    let parts = parts_of start whole point in
    subst (IsFlowUnder start.goal (arcs_at start whole)) (sym parts.cost)
    (subst (λ ys. IsFlowUnder start.goal ys (add_up (λ x. x) parts.xs)) (sym parts.arcs) parts.flow)

-- the classes' numbers stand first
pub classes_first : (start : Ground) (whole : List ℕ) → IsPointWithout start whole → length start.classes ≤ length whole
classes_first start whole point =
    let parts = parts_of start whole point in
    let both = length-append parts.xs parts.ys in
    omega (arith, both, ap length parts.is, parts.numbers.of_classes)

-- ---- few ballots are replaced

sum_within : (cs : List (ℕ × ℕ)) (xs : List ℕ) → length xs ≡ length cs → AreWithin 1 cs xs → add_up (λ x. x) xs ≤ add_up (λ (c : ℕ × ℕ). c.1) cs
sum_within [] [] long within = omega arith
sum_within [] (x ∷ xs) long within = absurd (omega (arith, long))
sum_within (c ∷ cs) [] long within = omega arith
sum_within (c ∷ cs) (x ∷ xs) long within =
    let rest = sum_within cs xs (omega (arith, long)) within.1 in
    let here = within.0 in
    omega (arith, rest, here)

pub few_replaced : (e : Election) (start : Ground) (whole : List ℕ) → IsGroundIn e start → IsPointWithout start whole → replaced_at start whole ≤ MOST_BALLOTS
few_replaced e start whole is point =
    let parts = parts_of start whole point in
    let sum = sum_within start.classes parts.xs parts.numbers.of_classes parts.within in
    let few = classes_small start (e, is) in
    omega (arith, sum, few, parts.cost)

-- ---- and the arcs have no more

arcs_few : (goal : Goal) (ys : List ℕ) (total k : ℕ) → IsFlowUnder goal ys total → length ys ≡ length (arcs_under goal) → k < length ys → get_or ys k 0 ≤ total
arcs_few Root ys total k flow long lt = absurd (omega (arith, lt, long))
arcs_few (Suffix suffix) ys total k flow long lt =
    let m = length suffix in
    let a = arc_of m k (omega (arith, lt, flow.each)) in
    let le = flow_at-le m ys total flow a.from a.to a.begins a.ends in
    let at = ap (λ i. get_or ys i 0) a.is in
    omega (arith, le, at)
arcs_few (Pair g l) ys total k flow long lt = absurd (omega (arith, lt, long))
arcs_few (Cover x) ys total k flow long lt = absurd (omega (arith, lt, long))

pub arc_number_few : (e : Election) (start : Ground) (whole : List ℕ) (k : ℕ) → IsGroundIn e start → IsPointWithout start whole
    → k < length (arcs_at start whole) → get_or (arcs_at start whole) k 0 ≤ MOST_BALLOTS
arc_number_few e start whole k is point lt =
    let parts = parts_of start whole point in
    let few = few_replaced e start whole is point in
    let arcs = parts.arcs in
    let within : k < length parts.ys = omega (arith, lt, ap length arcs) in
    let le = arcs_few start.goal parts.ys (add_up (λ x. x) parts.xs) k parts.flow parts.numbers.of_arcs within in
    let at = ap (λ zs. get_or zs k 0) arcs in
    omega (arith, le, at, few, parts.cost)

-- ---- the number of a class is that of the classes' part

pub number_in_front : (cs : List (ℕ × ℕ)) (xs ys : List ℕ) (key : ℕ) → length xs ≡ length cs → number_for cs xs key ≡ number_for cs (xs ++ ys) key
number_in_front [] xs ys key long = refl
number_in_front (c ∷ cs) [] ys key long = absurd (omega (arith, long))
number_in_front (c ∷ cs) (x ∷ xs) ys key long =
    ap (λ n. cond (c.0 == key) x n) (number_in_front cs xs ys key (omega (arith, long)))

-- ---- a point of a program with limits

front : {X : Type 0} (P : X → Type 0) (xs ys : List X) → All P (xs ++ ys) → All P xs
front P [] ys all = All-nil P
front P (x ∷ xs) ys all = All-cons P x xs (All-head P x (xs ++ ys) all) (front P xs ys (All-tail P x (xs ++ ys) all))

-- without its limits it is one, too
pub point_without : (start : Ground) (limits : List Limit) (whole : List ℕ) → IsPointOf start limits whole 1 → IsPointWithout start whole
point_without start limits whole point =
    let met = IsMetAt whole 1 in
    let goal = goal_rows_of start in
    let classes = class_rows_of start.classes in
    let kept = goal ++ limit_rows_of start limits in
    let rest = rest_met start limits whole 1 point.meets in
    let rows = front met goal (limit_rows_of start limits) (front met kept classes (front met (kept ++ classes) (flow_rows_of start) point.meets)) in
    record {
      all_variables = point.all_variables;
      positive = point.positive;
      meets = All-append met (goal ++ [] ++ classes) (flow_rows_of start)
          (All-append met (goal ++ []) classes (All-append met goal [] rows (All-nil met)) rest.0) rest.1;
    }
