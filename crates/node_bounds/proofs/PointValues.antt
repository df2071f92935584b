-- What the kept rows of a node's program bring at points, with their multipliers.
use Rattle.std.proofs.Common.{◌≡◌, ◌⊎◌, ℕ, zero, suc, ◌+◌, ◌*◌, ◌<◌, List, [], ◌∷◌, ◌++◌, length, map, take, drop, replicate, refl, sym, ap, subst, ◌∙◌, inl, inr, arith, All}
use Rattle.std.specs.Prelude.{ℤ, pos, ◌+ℤ◌, ◌-ℤ◌, ◌*ℤ◌, ◌≤ℤ◌}
use Rattle.std.proofs.Math.IntN.{negsuc}
use Rattle.std.proofs.Math.Seq.{drop-append_seam}
use Rattle.std.proofs.lemmas.Int.{ints}
use Rattle.std.proofs.lemmas.List.{length-append, length-drop, length-replicate, length-take, take-append-drop}
use Rattle.std.proofs.lemmas.List.Elements.{All-append, All-cons, All-head, All-tail}
use Rattle.mov_base.specs.Sums.{add_up}
use Rattle.mov_base.proofs.Signed.{distrib}
use Rattle.row_program.specs.Points.{cost_of, row_value}
use Rattle.row_program.specs.declared.Limit.{Limit}
use Rattle.row_program.specs.declared.program.Row.{Row}
use Rattle.dual_theory.specs.Multipliers.{weighted}
use Rattle.goal_rows.specs.Programs.{arcs_under, class_rows_of, costs_of, flow_rows_of, goal_rows_of, limit_rows_of, program_rows}
use Rattle.goal_rows.specs.declared.parts.Ground.{Ground}
use Rattle.goal_rows.proofs.SuffixRows.{all_back}
use Rattle.dual_bound.specs.Weighing.{base_by, cost_by, gain_by, times_all}
use Rattle.dual_bound.specs.WeighingParts.{gains_by}
use Rattle.node_bounds.proofs.RestRows.{AreWithin, IsMetAt, classes_met}
use Rattle.node_bounds.proofs.RowValues.{AreCounted, AreNumbersOf, key_worth, kept_value, rows_kept}
use Rattle.node_bounds.proofs.TakenGains.{AreGaining, gained}
use Rattle.dual_bound.proofs.SideBySide.{one_time}
use Rattle.node_bounds.proofs.Worths.{AreWorths, IsCutOff}

-- ---- the numbers of a point

-- numbers for all variables are those of the classes and those of the arcs
pub record IsApart (start : Ground) (whole : List ℕ) : Type 0 where
  pub xs : List ℕ
  pub ys : List ℕ
  pub numbers : AreNumbersOf start xs ys
  pub is : whole ≡ xs ++ ys

variables_count : (classes arcs : List (ℕ × ℕ)) → length (costs_of classes arcs) ≡ length classes + length arcs
variables_count classes arcs =
    let ones : List ℕ = replicate (length classes) 1 in
    let zeros : List ℕ = replicate (length arcs) 0 in
    let one : length ones ≡ length classes = length-replicate (length classes) 1 in
    let two : length zeros ≡ length arcs = length-replicate (length arcs) 0 in
    omega (arith, length-append ones zeros, one, two)

pub apart : (start : Ground) (whole : List ℕ) → length whole ≡ length (costs_of start.classes (arcs_under start.goal)) → IsApart start whole
apart start whole long =
    let n = length start.classes in
    let both = variables_count start.classes (arcs_under start.goal) in
    let front = length-take n whole in
    let back = length-drop n whole in
    record {
      xs = take n whole;
      ys = drop n whole;
      numbers = record { of_classes = omega (arith, long, both, front); of_arcs = omega (arith, long, both, back) };
      is = sym (take-append-drop n whole);
    }

costs_nothing : (n : ℕ) (ys : List ℕ) → cost_of (replicate n 0) ys ≡ 0
costs_nothing zero ys = refl
costs_nothing (suc n) [] = refl
costs_nothing (suc n) (y ∷ ys) = omega (arith, costs_nothing n ys)

costs_each : (n k : ℕ) (xs ys : List ℕ) → length xs ≡ n → cost_of (replicate n 1 ++ replicate k 0) (xs ++ ys) ≡ add_up (λ x. x) xs
costs_each zero k [] ys long = costs_nothing k ys
costs_each zero k (x ∷ xs) ys long = absurd (omega (arith, long))
costs_each (suc n) k [] ys long = absurd (omega (arith, long))
costs_each (suc n) k (x ∷ xs) ys long = omega (arith, costs_each n k xs ys (omega (arith, long)))

-- what they cost is the sum of those of the classes
pub cost_is : (start : Ground) (xs ys : List ℕ) → AreNumbersOf start xs ys → cost_of (costs_of start.classes (arcs_under start.goal)) (xs ++ ys) ≡ add_up (λ x. x) xs
cost_is start xs ys are = costs_each (length start.classes) (length (arcs_under start.goal)) xs ys are.of_classes

pub all_numbers : (start : Ground) (xs ys : List ℕ) → AreNumbersOf start xs ys → length (xs ++ ys) ≡ length (costs_of start.classes (arcs_under start.goal))
all_numbers start xs ys are =
    let both = variables_count start.classes (arcs_under start.goal) in
    let whole = length-append xs ys in
    omega (arith, both, whole, are.of_classes, are.of_arcs)

-- ---- rows that are met

pub all_front : {X : Type 0} (P : X → Type 0) (xs ys : List X) → All P (xs ++ ys) → All P xs
all_front P [] ys all = λ k d lt. absurd (omega (arith, lt))
all_front P (x ∷ xs) ys all = All-cons P x xs (All-head P x (xs ++ ys) all) (all_front P xs ys (All-tail P x (xs ++ ys) all))

nonnegative_times : (l : ℕ) (v : ℤ) → pos 0 ≤ℤ v → pos 0 ≤ℤ (pos l *ℤ v)
nonnegative_times l (pos n) le = omega (arith, ints)
nonnegative_times l (negsuc n) le = absurd (omega (arith, ints, le))

-- rows that are met, with multipliers, bring nothing below 0
pub met_bring : (ls : List ℕ) (rows : List Row) (whole : List ℕ) (den : ℕ) → All (IsMetAt whole den) rows → pos 0 ≤ℤ weighted ls rows whole den
met_bring [] rows whole den all = omega (arith, ints)
met_bring (l ∷ ls) [] whole den all = omega (arith, ints)
met_bring (l ∷ ls) (row ∷ rows) whole den all =
    let here = nonnegative_times l (row_value row whole den) (All-head (IsMetAt whole den) row rows all) in
    let rest = met_bring ls rows whole den (All-tail (IsMetAt whole den) row rows all) in
    omega (arith, ints, here, rest)

-- the rows of the classes and of the flow, of rows that are all met
pub rest_met : (start : Ground) (limits : List Limit) (whole : List ℕ) (den : ℕ) → All (IsMetAt whole den) (program_rows start limits)
    → All (IsMetAt whole den) (class_rows_of start.classes) × All (IsMetAt whole den) (flow_rows_of start)
rest_met start limits whole den all =
    let met = IsMetAt whole den in
    let rest = all_back met (goal_rows_of start ++ limit_rows_of start limits) (class_rows_of start.classes ++ flow_rows_of start) (subst (All met) (rows_kept start limits) all) in
    (all_front met (class_rows_of start.classes) (flow_rows_of start) rest, all_back met (class_rows_of start.classes) (flow_rows_of start) rest)

-- the rows behind the kept ones
pub rest_of : (start : Ground) (limits : List Limit) (n : ℕ) → n ≡ length (goal_rows_of start ++ limit_rows_of start limits)
    → drop n (program_rows start limits) ≡ class_rows_of start.classes ++ flow_rows_of start
rest_of start limits n is =
    ap (drop n) (rows_kept start limits)
    ∙ ap (λ k. drop k ((goal_rows_of start ++ limit_rows_of start limits) ++ (class_rows_of start.classes ++ flow_rows_of start))) is
    ∙ drop-append_seam (goal_rows_of start ++ limit_rows_of start limits) (class_rows_of start.classes ++ flow_rows_of start)

-- ---- what numbers of the classes bring

-- numbers times values to which the same is added
with_extra : (f : ℕ × ℕ → ℤ) (extra : ℤ) (xs : List ℕ) (cs : List (ℕ × ℕ)) → length xs ≡ length cs
    → times_all xs (map (λ c. f c +ℤ extra) cs) ≡ times_all xs (map f cs) +ℤ (pos (add_up (λ x. x) xs) *ℤ extra)
with_extra f extra [] [] long = omega (arith, ints)
with_extra f extra [] (c ∷ cs) long = absurd (omega (arith, long))
with_extra f extra (x ∷ xs) [] long = absurd (omega (arith, long))
with_extra f extra (x ∷ xs) (c ∷ cs) long =
    let rest = with_extra f extra xs cs (omega (arith, long)) in
    let here = distrib x (f c) extra in
    let sum = times_sum x (add_up (λ x. x) xs) extra in
    omega (arith, ints, rest, here, sum)
  where
    times_sum : (x n : ℕ) (z : ℤ) → pos (x + n) *ℤ z ≡ (pos x *ℤ z) +ℤ (pos n *ℤ z)
    times_sum x n (pos k) = omega (arith, ints)
    times_sum x n (negsuc k) = omega (arith, ints)

times_at_most : (x n : ℕ) (z : ℤ) → z ≤ℤ pos n → (pos x *ℤ z) ≤ℤ pos (x * n)
times_at_most x n z le = by (pos n -ℤ z) refl
  where
    by : (d : ℤ) → d ≡ pos n -ℤ z → (pos x *ℤ z) ≤ℤ pos (x * n)
    by (pos k) is =
        let whole : z +ℤ pos k ≡ pos n = omega (arith, ints, is) in
        let apart = distrib x z (pos k) in
        let same = ap (λ v. pos x *ℤ v) whole in
        omega (arith, ints, apart, same)
    by (negsuc k) is = absurd (omega (arith, ints, is, le))

gain_high : (f : ℕ × ℕ → ℤ) (best : ℤ) (cost : ℕ → ℤ) (xs : List ℕ) (cs : List (ℕ × ℕ)) → ((c : ℕ × ℕ) → f c ≤ℤ pos (gain_by best cost c.0))
    → times_all xs (map f cs) ≤ℤ pos (gained (gains_by best cost cs) xs)
gain_high f best cost [] [] le = omega (arith, ints)
gain_high f best cost [] (c ∷ cs) le = omega (arith, ints)
gain_high f best cost (x ∷ xs) [] le = omega (arith, ints)
gain_high f best cost (x ∷ xs) (c ∷ cs) le =
    let rest = gain_high f best cost xs cs le in
    let here = times_at_most x (gain_by best cost c.0) (f c) (le c) in
    omega (arith, ints, rest, here)

one_gain : (x n : ℕ) (z : ℤ) → IsCutOff z n → (x ≡ 0) ⊎ (0 < n) → pos x *ℤ z ≡ pos (x * n)
one_gain x n z off (inl none) =
    let e = ap (λ k. pos k *ℤ z) none in
    let f = ap (λ k. k * n) none in
    omega (arith, ints, e, f)
one_gain x n z off (inr some) = elim off.1 [
  | inl none ↦ absurd (omega (arith, none, some))
  | inr is ↦ ap (λ v. pos x *ℤ v) is ∙ omega (arith, ints)
]

gain_exact : (f : ℕ × ℕ → ℤ) (best : ℤ) (cost : ℕ → ℤ) (xs : List ℕ) (cs : List (ℕ × ℕ)) → ((c : ℕ × ℕ) → IsCutOff (f c) (gain_by best cost c.0))
    → AreGaining (gains_by best cost cs) xs → times_all xs (map f cs) ≡ pos (gained (gains_by best cost cs) xs)
gain_exact f best cost [] [] off gaining = refl
gain_exact f best cost [] (c ∷ cs) off gaining = refl
gain_exact f best cost (x ∷ xs) [] off gaining = refl
gain_exact f best cost (x ∷ xs) (c ∷ cs) off gaining =
    let rest = gain_exact f best cost xs cs off gaining.1 in
    let here = one_gain x (gain_by best cost c.0) (f c) (off c) gaining.0 in
    omega (arith, ints, rest, here)

-- the gains of the classes of a ground
abbrev pub class_gains : Ground → List Limit → List ℕ → ℤ → List (ℕ × ℕ)
class_gains start limits ls best = gains_by best (cost_by start limits ls) start.classes

-- at a point the kept rows bring at most the value before any replacement, times the denominator, and the gains
pub point_brings : (start : Ground) (limits : List Limit) (ls xs ys : List ℕ) (best : ℤ) (den : ℕ) → AreCounted start limits ls → AreNumbersOf start xs ys
    → AreWorths start limits ls best → All (IsMetAt (xs ++ ys) den) (flow_rows_of start)
    → weighted ls (program_rows start limits) (xs ++ ys) den ≤ℤ ((pos den *ℤ base_by start limits ls) +ℤ pos (gained (class_gains start limits ls best) xs))
point_brings start limits ls xs ys best den count are worths met =
    let value = kept_value start limits ls xs ys den count are in
    let arcs = worths.at_most xs ys den are met in
    let both = with_extra (λ c. key_worth start limits ls c.0) worths.extra xs start.classes are.of_classes in
    let high = gain_high (λ c. key_worth start limits ls c.0 +ℤ worths.extra) best (cost_by start limits ls) xs start.classes (λ c. (worths.keys c.0).0) in
    omega (arith, ints, value, arcs, both, high)

-- whole ballots that gain, with so many times the best new ballot's arcs, bring all of it
pub taken_bring : (start : Ground) (limits : List Limit) (ls xs : List ℕ) (best : ℤ) → AreCounted start limits ls → (long : length xs ≡ length start.classes)
    → (worths : AreWorths start limits ls best) → AreGaining (class_gains start limits ls best) xs
    → weighted ls (program_rows start limits) (xs ++ (worths.reached xs long).ys) 1 ≡ base_by start limits ls +ℤ pos (gained (class_gains start limits ls best) xs)
taken_bring start limits ls xs best count long worths gaining =
    let flow = worths.reached xs long in
    let value = kept_value start limits ls xs flow.ys 1 count flow.numbers in
    let arcs = flow.brings in
    let both = with_extra (λ c. key_worth start limits ls c.0) worths.extra xs start.classes long in
    let exact = gain_exact (λ c. key_worth start limits ls c.0 +ℤ worths.extra) best (cost_by start limits ls) xs start.classes (λ c. worths.keys c.0) gaining in
    let once : pos 1 *ℤ base_by start limits ls ≡ base_by start limits ls = one_time (base_by start limits ls) in
    omega (arith, ints, value, arcs, both, exact, once)

-- of each class at most its count, by its gain
pub within_gains : (best : ℤ) (cost : ℕ → ℤ) (d : ℕ) (cs : List (ℕ × ℕ)) (xs : List ℕ) → AreWithin d cs xs → AreWithin d (gains_by best cost cs) xs
within_gains best cost d [] xs within = tt
within_gains best cost d (c ∷ cs) [] within = tt
within_gains best cost d (c ∷ cs) (x ∷ xs) within = (within.0, within_gains best cost d cs xs within.1)

pub gains_within : (best : ℤ) (cost : ℕ → ℤ) (d : ℕ) (cs : List (ℕ × ℕ)) (xs : List ℕ) → AreWithin d (gains_by best cost cs) xs → AreWithin d cs xs
gains_within best cost d [] xs within = tt
gains_within best cost d (c ∷ cs) [] within = tt
gains_within best cost d (c ∷ cs) (x ∷ xs) within = (within.0, gains_within best cost d cs xs within.1)

-- the rows of the classes and of the flow are met by them
pub taken_met : (start : Ground) (limits : List Limit) (ls xs : List ℕ) (best : ℤ) → (long : length xs ≡ length start.classes) → (worths : AreWorths start limits ls best)
    → AreWithin 1 (class_gains start limits ls best) xs → All (IsMetAt (xs ++ (worths.reached xs long).ys) 1) (class_rows_of start.classes ++ flow_rows_of start)
taken_met start limits ls xs best long worths within =
    let flow = worths.reached xs long in
    let met = IsMetAt (xs ++ flow.ys) 1 in
    All-append met (class_rows_of start.classes) (flow_rows_of start)
    (classes_met start.classes xs flow.ys 1 long (gains_within best (cost_by start limits ls) 1 start.classes xs within)) flow.met
