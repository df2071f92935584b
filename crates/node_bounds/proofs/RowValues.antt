-- The values of a program's rows at whole numbers over a denominator, and of kept rows with their multipliers.
use Rattle.std.proofs.Common.{◌≡◌, ℕ, zero, suc, ◌+◌, ◌≤◌, List, [], ◌∷◌, ◌++◌, Bool, false, length, get_or, map, take, drop, refl, sym, ap, subst, ◌∙◌, inl, inr, arith}
use Rattle.std.specs.Prelude.{ℤ, pos, ◌+ℤ◌, ◌*ℤ◌, filter, if◌then◌else◌}
use Rattle.std.specs.List.{range_with_len, zip}
use Rattle.std.proofs.Math.IntN.{negsuc}
use Rattle.std.proofs.lemmas.Bool.{cases_Bool}
use Rattle.std.proofs.lemmas.Bool.Decides.{nat_tests}
use Rattle.std.proofs.lemmas.Int.{ints}
use Rattle.std.proofs.lemmas.List.{append_assoc, length-append, length-map}
use Rattle.mov_base.specs.Sums.{sum_z}
use Rattle.mov_base.proofs.Signed.{distrib}
use Rattle.row_program.specs.Points.{row_value, term_value}
use Rattle.row_program.specs.declared.program.Row.{Row}
use Rattle.row_program.specs.declared.Limit.{Limit}
use Rattle.dual_theory.specs.Multipliers.{weighted}
use Rattle.goal_rows.specs.Programs.{arc_weight, arcs_under, class_rows_of, flow_rows_of, goal_rows_of, has_ends, has_key, is_some_weight, key_weight, limit_rows_of, one_more_in, program_rows, row_by, term_at, value_before, weight_of, weighings_of}
use Rattle.goal_rows.specs.Suffixes.{those}
use Rattle.goal_rows.specs.declared.parts.Ground.{Ground}
use Rattle.dual_bound.specs.Weighing.{base_by, limit_start, of_limits, of_rows, times_all}
use Rattle.dual_bound.proofs.Pairwise.{zip_none}
use Rattle.dual_bound.proofs.SideBySide.{factors_swap, mixed, times_append, times_both, times_none, times_scaled, turned}

-- ---- one row

-- what is left out counts nothing
left_out : {A : Type 0} (value : A → ℤ) (make : ℕ → A) (test : ℕ → Bool) (vs : List ℕ) → ((v : ℕ) → test v ≡ false → value (make v) ≡ pos 0)
    → sum_z value (map make (filter test vs)) ≡ sum_z (λ v. value (make v)) vs
left_out value make test [] none = refl
left_out value make test (v ∷ vs) none =
    let rest = left_out value make test vs none in
    elim (cases_Bool (test v)) [
      | inl on ↦ rw on (ap (λ z. value (make v) +ℤ z) rest)
      | inr off ↦ let z = none v off in rw off (omega (arith, ints, z, rest))
    ]

-- the sum over numbered places is that over the lists side by side
by_place : (value : ℕ → ℤ) (a : ℕ) (xs : List ℕ) (ws : List ℤ) → length ws ≤ length xs
    → ((k : ℕ) → value (a + k) ≡ get_or ws k (pos 0) *ℤ pos (get_or xs k 0)) → sum_z value (range_with_len a (length ws)) ≡ times_all xs ws
by_place value a xs [] le each = sym (zip_none (λ v. pos v.0 *ℤ v.1) xs)
by_place value a [] (w ∷ ws) le each = absurd (omega (arith, le))
by_place value a (x ∷ xs) (w ∷ ws) le each =
    let first : a + 0 ≡ a = omega arith in
    let here : value a ≡ w *ℤ pos x = ap value (sym first) ∙ each 0 in
    let rest = by_place value (a + 1) xs ws (omega (arith, le)) (λ k. let e : a + 1 + k ≡ a + suc k = omega arith in ap value e ∙ each (suc k)) in
    let other = turned w x in
    omega (arith, ints, here, rest, other)

no_weight : (w : ℤ) → is_some_weight w ≡ false → w ≡ pos 0
no_weight (pos zero) none = refl
no_weight (pos (suc n)) none = grind (arith, nat_tests)
no_weight (negsuc n) none = grind (arith, nat_tests)

-- the terms of a row are its weights beside the numbers
terms_sum : (weights : List ℤ) (whole : List ℕ) → length weights ≤ length whole
    → sum_z (term_value whole) (map (term_at weights) (those (length weights) (λ v. is_some_weight (weight_of weights v)))) ≡ times_all whole weights
terms_sum weights whole le =
    left_out (term_value whole) (term_at weights) (λ v. is_some_weight (weight_of weights v)) (range_with_len 0 (length weights))
    (λ v off. ap (λ w. w *ℤ pos (get_or whole v 0)) (no_weight (weight_of weights v) off) ∙ turned (pos 0) (get_or whole v 0) ∙ omega (arith, ints))
    ∙ by_place (λ v. term_value whole (term_at weights v)) 0 whole weights le
    (λ k. let e : 0 + k ≡ k = omega arith in ap (λ v. term_value whole (term_at weights v)) e)

pub row_by_value : (constant : ℤ) (weights : List ℤ) (whole : List ℕ) (den : ℕ) → length weights ≤ length whole
    → row_value (row_by constant weights) whole den ≡ (pos den *ℤ constant) +ℤ times_all whole weights
row_by_value constant weights whole den le =
    let terms = terms_sum weights whole le in
    let first = turned constant den in
    omega (arith, ints, terms, first)

-- a row that counts the classes and the arcs, at their numbers
pub counting_value : (constant : ℤ) (key arc : ℕ × ℕ → ℤ) (classes arcs : List (ℕ × ℕ)) (xs ys : List ℕ) (den : ℕ) → length xs ≡ length classes → length ys ≡ length arcs
    → row_value (row_by constant (map key classes ++ map arc arcs)) (xs ++ ys) den ≡ (pos den *ℤ constant) +ℤ (times_all xs (map key classes) +ℤ times_all ys (map arc arcs))
counting_value constant key arc classes arcs xs ys den long also =
    let n = length-append (map key classes) (map arc arcs) in
    let k = length-map classes key in
    let a = length-map arcs arc in
    let m = length-append xs ys in
    let value = row_by_value constant (map key classes ++ map arc arcs) (xs ++ ys) den (omega (arith, n, k, a, m, long, also)) in
    let parts = times_append xs ys (map key classes) (map arc arcs) (omega (arith, long, k)) in
    omega (arith, ints, value, parts)

-- ---- rows with multipliers

-- the numbers of classes and arcs
pub record AreNumbers (classes arcs : List (ℕ × ℕ)) (xs ys : List ℕ) : Type 0 where
  pub of_classes : length xs ≡ length classes
  pub of_arcs : length ys ≡ length arcs

-- one more row with its multiplier
one_more : (l den : ℕ) (constant base : ℤ) (key arc keys arcs_in : ℕ × ℕ → ℤ) (classes arcs : List (ℕ × ℕ)) (xs ys : List ℕ)
    → (pos l *ℤ ((pos den *ℤ constant) +ℤ (times_all xs (map key classes) +ℤ times_all ys (map arc arcs))))
    +ℤ ((pos den *ℤ base) +ℤ (times_all xs (map keys classes) +ℤ times_all ys (map arcs_in arcs)))
    ≡ (pos den *ℤ ((pos l *ℤ constant) +ℤ base))
    +ℤ (times_all xs (map (λ c. (pos l *ℤ key c) +ℤ keys c) classes) +ℤ times_all ys (map (λ a. (pos l *ℤ arc a) +ℤ arcs_in a) arcs))
one_more l den constant base key arc keys arcs_in classes arcs xs ys =
    let outer = distrib l (pos den *ℤ constant) (times_all xs (map key classes) +ℤ times_all ys (map arc arcs)) in
    let inner = distrib l (times_all xs (map key classes)) (times_all ys (map arc arcs)) in
    let of_keys = times_both (λ c. pos l *ℤ key c) keys xs classes in
    let key_part = times_scaled l key xs classes in
    let of_arcs = times_both (λ a. pos l *ℤ arc a) arcs_in ys arcs in
    let arc_part = times_scaled l arc ys arcs in
    let first = factors_swap l den constant in
    let bases = distrib den (pos l *ℤ constant) base in
    omega (arith, ints, outer, inner, of_keys, key_part, of_arcs, arc_part, first, bases)

no_more : (den : ℕ) (classes arcs : List (ℕ × ℕ)) (xs ys : List ℕ)
    → pos 0 ≡ (pos den *ℤ pos 0) +ℤ (times_all xs (map (λ c. pos 0) classes) +ℤ times_all ys (map (λ a. pos 0) arcs))
no_more den classes arcs xs ys =
    let k = times_none xs classes in
    let a = times_none ys arcs in
    omega (arith, ints, k, a)

-- rows that are made alike, with their multipliers: their constants, and what each class and each arc counts in them
pub made_rows : {X : Type 0} (rs : List X) (ls : List ℕ) (constant : X → ℤ) (key arc : X → ℕ × ℕ → ℤ) (classes arcs : List (ℕ × ℕ)) (xs ys : List ℕ) (den : ℕ)
    → AreNumbers classes arcs xs ys
    → weighted ls (map (λ r. row_by (constant r) (map (key r) classes ++ map (arc r) arcs)) rs) (xs ++ ys) den
    ≡ (pos den *ℤ times_all ls (map constant rs))
    +ℤ (times_all xs (map (λ c. mixed (λ r. key r c) ls rs) classes) +ℤ times_all ys (map (λ a. mixed (λ r. arc r a) ls rs) arcs))
made_rows rs [] constant key arc classes arcs xs ys den are = no_more den classes arcs xs ys
made_rows [] (l ∷ ls) constant key arc classes arcs xs ys den are = no_more den classes arcs xs ys
made_rows (r ∷ rs) (l ∷ ls) constant key arc classes arcs xs ys den are =
    ap (λ z. (pos l *ℤ z) +ℤ weighted ls (map (λ r. row_by (constant r) (map (key r) classes ++ map (arc r) arcs)) rs) (xs ++ ys) den)
    (counting_value (constant r) (key r) (arc r) classes arcs xs ys den are.of_classes are.of_arcs)
    ∙ ap (λ z. (pos l *ℤ ((pos den *ℤ constant r) +ℤ (times_all xs (map (key r) classes) +ℤ times_all ys (map (arc r) arcs)))) +ℤ z)
    (made_rows rs ls constant key arc classes arcs xs ys den are)
    ∙ one_more l den (constant r) (times_all ls (map constant rs)) (key r) (arc r) (λ c. mixed (λ r. key r c) ls rs) (λ a. mixed (λ r. arc r a) ls rs) classes arcs xs ys

-- the same of rows with their constants beside them
pub paired_rows : {X : Type 0} (rs : List X) (sums : List ℤ) (ls : List ℕ) (key arc : X → ℕ × ℕ → ℤ) (classes arcs : List (ℕ × ℕ)) (xs ys : List ℕ) (den : ℕ)
    → AreNumbers classes arcs xs ys → length sums ≡ length rs
    → weighted ls (map (λ r. row_by r.0 (map (key r.1) classes ++ map (arc r.1) arcs)) (zip sums rs)) (xs ++ ys) den
    ≡ (pos den *ℤ times_all ls sums) +ℤ (times_all xs (map (λ c. mixed (λ r. key r c) ls rs) classes) +ℤ times_all ys (map (λ a. mixed (λ r. arc r a) ls rs) arcs))
paired_rows rs sums [] key arc classes arcs xs ys den are long = no_more den classes arcs xs ys
paired_rows [] [] (l ∷ ls) key arc classes arcs xs ys den are long = no_more den classes arcs xs ys
paired_rows [] (s ∷ sums) (l ∷ ls) key arc classes arcs xs ys den are long = absurd (omega (arith, long))
paired_rows (r ∷ rs) [] (l ∷ ls) key arc classes arcs xs ys den are long = absurd (omega (arith, long))
paired_rows {X} (r ∷ rs) (s ∷ sums) (l ∷ ls) key arc classes arcs xs ys den are long =
    ap (λ z. (pos l *ℤ z) +ℤ weighted ls (map (λ (r : ℤ × X). row_by r.0 (map (key r.1) classes ++ map (arc r.1) arcs)) (zip sums rs)) (xs ++ ys) den)
    (counting_value s (key r) (arc r) classes arcs xs ys den are.of_classes are.of_arcs)
    ∙ ap (λ z. (pos l *ℤ ((pos den *ℤ s) +ℤ (times_all xs (map (key r) classes) +ℤ times_all ys (map (arc r) arcs)))) +ℤ z)
    (paired_rows rs sums ls key arc classes arcs xs ys den are (omega (arith, long)))
    ∙ one_more l den s (times_all ls sums) (key r) (arc r) (λ c. mixed (λ r. key r c) ls rs) (λ a. mixed (λ r. arc r a) ls rs) classes arcs xs ys

weighted_append : (ls : List ℕ) (rows more : List Row) (whole : List ℕ) (den : ℕ)
    → weighted ls (rows ++ more) whole den ≡ weighted (take (length rows) ls) rows whole den +ℤ weighted (drop (length rows) ls) more whole den
weighted_append [] [] more whole den = refl
weighted_append [] (row ∷ rows) more whole den = refl
weighted_append (l ∷ ls) [] more whole den = omega (arith, ints)
weighted_append (l ∷ ls) (row ∷ rows) more whole den = let rest = weighted_append ls rows more whole den in omega (arith, ints, rest)

weighted_kept : (ls : List ℕ) (rows more : List Row) (whole : List ℕ) (den : ℕ) → length ls ≤ length rows → weighted ls (rows ++ more) whole den ≡ weighted ls rows whole den
weighted_kept [] rows more whole den le = refl
weighted_kept (l ∷ ls) [] more whole den le = absurd (omega (arith, le))
weighted_kept (l ∷ ls) (row ∷ rows) more whole den le = ap (λ z. (pos l *ℤ row_value row whole den) +ℤ z) (weighted_kept ls rows more whole den (omega (arith, le)))

-- ---- the kept rows of a node

-- what a replaced ballot of this key counts in a limit, and what an arc of a new one does
abbrev pub limit_key : ℕ → Limit → ℤ
limit_key key limit = if has_key key limit.feature then one_more_in limit else pos 0

abbrev pub limit_arc : ℕ × ℕ → Limit → ℤ
limit_arc a limit = if has_ends a limit.feature then one_more_in limit else pos 0

-- what a replaced ballot of this key counts in rows and limits, times their multipliers, and what an arc of a new one does
abbrev pub key_worth : Ground → List Limit → List ℕ → ℕ → ℤ
key_worth start limits ls key =
    mixed (λ w. key_weight w key) (of_rows start ls) (weighings_of start) +ℤ mixed (limit_key key) (of_limits start ls) limits

abbrev pub arc_worth : Ground → List Limit → List ℕ → ℕ × ℕ → ℤ
arc_worth start limits ls a = mixed (λ w. arc_weight w a) (of_rows start ls) (weighings_of start) +ℤ mixed (limit_arc a) (of_limits start ls) limits

-- numbers of the classes times what these are worth, and of the arcs
abbrev pub classes_worth : Ground → List Limit → List ℕ → List ℕ → ℤ
classes_worth start limits ls xs = times_all xs (map (λ c. key_worth start limits ls c.0) start.classes)

abbrev pub arcs_worth : Ground → List Limit → List ℕ → List ℕ → ℤ
arcs_worth start limits ls ys = times_all ys (map (arc_worth start limits ls) (arcs_under start.goal))

-- the numbers of the variables of a ground's programs
abbrev pub AreNumbersOf : Ground → List ℕ → List ℕ → Type 0
AreNumbersOf start xs ys = AreNumbers start.classes (arcs_under start.goal) xs ys

-- as many rows and weighings as values, and as many multipliers as rows and limits
pub record AreCounted (start : Ground) (limits : List Limit) (ls : List ℕ) : Type 0 where
  pub rows : length (goal_rows_of start) ≡ length start.sums
  pub weighings : length (weighings_of start) ≡ length start.sums
  pub multipliers : length ls ≡ length start.sums + length limits

goal_part : (start : Ground) (ls xs ys : List ℕ) (den : ℕ) → length start.sums ≡ length (weighings_of start) → AreNumbersOf start xs ys
    → weighted ls (goal_rows_of start) (xs ++ ys) den
    ≡ (pos den *ℤ times_all ls start.sums)
    +ℤ (times_all xs (map (λ c. mixed (λ w. key_weight w c.0) ls (weighings_of start)) start.classes)
    +ℤ times_all ys (map (λ a. mixed (λ w. arc_weight w a) ls (weighings_of start)) (arcs_under start.goal)))
goal_part start ls xs ys den count are =
    paired_rows (weighings_of start) start.sums ls (λ w c. key_weight w c.0) (λ w a. arc_weight w a) start.classes (arcs_under start.goal) xs ys den are count

limit_part : (start : Ground) (limits : List Limit) (ls xs ys : List ℕ) (den : ℕ) → AreNumbersOf start xs ys
    → weighted ls (limit_rows_of start limits) (xs ++ ys) den
    ≡ (pos den *ℤ times_all ls (map limit_start limits))
    +ℤ (times_all xs (map (λ c. mixed (limit_key c.0) ls limits) start.classes) +ℤ times_all ys (map (λ a. mixed (limit_arc a) ls limits) (arcs_under start.goal)))
limit_part start limits ls xs ys den are =
    made_rows limits ls value_before (λ limit c. limit_key c.0 limit) (λ limit a. limit_arc a limit) start.classes (arcs_under start.goal) xs ys den are

-- at numbers over a denominator the kept rows, with their multipliers, have the value before any replacement times the denominator, and
-- what the classes and the arcs are worth
-- the kept rows, and the others behind them
pub rows_kept : (start : Ground) (limits : List Limit)
    → program_rows start limits ≡ (goal_rows_of start ++ limit_rows_of start limits) ++ (class_rows_of start.classes ++ flow_rows_of start)
rows_kept start limits = append_assoc (goal_rows_of start ++ limit_rows_of start limits) (class_rows_of start.classes) (flow_rows_of start)

pub limit_count : (start : Ground) (limits : List Limit) → length (limit_rows_of start limits) ≡ length limits
limit_count start [] = refl
limit_count start (limit ∷ limits) = omega (arith, limit_count start limits)

pub kept_value : (start : Ground) (limits : List Limit) (ls xs ys : List ℕ) (den : ℕ) → AreCounted start limits ls → AreNumbersOf start xs ys
    → weighted ls (program_rows start limits) (xs ++ ys) den ≡ (pos den *ℤ base_by start limits ls) +ℤ (classes_worth start limits ls xs +ℤ arcs_worth start limits ls ys)
kept_value start limits ls xs ys den count are =
    let more = class_rows_of start.classes ++ flow_rows_of start in
    let both = goal_rows_of start ++ limit_rows_of start limits in
    let long = length-append (goal_rows_of start) (limit_rows_of start limits) in
    let behind = ap (λ rows. weighted ls rows (xs ++ ys) den) (rows_kept start limits)
    ∙ weighted_kept ls both more (xs ++ ys) den (omega (arith, long, limit_count start limits, count.rows, count.multipliers)) in
    let split = weighted_append ls (goal_rows_of start) (limit_rows_of start limits) (xs ++ ys) den in
    let split_at = subst (λ n. weighted ls both (xs ++ ys) den
    ≡ weighted (take n ls) (goal_rows_of start) (xs ++ ys) den +ℤ weighted (drop n ls) (limit_rows_of start limits) (xs ++ ys) den) count.rows split in
    let one = goal_part start (of_rows start ls) xs ys den (sym count.weighings) are in
    let other = limit_part start limits (of_limits start ls) xs ys den are in
    let bases = distrib den (times_all (of_rows start ls) start.sums) (times_all (of_limits start ls) (map limit_start limits)) in
    let keys = times_both (λ (c : ℕ × ℕ). mixed (λ w. key_weight w c.0) (of_rows start ls) (weighings_of start)) (λ c. mixed (limit_key c.0) (of_limits start ls) limits) xs start.classes in
    let arcs = times_both (λ a. mixed (λ w. arc_weight w a) (of_rows start ls) (weighings_of start)) (λ a. mixed (limit_arc a) (of_limits start ls) limits) ys (arcs_under start.goal) in
    omega (arith, ints, behind, split_at, one, other, bases, keys, arcs)
