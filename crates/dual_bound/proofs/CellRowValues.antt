-- What the rows of a program count for the features of its variables, and what they say at the values of a cell.
use Rattle.std.proofs.Common.{◌≡◌, ◌⊎◌, ℕ, zero, suc, ◌+◌, ◌<◌, ◌≤◌, List, [], ◌∷◌, ◌++◌, Bool, true, false, length, get_or, map, ap, refl, subst, sym, ◌∙◌, inl, inr, arith}
use Rattle.std.specs.Prelude.{Contains, filter, ℤ, pos, ◌+ℤ◌, ◌*ℤ◌, not}
use Rattle.std.specs.List.{range_with_len, zip}
use Rattle.std.proofs.Math.IntN.{negsuc}
use Rattle.std.proofs.lemmas.Bool.{cases_Bool, cases_eq}
use Rattle.std.proofs.lemmas.Int.{ints}
use Rattle.std.proofs.lemmas.List.{get_or_default, length-map, map-append}
use Rattle.mov_base.specs.Sums.{sum_z}
use Rattle.irv_count.proofs.Members.{differ_test}
use Rattle.row_program.specs.Forms.{empty_row}
use Rattle.row_program.specs.Points.{row_value, term_value}
use Rattle.row_program.specs.declared.Feature.{Feature}
use Rattle.row_program.specs.declared.Feature.TheVariants.{From, Arc}
use Rattle.row_program.specs.declared.Limit.{Limit}
use Rattle.sig_graph.specs.Paths.{arcs_of}
use Rattle.goal_rows.specs.Cells.{cell_values, low_end, same_feature}
use Rattle.goal_rows.specs.Programs.{arcs_under, is_some_weight, row_by, term_at, terms_of, weight_of}
use Rattle.goal_rows.specs.Suffixes.{those}
use Rattle.goal_rows.specs.declared.parts.Ground.{Ground}
use Rattle.goal_rows.proofs.Lists.{those_are}
use Rattle.dual_bound.specs.CellCuts.{feature_at, features_of, times_on}
use Rattle.dual_bound.specs.Sizes.{places_of}
use Rattle.dual_bound.proofs.CellVariables.{features_are, map_twice, places_arcs, values_are}
use Rattle.dual_bound.proofs.GivenLimits.{same_feature_is, same_feature_on}

-- what a row counts for a feature, by what it counts for keys and for arcs
abbrev pub weight_on : (ℕ → ℤ) → (ℕ × ℕ → ℤ) → Feature → ℤ
weight_on key arc (From k) = key k
weight_on key arc (Arc u p) = arc (u, p)

-- and for each variable
abbrev pub weights_over : Ground → (ℕ → ℤ) → (ℕ × ℕ → ℤ) → List ℤ
weights_over start key arc = map (λ c. key c.0) start.classes ++ map arc (arcs_under start.goal)

pub weights_are : (key : ℕ → ℤ) (arc : ℕ × ℕ → ℤ) (start : Ground) → weights_over start key arc ≡ map (weight_on key arc) (features_of start)
weights_are key arc start =
    let arcs = arcs_of (places_of start.goal) in
    ap (λ xs. map (λ (c : ℕ × ℕ). key c.0) start.classes ++ map arc xs) (places_arcs start.goal)
    ∙ sym (ap (map (weight_on key arc)) (features_are start)
    ∙ map-append (weight_on key arc) (map (λ (c : ℕ × ℕ). From c.0) start.classes) (map (λ (a : ℕ × ℕ). Arc a.0 a.1) arcs)
    ∙ ap (λ xs. xs ++ map (weight_on key arc) (map (λ (a : ℕ × ℕ). Arc a.0 a.1) arcs)) (map_twice (weight_on key arc) (λ (c : ℕ × ℕ). From c.0) start.classes)
    ∙ ap (λ xs. map (λ (c : ℕ × ℕ). key c.0) start.classes ++ xs) (map_twice (weight_on key arc) (λ (a : ℕ × ℕ). Arc a.0 a.1) arcs))

-- the row at r of rows that count by items of a list
pub row_of_items : {W : Type 0} (key : W → ℕ → ℤ) (arc : W → ℕ × ℕ → ℤ) (start : Ground) (sums : List ℤ) (ws : List W) (r : ℕ) → r < length sums → r < length ws
    → get_or (map (λ (p : ℤ × W). row_by p.0 (weights_over start (key p.1) (arc p.1))) (zip sums ws)) r empty_row
    ≡ row_by (get_or sums r (pos 0)) (weights_over start (get_or (map key ws) r (λ k. pos 0)) (get_or (map arc ws) r (λ a. pos 0)))
row_of_items key arc start [] ws r low within = absurd (omega (arith, low))
row_of_items key arc start (s ∷ sums) [] r low within = absurd (omega (arith, within))
row_of_items key arc start (s ∷ sums) (w ∷ ws) zero low within = refl
row_of_items key arc start (s ∷ sums) (w ∷ ws) (suc r) low within = row_of_items key arc start sums ws r (omega (arith, low)) (omega (arith, within))

-- ---- sums over those that pass

no_weight : (z : ℤ) → is_some_weight z ≡ false → z ≡ pos 0
no_weight (pos zero) off = refl
no_weight (pos (suc n)) off = absurd (let on = ap not (differ_test (suc n) 0 (λ e. omega (arith, e))) in let clash : true ≡ false = sym on ∙ off in cc)
no_weight (negsuc n) off = absurd (let on = ap not (differ_test (suc n) 0 (λ e. omega (arith, e))) in let clash : true ≡ false = sym on ∙ off in cc)

sum_filter : (test : ℕ → Bool) (g : ℕ → ℤ) (vs : List ℕ) → ((v : ℕ) → test v ≡ false → g v ≡ pos 0) → sum_z g (filter test vs) ≡ sum_z g vs
sum_filter test g [] none = refl
sum_filter test g (v ∷ vs) none = elim (cases_Bool (test v)) [
  | inl on ↦ rw on (ap (λ z. g v +ℤ z) (sum_filter test g vs none))
  | inr off ↦ rw off (let z = none v off in let r = sum_filter test g vs none in omega (arith, ints, z, r))
]

pub sum_z-map : {A B : Type 0} (g : B → ℤ) (f : A → B) (xs : List A) → sum_z g (map f xs) ≡ sum_z (λ x. g (f x)) xs
sum_z-map g f [] = refl
sum_z-map g f (x ∷ xs) = ap (λ z. g (f x) +ℤ z) (sum_z-map g f xs)

sum_items : (g : ℕ → ℤ) (h : Feature → ℤ) (fs : List Feature) (a : ℕ) → ((k : ℕ) → k < length fs → g (a + k) ≡ h (get_or fs k (From 0))) → sum_z g (range_with_len a (length fs)) ≡ sum_z h fs
sum_items g h [] a same = refl
sum_items g h (f ∷ fs) a same =
    let z : a + 0 ≡ a = omega arith in
    let here : g a ≡ h f = ap g (sym z) ∙ same 0 (omega arith) in
    let rest = sum_items g h fs (a + 1) (λ k lt. let e : (a + 1) + k ≡ a + suc k = omega arith in ap g e ∙ same (suc k) (omega (arith, lt))) in
    omega (arith, ints, here, rest)

at_of : {A B : Type 0} (f : A → B) (xs : List A) (k : ℕ) (d : B) (a : A) → k < length xs → get_or (map f xs) k d ≡ f (get_or xs k a)
at_of f [] k d a lt = absurd (omega (arith, lt))
at_of f (x ∷ xs) zero d a lt = refl
at_of f (x ∷ xs) (suc k) d a lt = at_of f xs k d a (omega (arith, lt))

none_times : (z : ℤ) (n : ℕ) → z ≡ pos 0 → z *ℤ pos n ≡ pos 0
none_times z n is = rw is (omega (arith, ints))

times_one : (z : ℤ) → z *ℤ pos 1 ≡ z
times_one (pos n) = omega (arith, ints)
times_one (negsuc n) = omega (arith, ints)

-- what a row says at values, feature by feature
pub row_at : (constant : ℤ) (weight : Feature → ℤ) (value : Feature → ℕ) (features : List Feature)
    → row_value (row_by constant (map weight features)) (map value features) 1 ≡ constant +ℤ sum_z (λ f. weight f *ℤ pos (value f)) features
row_at constant weight value features =
    let ws = map weight features in
    let values = map value features in
    let n = length-map features weight in
    let g = λ (v : ℕ). weight_of ws v *ℤ pos (get_or values v 0) in
    let terms = sum_z-map (term_value values) (term_at ws) (those (length ws) (λ v. is_some_weight (weight_of ws v))) in
    let all = sum_filter (λ v. is_some_weight (weight_of ws v)) g (range_with_len 0 (length ws)) (λ v off. none_times (weight_of ws v) (get_or values v 0) (no_weight (weight_of ws v) off)) in
    let long = ap (λ k. sum_z g (range_with_len 0 k)) n in
    let each = sum_items g (λ f. weight f *ℤ pos (value f)) features 0
    (λ k lt. let front : 0 + k ≡ k = omega arith in ap (λ j. weight_of ws j *ℤ pos (get_or values j 0)) front ∙ ap (λ z. z *ℤ pos (get_or values k 0)) (at_of weight features k (pos 0) (From 0) lt) ∙ ap (λ m. weight (get_or features k (From 0)) *ℤ pos m) (at_of value features k 0 (From 0) lt)) in
    let one = times_one constant in
    ap (λ z. z +ℤ sum_z (term_value values) (terms_of ws)) one ∙ ap (λ z. constant +ℤ z) (terms ∙ all ∙ long ∙ each)

-- ---- the terms of a row, by features

-- no number of these is that of the feature
abbrev IsNowhere : List Feature → Feature → List ℕ → Type 0
IsNowhere features f vs = (v : ℕ) → Contains vs v → get_or features v (From 0) ≡ f → ⊥

found_or : (weight : Feature → ℤ) (features : List Feature) (f : Feature) (vs : List ℕ) → ((v : ℕ) → Contains vs v → v < length features)
    → (times_on features f (map (term_at (map weight features)) vs) ≡ weight f)
    ⊎ ((times_on features f (map (term_at (map weight features)) vs) ≡ pos 0) × IsNowhere features f vs)
found_or weight features f [] low = inr (refl, λ v there same. omega (arith, there.1))
found_or weight features f (v ∷ vs) low = elim (cases_Bool (same_feature f (feature_at features v))) [
  | inl on ↦
      let at = same_feature_is f (get_or features v (From 0)) on in
      let w : weight_of (map weight features) v ≡ weight f = at_of weight features v (pos 0) (From 0) (low v (0, omega arith, refl)) ∙ ap weight (sym at) in
      inl (rw on w)
  | inr off ↦
      elim (found_or weight features f vs (λ u there. low u (suc there.0, omega (arith, there.1), there.2))) [
        | inl is ↦ inl (rw off is)
        | inr none ↦ inr (rw off none.0, elsewhere off none.1)
      ]
] where
  on_same : (g : Feature) → f ≡ g → same_feature f g ≡ true
  on_same g e = subst (λ h. same_feature f h ≡ true) e (same_feature_on f)

  elsewhere : same_feature f (feature_at features v) ≡ false → IsNowhere features f vs → IsNowhere features f (v ∷ vs)
  elsewhere off none u (zero, lt, e) same = let on = on_same (get_or features v (From 0)) (sym (ap (λ k. get_or features k (From 0)) e ∙ same)) in let clash : true ≡ false = sym on ∙ off in cc
  elsewhere off none u (suc k, lt, e) same = none u (k, omega (arith, lt), e) same

passed_there : (n : ℕ) (test : ℕ → Bool) (v : ℕ) → v < n → test v ≡ true → Contains (those n test) v
passed_there n test v lt on = from n 0 v (omega arith) (omega (arith, lt)) on
  where
    from : (n a v : ℕ) → a ≤ v → v < a + n → test v ≡ true → Contains (filter test (range_with_len a n)) v
    from zero a v ge less on = absurd (omega (arith, ge, less))
    from (suc n) a v ge less on = elim (cases_eq a v) [
      | inl same ↦ let t : test a ≡ true = ap test same ∙ on in rw t (0, omega arith, same)
      | inr differ ↦
          let rest = from n (a + 1) v (omega (arith, ge, differ)) (omega (arith, less)) on in
          elim (cases_Bool (test a)) [ inl t ↦ rw t (suc rest.0, omega (arith, rest.1), rest.2) | inr t ↦ rw t rest ]
    ]

-- the terms of a row multiply the variable of a feature by its weight
pub times_are : (weight : Feature → ℤ) (features : List Feature) (f : Feature) → Contains features f → times_on features f (terms_of (map weight features)) ≡ weight f
times_are weight features f there =
    let ws = map weight features in
    let n = length-map features weight in
    let test : ℕ → Bool = λ v. is_some_weight (weight_of ws v) in
    let vs = those (length ws) test in
    let at : get_or features there.0 (From 0) ≡ f = get_or_default features there.0 (From 0) f there.1 ∙ there.2 in
    elim (found_or weight features f vs (λ v has. let is = those_are (length ws) v test has in omega (arith, is.0, n))) [
      | inl is ↦ is
      | inr none ↦
          elim (cases_Bool (test there.0)) [
            | inl on ↦ absurd (none.1 there.0 (passed_there (length ws) test there.0 (omega (arith, there.1, n)) on) at)
            | inr off ↦
                let w = at_of weight features there.0 (pos 0) (From 0) there.1 ∙ ap weight at in
                none.0 ∙ sym (no_weight (weight_of ws there.0) off) ∙ w
          ]
    ]

-- a row at the values of a cell
pub row_in_cell : (constant : ℤ) (key : ℕ → ℤ) (arc : ℕ × ℕ → ℤ) (start : Ground) (limits : List Limit)
    → row_value (row_by constant (weights_over start key arc)) (cell_values start limits) 1
    ≡ constant +ℤ sum_z (λ f. weight_on key arc f *ℤ pos (low_end limits f)) (features_of start)
row_in_cell constant key arc start limits =
    ap (λ ws. row_value (row_by constant ws) (cell_values start limits) 1) (weights_are key arc start)
    ∙ ap (λ xs. row_value (row_by constant (map (weight_on key arc) (features_of start))) xs 1) (values_are start limits)
    ∙ row_at constant (weight_on key arc) (low_end limits) (features_of start)
