-- A cell whose values break a row: what is left of the row's rise where no limit holds it bounds the gains, and the
-- multipliers cut at each number.
use Rattle.std.proofs.Common.{◌≡◌, ℕ, zero, suc, ◌+◌, ◌-◌, ◌*◌, ◌≤◌, List, [], ◌∷◌, Bool, true, false, cond, map, ap, refl, subst, sym, ◌∙◌, inl, inr, arith, All}
use Rattle.std.specs.Prelude.{ℤ, pos, ◌+ℤ◌, ◌-ℤ◌, ◌*ℤ◌, ◌≤ℤ◌, ◌<ℤ◌, unsigned_abs}
use Rattle.std.specs.Int.{int_max}
use Rattle.std.specs.List.{list_any}
use Rattle.std.proofs.Math.IntN.{negsuc}
use Rattle.std.proofs.lemmas.Int.{int_max_is, ints}
use Rattle.mov_base.specs.Sums.{add_up, most, sum_z}
use Rattle.mov_base.proofs.Sums.{add_up-append, add_up-map}
use Rattle.row_program.specs.declared.Feature.{Feature}
use Rattle.row_program.specs.declared.Feature.TheVariants.{From, Arc}
use Rattle.row_program.specs.declared.Limit.{Limit}
use Rattle.row_program.specs.declared.program.Term.{Term}
use Rattle.sig_graph.specs.Paths.{arcs_of}
use Rattle.goal_rows.specs.Cells.{Variable, low_end, variables_of}
use Rattle.goal_rows.specs.declared.parts.Ground.{Ground}
use Rattle.dual_bound.specs.CellCuts.{above_none, given_in, same_limit, times_on}
use Rattle.dual_bound.specs.CellParts.{IsFixed, variable}
use Rattle.dual_bound.specs.declared.cell_cuts.Case.TheVariants.{GoalRow}
use Rattle.dual_bound.specs.Largest.{IsGreatestCut}
use Rattle.dual_bound.specs.Sizes.{places_of}
use Rattle.dual_bound.specs.Weighing.{gain_over}
use Rattle.dual_bound.proofs.CellVariables.{variables_are}
use Rattle.dual_bound.proofs.GivenLimits.{got, high_or_limit, kept_at, low_or_limit, lower, upper}

-- ---- a number's two parts

above_is : (z : ℤ) (n : ℕ) → z ≡ pos n → above_none z ≡ n
above_is z n is =
    let m : int_max (pos n) (pos 0) ≡ pos n = omega (arith, ints, int_max_is (pos n) (pos 0)) in
    ap (λ y. unsigned_abs (int_max y (pos 0))) is ∙ ap (λ y. unsigned_abs y) m

above_low : (z : ℤ) → z ≤ℤ pos 0 → above_none z ≡ 0
above_low z le =
    let m : int_max z (pos 0) ≡ pos 0 = omega (arith, ints, int_max_is z (pos 0), le) in
    ap (λ y. unsigned_abs y) m

pub two_parts : (z : ℤ) → z ≡ pos (above_none z) -ℤ pos (above_none (pos 0 -ℤ z))
two_parts (pos n) =
    let a = above_is (pos n) n refl in
    let b = above_low (pos 0 -ℤ pos n) (omega (arith, ints)) in
    omega (arith, ints, a, b)
two_parts (negsuc n) =
    let a = above_low (negsuc n) (omega (arith, ints)) in
    let b = above_is (pos 0 -ℤ negsuc n) (suc n) (omega (arith, ints)) in
    omega (arith, ints, a, b)

pub times_parts : (z : ℤ) (r f p : ℕ) → z ≡ pos r -ℤ pos f → z *ℤ pos p ≡ pos (r * p) -ℤ pos (f * p)
times_parts (pos n) r f p is =
    let e : r ≡ n + f = omega (arith, ints, is) in
    let m : r * p ≡ n * p + f * p = ap (λ k. k * p) e ∙ omega arith in
    omega (arith, ints, m)
times_parts (negsuc n) r f p is =
    let e : f ≡ r + suc n = omega (arith, ints, is) in
    let m : f * p ≡ r * p + suc n * p = ap (λ k. k * p) e ∙ omega arith in
    omega (arith, ints, m)

-- ---- one variable

-- before any replacement: what its tight limits bring, and what is left where none holds it
pub held_base : (up low : Bool) (rise fall p end : ℕ) (w : ℤ) → w ≡ pos rise -ℤ pos fall → (up ≡ false → p ≡ end) → (low ≡ false → p ≡ 0)
    → (pos (cond up rise 0 * p) -ℤ pos (cond low fall 0 * p)) +ℤ pos (cond up 0 rise * end) ≡ w *ℤ pos p
held_base true true rise fall p end w is at_end at_none = let m = times_parts w rise fall p is in omega (arith, ints, m)
held_base true false rise fall p end w is at_end at_none = let m = times_parts w rise fall p is in let z = at_none refl in let n : fall * p ≡ 0 = rw z (omega arith) in omega (arith, ints, m, n)
held_base false true rise fall p end w is at_end at_none =
    let m = times_parts w rise fall p is in
    let n : rise * end ≡ rise * p = ap (λ k. rise * k) (sym (at_end refl)) in
    omega (arith, ints, m, n)
held_base false false rise fall p end w is at_end at_none =
    let m = times_parts w rise fall p is in
    let z = at_none refl in
    let n : rise * end ≡ rise * p = ap (λ k. rise * k) (sym (at_end refl)) in
    let o : fall * p ≡ 0 = rw z (omega arith) in
    omega (arith, ints, m, n, o)

-- where a replacement counts for it
pub held_change : (up low : Bool) (rise fall : ℕ) (w : ℤ) → w ≡ pos rise -ℤ pos fall → (w +ℤ (pos (cond low fall 0) -ℤ pos (cond up rise 0))) ≤ℤ pos (cond up 0 rise)
held_change true true rise fall w is = omega (arith, ints, is)
held_change true false rise fall w is = omega (arith, ints, is)
held_change false true rise fall w is = omega (arith, ints, is)
held_change false false rise fall w is = omega (arith, ints, is)

-- ---- a row of the goal

module _ (limits : List Limit) (features : List Feature) (terms : List Term) where
  -- what the first case gives
  abbrev pub first : Limit → ℕ
  first = given_in GoalRow features terms

  abbrev pub weight : Feature → ℤ
  weight f = times_on features f terms

  -- a tight limit is on the feature
  abbrev pub is_held_up : Feature → Bool
  is_held_up f = list_any (same_limit (upper limits first f)) limits

  abbrev pub is_held_low : Feature → Bool
  is_held_low f = list_any (same_limit (lower limits first f)) limits

  -- what is left of a rise where no upper limit holds it
  abbrev pub left_on : Feature → ℕ
  left_on f = cond (is_held_up f) 0 (above_none (weight f))

  pub at_end : (v : Variable) → IsFixed limits v → is_held_up v.feature ≡ false → low_end limits v.feature ≡ v.end
  at_end v fixed off = elim (high_or_limit limits v) [
    | inl end ↦ fixed ∙ end
    | inr on ↦
        let there : is_held_up v.feature ≡ true = subst (λ w. list_any (same_limit (record { feature = v.feature; at_most = true; value = w })) limits ≡ true) (sym fixed) on in
        absurd (let clash : true ≡ false = sym there ∙ off in cc)
  ]

  pub at_none : (f : Feature) → is_held_low f ≡ false → low_end limits f ≡ 0
  at_none f off = elim (low_or_limit limits f) [ inl none ↦ none | inr on ↦ absurd (let clash : true ≡ false = sym on ∙ off in cc) ]

  pub one_base : (v : Variable) → IsFixed limits v
      → kept_at limits first [] limits v.feature +ℤ pos (left_on v.feature * v.end) ≡ weight v.feature *ℤ pos (low_end limits v.feature)
  one_base v fixed =
      let f = v.feature in
      held_base (is_held_up f) (is_held_low f) (above_none (weight f)) (above_none (pos 0 -ℤ weight f)) (low_end limits f) v.end (weight f) (two_parts (weight f)) (at_end v fixed) (at_none f)

  pub one_change : (f : Feature) → (weight f +ℤ (pos (got limits first (lower limits first f) [] limits) -ℤ pos (got limits first (upper limits first f) [] limits))) ≤ℤ pos (left_on f)
  one_change f = held_change (is_held_up f) (is_held_low f) (above_none (weight f)) (above_none (pos 0 -ℤ weight f)) (weight f) (two_parts (weight f))

  -- all variables
  pub all_base : (vs : List Variable) → All (IsFixed limits) vs
      → sum_z (λ v. kept_at limits first [] limits v.feature) vs +ℤ pos (add_up (λ v. left_on v.feature * v.end) vs) ≡ sum_z (λ v. weight v.feature *ℤ pos (low_end limits v.feature)) vs
  all_base [] fixed = omega (arith, ints)
  all_base (v ∷ vs) fixed =
      let here = one_base v (fixed 0 v (omega arith)) in
      let rest = all_base vs (λ k d lt. fixed (suc k) d (omega (arith, lt))) in
      omega (arith, ints, here, rest)

-- ---- what is left on all variables

turned : (l : Feature → ℕ) (cs : List (ℕ × ℕ)) → add_up (λ c. l (From c.0) * c.1) cs ≡ add_up (λ c. c.1 * l (From c.0)) cs
turned l [] = refl
turned l (c ∷ cs) = omega (arith, turned l cs)

so_many : (l : Feature → ℕ) (n : ℕ) (arcs : List (ℕ × ℕ)) → add_up (λ a. l (Arc a.0 a.1) * n) arcs ≡ n * add_up (λ a. l (Arc a.0 a.1)) arcs
so_many l n [] = omega arith
so_many l n (a ∷ arcs) =
    let rest = so_many l n arcs in
    let both : n * (l (Arc a.0 a.1) + add_up (λ b. l (Arc b.0 b.1)) arcs) ≡ l (Arc a.0 a.1) * n + n * add_up (λ b. l (Arc b.0 b.1)) arcs = omega arith in
    omega (arith, rest, both)

-- each ballot by its class, and all arcs for each ballot
pub left_is : (start : Ground) (l : Feature → ℕ) → add_up (λ v. l v.feature * v.end) (variables_of start)
    ≡ add_up (λ c. c.1 * l (From c.0)) start.classes + start.ballots * add_up (λ a. l (Arc a.0 a.1)) (arcs_of (places_of start.goal))
left_is start l =
    let f : Variable → ℕ = λ v. l v.feature * v.end in
    let all = arcs_of (places_of start.goal) in
    let class_of : ℕ × ℕ → Variable = λ c. variable (From c.0) c.1 in
    let arc_of : ℕ × ℕ → Variable = λ a. variable (Arc a.0 a.1) start.ballots in
    let whole = ap (add_up f) (variables_are start) in
    let split = add_up-append f (map class_of start.classes) (map arc_of all) in
    let one = add_up-map f class_of start.classes in
    let two = add_up-map f arc_of all in
    omega (arith, whole, split, one, two, turned l start.classes, so_many l start.ballots all)

-- ---- gains

pub most_sum : (k : ℕ) (xs : List ℕ) → most k xs ≤ add_up (λ x. x) xs
most_sum k [] = omega arith
most_sum zero (x ∷ xs) = omega arith
most_sum (suc k) (x ∷ xs) = omega (arith, most_sum k xs, most_sum (suc k) xs)

-- gains that the value before any replacement outweighs are cut at each number
pub cut_beyond : (base : ℤ) (gains : List ℕ) (end left : ℕ) → (base +ℤ pos left) <ℤ pos 0 → add_up (λ g. g) gains ≤ left → IsGreatestCut base gains end end
cut_beyond base gains end left low few = record {
  within = omega arith;
  cut = inr (let m = most_sum (end - 1) gains in omega (arith, ints, low, few, m));
  greatest = λ u le cut. le;
}

pub gain_most : (best cost : ℤ) (n : ℕ) → (best -ℤ cost) ≤ℤ pos n → gain_over best cost ≤ n
gain_most best cost n le = by (best -ℤ cost) le
  where
    by : (z : ℤ) → z ≤ℤ pos n → unsigned_abs (int_max z (pos 0)) ≤ n
    by (pos k) le = let a = above_is (pos k) k refl in omega (arith, ints, a, le)
    by (negsuc k) le = let a = above_low (negsuc k) (omega (arith, ints)) in omega (arith, a)
