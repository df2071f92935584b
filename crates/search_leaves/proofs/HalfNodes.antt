-- The halves of a node: what its limits leave there.
use Rattle.std.proofs.Common.{◌≡◌, ℕ, zero, suc, ◌+◌, ◌<◌, ◌≤◌, ◌++◌, ◌∙◌, List, [], ◌∷◌, Bool, true, false, All, cond, get_or, length, refl, sym, ap, subst, arith}
use Rattle.std.specs.Prelude.{Contains, max, min, map}
use Rattle.std.proofs.lemmas.List.Elements.{All-append, All-cons, All-nil}
use Rattle.ballot_form.specs.declared.limits.TheConstants.{MOST_BALLOTS}
use Rattle.row_program.specs.declared.Feature.{Feature}
use Rattle.row_program.specs.declared.Limit.{Limit}
use Rattle.goal_rows.specs.Cells.{Variable, high_end, low_end, same_feature}
use Rattle.goal_rows.specs.Elections.{Election, Node}
use Rattle.goal_rows.specs.Nodes.{IsFeatureOf, high_limit, low_limit, with_limit}
use Rattle.dual_bound.proofs.GivenLimits.{same_feature_is}
use Rattle.search_theory.specs.Branchings.{Branching, variables_at}
use Rattle.search_theory.specs.Leaves.{HasRanges}
use Rattle.search_leaves.specs.Kept.{CanHalve, IsHalf}

-- ---- the ends with one limit more

abbrev low_after : Limit → Feature → ℕ → ℕ
low_after l f low = cond l.at_most low (cond (same_feature f l.feature) (max l.value low) low)

abbrev high_after : Limit → Variable → ℕ → ℕ
high_after l v high = cond l.at_most (cond (same_feature v.feature l.feature) (min l.value high) high) high

low_more : (ls : List Limit) (l : Limit) (f : Feature) → low_end (ls ++ l ∷ []) f ≡ low_after l f (low_end ls f)
low_more [] l f = refl
low_more (m ∷ ls) l f = ap (low_after m f) (low_more ls l f) ∙ by m.at_most (same_feature f m.feature) l.at_most (same_feature f l.feature) m.value l.value (low_end ls f)
  where
    by : (a s b t : Bool) (x y low : ℕ) → cond a (cond b low (cond t (max y low) low)) (cond s (max x (cond b low (cond t (max y low) low))) (cond b low (cond t (max y low) low)))
        ≡ cond b (cond a low (cond s (max x low) low)) (cond t (max y (cond a low (cond s (max x low) low))) (cond a low (cond s (max x low) low)))
    by true s true t x y low = refl
    by true s false t x y low = refl
    by false true true t x y low = refl
    by false true false true x y low = omega arith
    by false true false false x y low = refl
    by false false true t x y low = refl
    by false false false t x y low = refl

high_more : (ls : List Limit) (l : Limit) (v : Variable) → high_end (ls ++ l ∷ []) v ≡ high_after l v (high_end ls v)
high_more [] l v = refl
high_more (m ∷ ls) l v = ap (high_after m v) (high_more ls l v) ∙ by m.at_most (same_feature v.feature m.feature) l.at_most (same_feature v.feature l.feature) m.value l.value (high_end ls v)
  where
    by : (a s b t : Bool) (x y high : ℕ) → cond a (cond s (min x (cond b (cond t (min y high) high) high)) (cond b (cond t (min y high) high) high)) (cond b (cond t (min y high) high) high)
        ≡ cond b (cond t (min y (cond a (cond s (min x high) high) high)) (cond a (cond s (min x high) high) high)) (cond a (cond s (min x high) high) high)
    by true true true true x y high = omega arith
    by true true true false x y high = refl
    by true true false t x y high = refl
    by true false true t x y high = refl
    by true false false t x y high = refl
    by false s true t x y high = refl
    by false s false t x y high = refl

-- ---- ranges

-- one limit more on a variable of the goal, of a small value, which leaves each variable some value
halved : (e : Election) (node : Node) (l : Limit) → HasRanges e node → IsFeatureOf e node.goal l.feature → Contains (map (λ (v : Variable). v.feature) (variables_at e node)) l.feature → l.value ≤ MOST_BALLOTS
    → All (λ v. low_after l v.feature (low_end node.limits v.feature) ≤ high_after l v (high_end node.limits v)) (variables_at e node) → IsHalf e node l
halved e node l ranges feature on small some =
    let all : HasRanges e (with_limit node l) = record {
      small = All-append (λ (m : Limit). m.value ≤ MOST_BALLOTS) node.limits (l ∷ []) ranges.small (one (λ (m : Limit). m.value ≤ MOST_BALLOTS) small);
      features = All-append (λ (m : Limit). IsFeatureOf e node.goal m.feature) node.limits (l ∷ []) ranges.features (one (λ (m : Limit). IsFeatureOf e node.goal m.feature) feature);
      on_variables = All-append (λ (m : Limit). Contains (map (λ (v : Variable). v.feature) (variables_at e node)) m.feature) node.limits (l ∷ []) ranges.on_variables (one (λ (m : Limit). Contains (map (λ (v : Variable). v.feature) (variables_at e node)) m.feature) on);
      some = λ k d lt. let low = low_more node.limits l (get_or (variables_at e node) k d).feature in let high = high_more node.limits l (get_or (variables_at e node) k d) in let le = some k d lt in omega (arith, low, high, le);
    } in record { ranges = all }
  where
    one : (P : Limit → Type 0) → P l → All P (l ∷ [])
    one P p = All-cons P l [] p (All-nil P)

-- ---- the two halves

low_left : (b s : Bool) (value low high : ℕ) → low ≤ high → (s ≡ true → low ≤ value) → low ≤ cond s (min value high) high
low_left b true value low high le at = let h = at refl in omega (arith, le, h)
low_left b false value low high le at = le

high_left : (s : Bool) (value low high : ℕ) → low ≤ high → (s ≡ true → value < high) → cond s (max (value + 1) low) low ≤ high
high_left true value low high le at = let h = at refl in omega (arith, le, h)
high_left false value low high le at = le

pub low_is_half : (e : Election) (node : Node) (b : Branching) (l : Limit) → HasRanges e node → CanHalve e node b → l ≡ low_limit b.feature b.value → IsHalf e node l
low_is_half e node b l ranges can is = subst (λ l. IsHalf e node l) (sym is)
    (halved e node (low_limit b.feature b.value) ranges can.feature can.on_variable (let s = can.small in omega (arith, s))
    (λ k d lt. let v = get_or (variables_at e node) k d in low_left true (same_feature v.feature b.feature) b.value (low_end node.limits v.feature) (high_end node.limits v) (ranges.some k d lt)
    (λ same. let f = same_feature_is v.feature b.feature same in subst (λ f. low_end node.limits f ≤ b.value) (sym f) can.low)))

pub high_is_half : (e : Election) (node : Node) (b : Branching) (l : Limit) → HasRanges e node → CanHalve e node b → l ≡ high_limit b.feature b.value → IsHalf e node l
high_is_half e node b l ranges can is = subst (λ l. IsHalf e node l) (sym is)
    (halved e node (high_limit b.feature b.value) ranges can.feature can.on_variable (let s = can.small in omega (arith, s))
    (λ k d lt. let v = get_or (variables_at e node) k d in high_left (same_feature v.feature b.feature) b.value (low_end node.limits v.feature) (high_end node.limits v) (ranges.some k d lt)
    (λ same. can.high k d lt (same_feature_is v.feature b.feature same))))
