-- What the tightest limits get, summed: by the feature of a variable, and over all variables.
use Rattle.std.proofs.Common.{◌≡◌, ◌⊎◌, ℕ, suc, ◌+◌, ◌*◌, List, [], ◌∷◌, ◌++◌, Bool, true, false, cond, map, ap, refl, sym, subst, ◌∙◌, inl, inr, arith, All}
use Rattle.std.specs.Prelude.{◌==◌, ◌&&◌, ◌||◌, not, max, min, ℤ, pos, ◌+ℤ◌, ◌-ℤ◌, ◌*ℤ◌}
use Rattle.std.specs.List.{list_any}
use Rattle.std.proofs.Math.IntN.{negsuc}
use Rattle.std.proofs.lemmas.Bool.{cases_Bool, cases_eq, cases_lt}
use Rattle.std.proofs.lemmas.Int.{ints}
use Rattle.mov_base.specs.Sums.{add_up, sum_z}
use Rattle.mov_base.proofs.Signed.{distrib, sum_z-add, sum_z-zero}
use Rattle.irv_count.proofs.Members.{differ_test, same_test}
use Rattle.row_program.specs.declared.Feature.{Feature}
use Rattle.row_program.specs.declared.Feature.TheVariants.{From, Arc}
use Rattle.row_program.specs.declared.Limit.{Limit}
use Rattle.goal_rows.specs.Cells.{Variable, high_end, low_end, same_feature}
use Rattle.dual_bound.specs.CellCuts.{given_each, is_tight, is_tightest, same_kind, same_limit}
use Rattle.dual_bound.proofs.PathArcs.{flipped}
use Rattle.dual_bound.specs.Weighing.{limit_start, limits_bring, signed, times_all}

-- ---- tests

pub and_left : (a b : Bool) → (a && b) ≡ true → a ≡ true
and_left true b e = refl
and_left false b e = e

pub and_right : (a b : Bool) → (a && b) ≡ true → b ≡ true
and_right true b e = e
and_right false b e = absurd (let clash : false ≡ true = e in cc)

pub both_on : (a b : Bool) → a ≡ true → b ≡ true → (a && b) ≡ true
both_on true true p q = refl
both_on true false p q = q
both_on false b p q = p

pub eq_test : (a b : ℕ) → (a == b) ≡ true → a ≡ b
eq_test a b e = elim (cases_eq a b) [ inl same ↦ same | inr differ ↦ absurd (let off = differ_test a b differ in let clash : false ≡ true = sym off ∙ e in cc) ]

pub same_feature_is : (f g : Feature) → same_feature f g ≡ true → f ≡ g
same_feature_is (From key) (From other) e = ap From (sym (eq_test other key e))
same_feature_is (From key) (Arc u p) e = absurd (let clash : false ≡ true = e in cc)
same_feature_is (Arc u p) (From key) e = absurd (let clash : false ≡ true = e in cc)
same_feature_is (Arc u p) (Arc a b) e =
    let one = eq_test a u (and_left (a == u) (b == p) e) in
    let two = eq_test b p (and_right (a == u) (b == p) e) in
    cc

pub same_feature_on : (f : Feature) → same_feature f f ≡ true
same_feature_on (From key) = same_test key key refl
same_feature_on (Arc u p) = both_on (u == u) (p == p) (same_test u u refl) (same_test p p refl)

same_kind_is : (a b : Bool) → same_kind a b ≡ true → a ≡ b
same_kind_is true true e = refl
same_kind_is true false e = absurd (let clash : false ≡ true = e in cc)
same_kind_is false true e = absurd (let clash : false ≡ true = e in cc)
same_kind_is false false e = refl

same_kind_on : (a : Bool) → same_kind a a ≡ true
same_kind_on true = refl
same_kind_on false = refl

or_on : (b : Bool) → (b || true) ≡ true
or_on true = refl
or_on false = refl

-- limits by their parts
limit_by : Feature → Bool → ℕ → Limit
limit_by feature at_most value = record { feature = feature; at_most = at_most; value = value }

same_parts : (f g : Feature) (a b : Bool) (v w : ℕ) → f ≡ g → a ≡ b → v ≡ w → limit_by f a v ≡ limit_by g b w
unfolding limit_by
same_parts f g a b v w p q r = cc

pub same_limit_is : (k l : Limit) → same_limit k l ≡ true → k ≡ l
unfolding limit_by
same_limit_is k l e =
    let kind = and_left (same_kind k.at_most l.at_most) (same_feature k.feature l.feature && (k.value == l.value)) e in
    let rest = and_right (same_kind k.at_most l.at_most) (same_feature k.feature l.feature && (k.value == l.value)) e in
    same_parts k.feature l.feature k.at_most l.at_most k.value l.value
    (same_feature_is k.feature l.feature (and_left (same_feature k.feature l.feature) (k.value == l.value) rest))
    (same_kind_is k.at_most l.at_most kind)
    (eq_test k.value l.value (and_right (same_feature k.feature l.feature) (k.value == l.value) rest))

any_append : {A : Type 0} (test : A → Bool) (xs : List A) (x : A) → list_any test (xs ++ x ∷ []) ≡ (list_any test xs || test x)
any_append test [] x = or_false (test x)
  where
    or_false : (b : Bool) → (b || false) ≡ b
    or_false true = refl
    or_false false = refl
any_append test (y ∷ xs) x = ap (λ b. test y || b) (any_append test xs x) ∙ or_assoc (test y) (list_any test xs) (test x)
  where
    or_assoc : (a b d : Bool) → (a || (b || d)) ≡ ((a || b) || d)
    or_assoc true b d = refl
    or_assoc false b d = refl

-- ---- one limit, with all that are the same

module _ (limits : List Limit) (give : Limit → ℕ) where
  -- what a limit gets behind others
  abbrev pub share : List Limit → Limit → ℕ
  share before limit = cond (is_tightest limits before limit) (give limit) 0

  -- what the limits that are the same as k get together, behind others
  abbrev pub got : Limit → List Limit → List Limit → ℕ
  got k before rest = cond (list_any (same_limit k) before) 0 (cond (list_any (same_limit k) rest) (give k) 0)

  pub got_none : (k : Limit) (before : List Limit) → got k before [] ≡ 0
  got_none k before = by (list_any (same_limit k) before)
    where
      by : (b : Bool) → ◌≡◌ {A = ℕ} (cond b 0 0) 0
      by true = refl
      by false = refl

  share_of : (k l : Limit) (before : List Limit) → k ≡ l → is_tight limits k ≡ true → share before l ≡ cond (list_any (same_limit k) before) 0 (give k)
  share_of k l before same tight =
      subst (λ m. share before m ≡ cond (list_any (same_limit k) before) 0 (give k)) same
      (ap (λ t. cond (t && not (list_any (same_limit k) before)) (give k) 0) tight ∙ by (list_any (same_limit k) before) (give k))
    where
      by : (b : Bool) (n : ℕ) → cond (true && not b) n 0 ≡ cond b 0 n
      by true n = refl
      by false n = refl

  -- one limit more in front
  pub got_step : (k l : Limit) (before rest : List Limit) → is_tight limits k ≡ true
      → got k before (l ∷ rest) ≡ cond (same_limit k l) (share before l) 0 + got k (before ++ l ∷ []) rest
  got_step k l before rest tight = elim (cases_Bool (same_limit k l)) [
    | inl on ↦
        let s = share_of k l before (same_limit_is k l on) tight in
        let a = any_append (same_limit k) before l in
        rw (a, on, s) (here (list_any (same_limit k) before) (list_any (same_limit k) rest) (give k))
    | inr off ↦
        let a = any_append (same_limit k) before l in
        rw (a, off) (past (list_any (same_limit k) before) (cond (list_any (same_limit k) rest) (give k) 0))
  ] where
    here : (b r : Bool) (n : ℕ) → cond b 0 (cond (true || r) n 0) ≡ cond b 0 n + cond (b || true) 0 (cond r n 0)
    here true r n = refl
    here false r n = omega arith

    past : (b : Bool) (n : ℕ) → cond b 0 n ≡ 0 + cond (b || false) 0 n
    past true n = refl
    past false n = omega arith

  -- the tight limits of the two kinds on a feature
  abbrev pub upper : Feature → Limit
  upper f = record { feature = f; at_most = true; value = low_end limits f }

  abbrev pub lower : Feature → Limit
  lower f = record { feature = f; at_most = false; value = low_end limits f }

  pub tight_upper : (f : Feature) → is_tight limits (upper f) ≡ true
  tight_upper f = same_test (low_end limits f) (low_end limits f) refl

  pub tight_lower : (f : Feature) → is_tight limits (lower f) ≡ true
  tight_lower f = same_test (low_end limits f) (low_end limits f) refl

  -- a share is of a tight limit, or nothing
  loose : (before : List Limit) (l : Limit) → is_tight limits l ≡ false → share before l ≡ 0
  loose before l off = ap (λ t. cond (t && not (list_any (same_limit l) before)) (give l) 0) off

  -- what is the same for the limit at hand: its feature, and then its value
  unlike : (f : Feature) (l : Limit) (before : List Limit) → same_feature f l.feature ≡ true → (low_end limits f == l.value) ≡ false → share before l ≡ 0
  unlike f l before on off =
      let same = same_feature_is f l.feature on in
      loose before l (flipped l.value (low_end limits l.feature) ∙ ap (λ g. low_end limits g == l.value) (sym same) ∙ off)

  -- what it brings on a feature
  on_feature : (a t z : Bool) (n : ℕ) → (t ≡ true → z ≡ false → n ≡ 0)
      → cond t (cond a (pos 0 -ℤ pos n) (pos n)) (pos 0) ≡ pos (cond (same_kind false a && (t && z)) n 0) -ℤ pos (cond (same_kind true a && (t && z)) n 0)
  on_feature true true true n none = omega (arith, ints)
  on_feature true true false n none = let e = none refl refl in omega (arith, ints, e)
  on_feature true false z n none = omega (arith, ints)
  on_feature false true true n none = omega (arith, ints)
  on_feature false true false n none = let e = none refl refl in omega (arith, ints, e)
  on_feature false false z n none = omega (arith, ints)

  -- limits bring on a feature what its tight lower one gets, less what its tight upper one gets
  pub limits_on : (f : Feature) (test : Feature → Bool) → ((g : Feature) → test g ≡ same_feature f g) → (before rest : List Limit)
      → limits_bring test (given_each limits give before rest) rest ≡ pos (got (lower f) before rest) -ℤ pos (got (upper f) before rest)
  limits_on f test same before [] = let a = got_none (lower f) before in let b = got_none (upper f) before in omega (arith, ints, a, b)
  limits_on f test same before (l ∷ rest) =
      let h = limits_on f test same (before ++ l ∷ []) rest in
      let a = got_step (lower f) l before rest (tight_lower f) in
      let b = got_step (upper f) l before rest (tight_upper f) in
      let here = on_feature l.at_most (same_feature f l.feature) (low_end limits f == l.value) (share before l) (unlike f l before) in
      let t = ap (λ b. cond b (signed l (share before l)) (pos 0)) (same l.feature) in
      omega (arith, ints, h, a, b, here, t)

  -- ---- over all variables

  times_less : (n v : ℕ) → pos n *ℤ (pos 0 -ℤ pos v) ≡ pos 0 -ℤ pos (n * v)
  times_less n v =
      let whole : (pos 0 -ℤ pos v) +ℤ pos v ≡ pos 0 = omega (arith, ints) in
      let apart = distrib n (pos 0 -ℤ pos v) (pos v) in
      let same = ap (λ z. pos n *ℤ z) whole in
      omega (arith, ints, apart, same)

  -- what it brings before any replacement, where it is on the feature
  at_start : (a t z : Bool) (n v p : ℕ) → (t ≡ true → z ≡ false → n ≡ 0) → (z ≡ true → p ≡ v)
      → cond t (pos n *ℤ cond a (pos v) (pos 0 -ℤ pos v)) (pos 0) ≡ pos (cond (same_kind true a && (t && z)) n 0 * p) -ℤ pos (cond (same_kind false a && (t && z)) n 0 * p)
  at_start true true true n v p none is = let e = is refl in rw e (omega (arith, ints))
  at_start true true false n v p none is = let e = none refl refl in rw e (omega (arith, ints))
  at_start true false z n v p none is = omega (arith, ints)
  at_start false true true n v p none is = let e = is refl in rw e (let m = times_less n v in omega (arith, ints, m))
  at_start false true false n v p none is = let e = none refl refl in rw e (omega (arith, ints))
  at_start false false z n v p none is = omega (arith, ints)

  -- how often a feature stands among the variables
  abbrev pub times_in : List Feature → Feature → ℕ
  times_in features g = add_up (λ f. cond (same_feature f g) 1 0) features

  one_more : (n : ℕ) (z : ℤ) → z +ℤ (pos n *ℤ z) ≡ pos (1 + n) *ℤ z
  one_more n (pos k) = omega (arith, ints)
  one_more n (negsuc k) = omega (arith, ints)

  pub each_time : (features : List Feature) (g : Feature) (z : ℤ) → sum_z (λ f. cond (same_feature f g) z (pos 0)) features ≡ pos (times_in features g) *ℤ z
  each_time [] g z = omega (arith, ints)
  each_time (f ∷ features) g z = by (same_feature f g) (each_time features g z)
    where
      by : (b : Bool) → sum_z (λ f. cond (same_feature f g) z (pos 0)) features ≡ pos (times_in features g) *ℤ z
          → cond b z (pos 0) +ℤ sum_z (λ f. cond (same_feature f g) z (pos 0)) features ≡ pos (cond b 1 0 + times_in features g) *ℤ z
      by true h = let m = one_more (times_in features g) z in omega (arith, ints, h, m)
      by false h = rw h (omega (arith, ints))

  pub one_time : (z : ℤ) (n : ℕ) → n ≡ 1 → pos n *ℤ z ≡ z
  one_time z n e = rw e (by z)
    where
      by : (z : ℤ) → pos 1 *ℤ z ≡ z
      by (pos k) = omega (arith, ints)
      by (negsuc k) = omega (arith, ints)

  sums_same : (f g : Feature → ℤ) (xs : List Feature) → ((x : Feature) → f x ≡ g x) → sum_z f xs ≡ sum_z g xs
  sums_same f g [] same = refl
  sums_same f g (x ∷ xs) same = let h = same x in let r = sums_same f g xs same in omega (arith, ints, h, r)

  -- what the tight limits of a feature bring before any replacement
  abbrev pub kept_at : List Limit → List Limit → Feature → ℤ
  kept_at before rest f = pos (got (upper f) before rest * low_end limits f) -ℤ pos (got (lower f) before rest * low_end limits f)

  kept_none : (before : List Limit) (f : Feature) → kept_at before [] f ≡ pos 0
  kept_none before f = let a = got_none (lower f) before in let b = got_none (upper f) before in rw (a, b) (omega (arith, ints))

  kept_more : (before rest : List Limit) (l : Limit) (f : Feature)
      → kept_at before (l ∷ rest) f ≡ cond (same_feature f l.feature) (pos (share before l) *ℤ limit_start l) (pos 0) +ℤ kept_at (before ++ l ∷ []) rest f
  kept_more before rest l f =
      let a = got_step (lower f) l before rest (tight_lower f) in
      let b = got_step (upper f) l before rest (tight_upper f) in
      let here = at_start l.at_most (same_feature f l.feature) (low_end limits f == l.value) (share before l) l.value (low_end limits f) (unlike f l before) (eq_test (low_end limits f) l.value) in
      rw (a, b, here) (more (cond (same_limit (upper f) l) (share before l) 0) (got (upper f) (before ++ l ∷ []) rest) (cond (same_limit (lower f) l) (share before l) 0) (got (lower f) (before ++ l ∷ []) rest) (low_end limits f))
    where
      more : (a b c d p : ℕ) → pos ((a + b) * p) -ℤ pos ((c + d) * p) ≡ (pos (a * p) -ℤ pos (c * p)) +ℤ (pos (b * p) -ℤ pos (d * p))
      more a b c d p = omega (arith, ints)

  pub limits_base : (features : List Feature) (before rest : List Limit) → All (λ l. times_in features l.feature ≡ 1) rest
      → times_all (given_each limits give before rest) (map limit_start rest) ≡ sum_z (kept_at before rest) features
  limits_base features before [] once = sym (sums_same (kept_at before []) (λ f. pos 0) features (kept_none before) ∙ sum_z-zero features)
  limits_base features before (l ∷ rest) once =
      let z = pos (share before l) *ℤ limit_start l in
      let h = limits_base features (before ++ l ∷ []) rest (λ k d lt. once (suc k) d (omega (arith, lt))) in
      let one = once 0 l (omega arith) in
      let e = each_time features l.feature z ∙ one_time z (times_in features l.feature) one in
      let s = sums_same (kept_at before (l ∷ rest)) (λ f. cond (same_feature f l.feature) z (pos 0) +ℤ kept_at (before ++ l ∷ []) rest f) features (kept_more before rest l) in
      let a = sum_z-add (λ f. cond (same_feature f l.feature) z (pos 0)) (kept_at (before ++ l ∷ []) rest) features in
      omega (arith, ints, h, e, s, a)

-- ---- where no tight limit is there

-- a number is 0, or that of a lower limit on the feature
abbrev pub IsLowest : Feature → List Limit → ℕ → Type 0
IsLowest f ls w = (w ≡ 0) ⊎ (list_any (same_limit (record { feature = f; at_most = false; value = w })) ls ≡ true)

lowest_more : (f : Feature) (l : Limit) (ls : List Limit) (w : ℕ) → IsLowest f ls w → IsLowest f (l ∷ ls) w
lowest_more f l ls w (inl z) = inl z
lowest_more f l ls w (inr e) = inr (rw e (or_on (same_limit (record { feature = f; at_most = false; value = w }) l)))

same_all : (k a t : Bool) (v w : ℕ) → k ≡ a → t ≡ true → w ≡ v → (same_kind k a && (t && (w == v))) ≡ true
same_all k a t v w p q r = rw (p, q, same_kind_on a) (same_test w v r)

-- the least count is 0, or that of a lower limit
pub low_or_limit : (ls : List Limit) (f : Feature) → IsLowest f ls (low_end ls f)
low_or_limit [] f = inl refl
low_or_limit (l ∷ ls) f = by l.at_most (same_feature f l.feature) refl refl (low_or_limit ls f)
  where
    by : (a t : Bool) → l.at_most ≡ a → same_feature f l.feature ≡ t → IsLowest f ls (low_end ls f)
        → IsLowest f (l ∷ ls) (cond a (low_end ls f) (cond t (max l.value (low_end ls f)) (low_end ls f)))
    by true t p q rest = lowest_more f l ls (low_end ls f) rest
    by false false p q rest = lowest_more f l ls (low_end ls f) rest
    by false true p q rest = elim (cases_lt l.value (low_end ls f)) [
      | inl less ↦
          let m : max l.value (low_end ls f) ≡ low_end ls f = omega (arith, less) in
          subst (IsLowest f (l ∷ ls)) (sym m) (lowest_more f l ls (low_end ls f) rest)
      | inr ge ↦
          let m : max l.value (low_end ls f) ≡ l.value = omega (arith, ge) in
          subst (IsLowest f (l ∷ ls)) (sym m)
          (inr (ap (λ b. b || list_any (same_limit (record { feature = f; at_most = false; value = l.value })) ls) (same_all false l.at_most (same_feature f l.feature) l.value l.value (sym p) q refl)))
    ]

-- a number is the end of a variable, or that of an upper limit on its feature
abbrev pub IsHighest : Variable → List Limit → ℕ → Type 0
IsHighest v ls w = (w ≡ v.end) ⊎ (list_any (same_limit (record { feature = v.feature; at_most = true; value = w })) ls ≡ true)

highest_more : (v : Variable) (l : Limit) (ls : List Limit) (w : ℕ) → IsHighest v ls w → IsHighest v (l ∷ ls) w
highest_more v l ls w (inl z) = inl z
highest_more v l ls w (inr e) = inr (rw e (or_on (same_limit (record { feature = v.feature; at_most = true; value = w }) l)))

-- the greatest count is the end, or that of an upper limit
pub high_or_limit : (ls : List Limit) (v : Variable) → IsHighest v ls (high_end ls v)
high_or_limit [] v = inl refl
high_or_limit (l ∷ ls) v = by l.at_most (same_feature v.feature l.feature) refl refl (high_or_limit ls v)
  where
    by : (a t : Bool) → l.at_most ≡ a → same_feature v.feature l.feature ≡ t → IsHighest v ls (high_end ls v)
        → IsHighest v (l ∷ ls) (cond a (cond t (min l.value (high_end ls v)) (high_end ls v)) (high_end ls v))
    by false t p q rest = highest_more v l ls (high_end ls v) rest
    by true false p q rest = highest_more v l ls (high_end ls v) rest
    by true true p q rest = elim (cases_lt l.value (high_end ls v)) [
      | inl less ↦
          let m : min l.value (high_end ls v) ≡ l.value = omega (arith, less) in
          subst (IsHighest v (l ∷ ls)) (sym m)
          (inr (ap (λ b. b || list_any (same_limit (record { feature = v.feature; at_most = true; value = l.value })) ls) (same_all true l.at_most (same_feature v.feature l.feature) l.value l.value (sym p) q refl)))
      | inr ge ↦
          let m : min l.value (high_end ls v) ≡ high_end ls v = omega (arith, ge) in
          subst (IsHighest v (l ∷ ls)) (sym m) (highest_more v l ls (high_end ls v) rest)
    ]
