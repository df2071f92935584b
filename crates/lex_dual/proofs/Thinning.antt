-- The candidates, thinned out variable by variable.
use Rattle.std.proofs.Common.{ℕ, zero, suc, ◌≡◌, ◌≢◌, ◌<◌, ◌≤◌, ◌+◌, ◌-◌, arith, refl, ap, sym, ◌∙◌, subst, List, [], ◌∷◌, ◌++◌, length, get_or, set, take, drop, append_assoc, drop-cons, add-one, Some, None, ◌⊎◌, ⊎_elim, inl, inr, Bool, true, false}
use Rattle.std.specs.Prelude.{ℤ, pos, negsuc, ◌*ℤ◌, ◌-ℤ◌, ◌<ℤ◌, ◌≤ℤ◌, int_lt, IfSome, Option, filter, slice_get, if◌then◌else◌}
use Rattle.std.specs.List.{All, range_with_len}
use Rattle.std.proofs.lemmas.Int.{ints}
use Rattle.std.proofs.lemmas.List.{take_more_set, drop-set-lt}
use Rattle.std.proofs.lemmas.List.Elements.{All-nil, All-cons, All-tail, All-head, All-same, All-rest, All-push}
use lib.IntN.{neg_ℤ}
use Rattle.exact_num.proofs.Ring.{leaf, minus, times, same}
use Rattle.pivot_form.proofs.Sums.{zero_factor, positive_factor, positive_product}
use Rattle.row_program.specs.Forms.{Table, basic_of, entry}
use Rattle.row_program.specs.Method.{candidates, column, column_in, difference, entering, first_least, first_least_of, lex_negative, row_of_basic, value_count}
use Rattle.lex_dual.specs.Choices.{IsCandidate, IsOutside, coefficient_in, comes_before_from, entering_among, equation_at, equation_of}
use Rattle.std.proofs.lemmas.Bool.{cases_eq}
use Rattle.pivot_form.specs.Invariant.{IsForm}
use Rattle.lex_dual.proofs.Choices.{lex_past, lex_here, is_below, not_below}

-- ---- the first of the least
-- the candidate, or the best one so far where the candidate doesn't come before it
abbrev lesser_of : (ℕ → ℕ → Bool) → ℕ → ℕ → ℕ
lesser_of before best j = if before j best then j else best

-- of the best one so far and of those that are left
abbrev pub first_least_after : (ℕ → ℕ → Bool) → Option ℕ → List ℕ → Option ℕ
first_least_after before None js = first_least_of before js
first_least_after before (Some best) js = Some (first_least before best js)

first_least-push : (before : ℕ → ℕ → Bool) (best j : ℕ) (js : List ℕ) → first_least before best (js ++ j ∷ []) ≡ lesser_of before (first_least before best js) j
first_least-push before best j [] = refl
first_least-push before best j (k ∷ js) = first_least-push before (lesser_of before best k) j js

first_least_has : (P : ℕ → Type 0) (before : ℕ → ℕ → Bool) (best : ℕ) (js : List ℕ) → P best → All P js → P (first_least before best js)
first_least_has P before best [] h a = h
first_least_has P before best (j ∷ js) h a = first_least_has P before (lesser_of before best j) js (one (before j best)) (All-tail P j js a)
  where
    one : (b : Bool) → P (if b then j else best)
    one true = All-head P j js a
    one false = h

lesser_true : (before : ℕ → ℕ → Bool) (best j : ℕ) → before j best ≡ true → lesser_of before best j ≡ j
lesser_true before best j e = ap (λ (b : Bool). if b then j else best) e

lesser_false : (before : ℕ → ℕ → Bool) (best j : ℕ) → before j best ≡ false → lesser_of before best j ≡ best
lesser_false before best j e = ap (λ (b : Bool). if b then j else best) e

-- ---- a positive factor leaves the sign
negative_product : (a b : ℤ) → pos 0 <ℤ a → b <ℤ pos 0 → (a *ℤ b) <ℤ pos 0
negative_product (pos zero) b h k = absurd (omega (arith, ints, h))
negative_product (pos (suc a)) (pos b) h k = absurd (omega (arith, ints, k))
negative_product (pos (suc a)) (negsuc b) h k = omega (arith, ints)
negative_product (negsuc a) b h k = absurd (omega (arith, ints, h))

negative_factor : (a b : ℤ) → pos 0 <ℤ a → (a *ℤ b) <ℤ pos 0 → b <ℤ pos 0
negative_factor (pos zero) b h k = absurd (omega (arith, ints, h))
negative_factor (pos (suc a)) (pos b) h k = absurd (omega (arith, ints, k))
negative_factor (pos (suc a)) (negsuc b) h k = omega (arith, ints)
negative_factor (negsuc a) b h k = absurd (omega (arith, ints, h))

-- ---- one variable
-- the coefficient of v in the candidate over its own is this quotient
abbrev pub IsTied : Table → ℕ → ℕ → ℤ → ℤ → ℕ → Type 0
IsTied t row v num den j = IsCandidate t row j × (column t j v *ℤ den ≡ num *ℤ neg_ℤ (entry t row j))

-- those that are kept of the candidates that were passed, all of one quotient, before the rest
pub record IsKept (t : Table) (row v : ℕ) (old : List ℕ) (num den : ℤ) (kept rest : List ℕ) : Type 0 where
  pub value : first_least_after (comes_before_from t row v) (entering_among t row (v + 1) kept) rest ≡ entering_among t row v old
  pub some : 0 < length kept
  pub ties : All (IsTied t row v num den) kept
  pub positive : pos 0 <ℤ den

module _ (t : Table) (row v : ℕ) where
  -- how far the coefficient of v in c is above that in b
  abbrev apart : ℕ → ℕ → ℤ
  apart c b = difference (column t c) (neg_ℤ (entry t row c)) (column t b) (neg_ℤ (entry t row b)) v

  before_here : (c b : ℕ) → v < value_count t → apart c b ≢ pos 0 → comes_before_from t row v c b ≡ int_lt (apart c b) (pos 0)
  before_here c b h apart_from = lex_here (value_count t - v) v (difference (column t c) (neg_ℤ (entry t row c)) (column t b) (neg_ℤ (entry t row b))) (apart c b) (omega (arith, h)) refl apart_from

  before_past : (c b : ℕ) → v < value_count t → apart c b ≡ pos 0 → comes_before_from t row v c b ≡ comes_before_from t row (v + 1) c b
  before_past c b h z = lex_past (value_count t - v) (value_count t - (v + 1)) v (difference (column t c) (neg_ℤ (entry t row c)) (column t b) (neg_ℤ (entry t row b))) (omega (arith, h)) z

  -- the sign of the difference from any of those that are kept is that from their quotient
  tied_sign : (num den x y : ℤ) (c b : ℕ) → x ≡ column t c v → y ≡ neg_ℤ (entry t row c) → IsTied t row v num den b → den *ℤ apart c b ≡ neg_ℤ (entry t row b) *ℤ (x *ℤ den -ℤ num *ℤ y)
  tied_sign num den x y c b ex ey tie =
      let p = column t b v in let q = neg_ℤ (entry t row b) in
      let here : den *ℤ apart c b ≡ den *ℤ (x *ℤ q -ℤ p *ℤ y) = rw (ex, ey) refl in
      let first : den *ℤ (x *ℤ q -ℤ p *ℤ y) ≡ den *ℤ (x *ℤ q) -ℤ (p *ℤ den) *ℤ y = same (times (leaf den) (minus (times (leaf x) (leaf q)) (times (leaf p) (leaf y)))) (minus (times (leaf den) (times (leaf x) (leaf q))) (times (times (leaf p) (leaf den)) (leaf y))) (omega arith) in
      let put : den *ℤ (x *ℤ q) -ℤ (p *ℤ den) *ℤ y ≡ den *ℤ (x *ℤ q) -ℤ (num *ℤ q) *ℤ y = ap (λ (z : ℤ). den *ℤ (x *ℤ q) -ℤ z *ℤ y) tie.1 in
      here ∙ first ∙ put ∙ same (minus (times (leaf den) (times (leaf x) (leaf q))) (times (times (leaf num) (leaf q)) (leaf y))) (times (leaf q) (minus (times (leaf x) (leaf den)) (times (leaf num) (leaf y)))) (omega arith)

  own_positive : (j : ℕ) → IsCandidate t row j → pos 0 <ℤ neg_ℤ (entry t row j)
  own_positive j h = omega (arith, ints, h.1)

  -- the first least of those that are kept
  abbrev best : ℕ → List ℕ → ℕ
  best k ks = first_least (comes_before_from t row (v + 1)) k ks

  best_tied : (num den : ℤ) (k : ℕ) (ks : List ℕ) → All (IsTied t row v num den) (k ∷ ks) → IsTied t row v num den (best k ks)
  best_tied num den k ks ties = first_least_has (IsTied t row v num den) (comes_before_from t row (v + 1)) k ks (All-head (IsTied t row v num den) k ks ties) (All-tail (IsTied t row v num den) k ks ties)

  one_kept : (j : ℕ) (x y : ℤ) → x ≡ column t j v → y ≡ neg_ℤ (entry t row j) → IsCandidate t row j → All (IsTied t row v x y) (j ∷ [])
  one_kept j x y ex ey h = All-cons (IsTied t row v x y) j [] (h, rw (ex, ey) refl) (All-nil (IsTied t row v x y))

  kept_begins : (j : ℕ) (rest : List ℕ) (x y : ℤ) → x ≡ column t j v → y ≡ neg_ℤ (entry t row j) → IsCandidate t row j → IsKept t row v (j ∷ rest) x y (j ∷ []) rest
  kept_begins j rest x y ex ey h = record { value = refl; some = omega arith; ties = one_kept j x y ex ey h; positive = rw ey (own_positive j h) }

  module _ (old : List ℕ) (num den : ℤ) (rest : List ℕ) (c : ℕ) (x y : ℤ) (within : v < value_count t) (ex : x ≡ column t c v) (ey : y ≡ neg_ℤ (entry t row c)) where
    kept_below : (kept : List ℕ) → IsKept t row v old num den kept (c ∷ rest) → IsCandidate t row c → (x *ℤ den -ℤ num *ℤ y) <ℤ pos 0 → IsKept t row v old x y (c ∷ []) rest
    kept_below [] is at low = absurd (let some = is.some in omega (arith, some))
    kept_below (k ∷ ks) is at low =
        let b = best k ks in
        let tie = best_tied num den k ks is.ties in
        let under : apart c b <ℤ pos 0 = negative_factor den (apart c b) is.positive (let product = negative_product (neg_ℤ (entry t row b)) (x *ℤ den -ℤ num *ℤ y) (own_positive b tie.0) low in omega (arith, ints, product, tied_sign num den x y c b ex ey tie)) in
        let first : comes_before_from t row v c b ≡ true = before_here c b within (λ z. omega (arith, ints, under, z)) ∙ is_below (apart c b) under in
        record {
          value = ap (λ (u : ℕ). Some (first_least (comes_before_from t row v) u rest)) (sym (lesser_true (comes_before_from t row v) b c first)) ∙ is.value;
          some = omega arith;
          ties = one_kept c x y ex ey at;
          positive = rw ey (own_positive c at);
        }

    kept_same : (kept : List ℕ) → IsKept t row v old num den kept (c ∷ rest) → IsCandidate t row c → x *ℤ den -ℤ num *ℤ y ≡ pos 0 → IsKept t row v old num den (kept ++ c ∷ []) rest
    kept_same [] is at none = absurd (let some = is.some in omega (arith, some))
    kept_same (k ∷ ks) is at none =
        let b = best k ks in
        let tie = best_tied num den k ks is.ties in
        let level : apart c b ≡ pos 0 = zero_factor den (apart c b) is.positive (tied_sign num den x y c b ex ey tie ∙ ap (λ (z : ℤ). neg_ℤ (entry t row b) *ℤ z) none ∙ omega (arith, ints)) in
        let later : lesser_of (comes_before_from t row (v + 1)) b c ≡ lesser_of (comes_before_from t row v) b c = ap (λ (u : Bool). if u then c else b) (sym (before_past c b within level)) in
        let equal : x *ℤ den ≡ num *ℤ y = omega (arith, ints, none) in
        record {
          value = ap (λ (u : ℕ). Some (first_least (comes_before_from t row v) u rest)) (first_least-push (comes_before_from t row (v + 1)) k c ks ∙ later) ∙ is.value;
          some = omega arith;
          ties = All-push (IsTied t row v num den) (k ∷ ks) c is.ties (at, rw (← ex, ← ey) equal);
          positive = is.positive;
        }

    kept_above : (kept : List ℕ) → IsKept t row v old num den kept (c ∷ rest) → pos 0 <ℤ (x *ℤ den -ℤ num *ℤ y) → IsKept t row v old num den kept rest
    kept_above [] is high = absurd (let some = is.some in omega (arith, some))
    kept_above (k ∷ ks) is high =
        let b = best k ks in
        let tie = best_tied num den k ks is.ties in
        let over : pos 0 <ℤ apart c b = positive_factor den (apart c b) is.positive (let product = positive_product (neg_ℤ (entry t row b)) (x *ℤ den -ℤ num *ℤ y) (own_positive b tie.0) high in omega (arith, ints, product, tied_sign num den x y c b ex ey tie)) in
        let later : comes_before_from t row v c b ≡ false = before_here c b within (λ z. omega (arith, ints, over, z)) ∙ not_below (apart c b) (omega (arith, ints, over)) in
        record {
          value = ap (λ (u : ℕ). Some (first_least (comes_before_from t row v) u rest)) (sym (lesser_false (comes_before_from t row v) b c later)) ∙ is.value;
          some = is.some;
          ties = is.ties;
          positive = is.positive;
        }

-- ---- one variable, in a slice that has those that are kept in front and the rest behind
module _ (t : Table) (row v : ℕ) where
  pub first_at : (js : List ℕ) (x y : ℤ) → 0 < length js → All (IsCandidate t row) js → x ≡ column t (get_or js 0 0) v → y ≡ neg_ℤ (entry t row (get_or js 0 0)) → IsKept t row v js x y (take 1 js) (drop 1 js)
  first_at [] x y some all ex ey = absurd (omega (arith, some))
  first_at (j ∷ js) x y some all ex ey = kept_begins t row v j js x y ex ey (All-head (IsCandidate t row) j js all)

  module _ (old : List ℕ) (num den : ℤ) (left : List ℕ) (kept i c : ℕ) (x y : ℤ) (within : v < value_count t) (inside : i < length left) (behind : kept ≤ i) (at : c ≡ get_or left i 0) (ex : x ≡ column t c v) (ey : y ≡ neg_ℤ (entry t row c)) (is : IsKept t row v old num den (take kept left) (drop i left)) where
    next : IsKept t row v old num den (take kept left) (c ∷ drop (i + 1) left)
    next = rw (at, add-one) (subst (IsKept t row v old num den (take kept left)) (drop-cons left i 0 inside) is)

    pub below_at : IsCandidate t row c → (x *ℤ den -ℤ num *ℤ y) <ℤ pos 0 → IsKept t row v old x y (take 1 (set left 0 c)) (drop (i + 1) (set left 0 c))
    below_at candidate low =
        let front : take 1 (set left 0 c) ≡ c ∷ [] = take_more_set left 0 c (omega (arith, inside)) in
        let back : drop (i + 1) (set left 0 c) ≡ drop (i + 1) left = drop-set-lt (i + 1) left 0 c (omega arith) in
        rw (front, back) (kept_below t row v old num den (drop (i + 1) left) c x y within ex ey (take kept left) next candidate low)

    pub same_at : IsCandidate t row c → x *ℤ den -ℤ num *ℤ y ≡ pos 0 → IsKept t row v old num den (take (kept + 1) (set left kept c)) (drop (i + 1) (set left kept c))
    same_at candidate none =
        let front : take (kept + 1) (set left kept c) ≡ take kept left ++ c ∷ [] = take_more_set left kept c (omega (arith, inside, behind)) in
        let back : drop (i + 1) (set left kept c) ≡ drop (i + 1) left = drop-set-lt (i + 1) left kept c (omega (arith, behind)) in
        rw (front, back) (kept_same t row v old num den (drop (i + 1) left) c x y within ex ey (take kept left) next candidate none)

    pub above_at : pos 0 <ℤ (x *ℤ den -ℤ num *ℤ y) → IsKept t row v old num den (take kept left) (drop (i + 1) left)
    above_at high = kept_above t row v old num den (drop (i + 1) left) c x y within ex ey (take kept left) next high

-- ---- a variable whose coefficient in each candidate is 0
lesser_has : (P : ℕ → Type 0) (b : Bool) (best j : ℕ) → P best → P j → P (if b then j else best)
lesser_has P true best j h k = k
lesser_has P false best j h k = h

same_least : (f g : ℕ → ℕ → Bool) (P : ℕ → Type 0) (best : ℕ) (js : List ℕ) → P best → All P js → ((c b : ℕ) → P c → P b → f c b ≡ g c b) → first_least f best js ≡ first_least g best js
same_least f g P best [] h all same = refl
same_least f g P best (j ∷ js) h all same =
    let here = All-head P j js all in
    ap (λ (b : Bool). first_least f (if b then j else best) js) (same j best here h)
    ∙ same_least f g P (lesser_of g best j) js (lesser_has P (g j best) best j h here) (All-tail P j js all) same

no_difference : (x y a b : ℤ) → x ≡ pos 0 → y ≡ pos 0 → x *ℤ a -ℤ y *ℤ b ≡ pos 0
no_difference x y a b hx hy = rw (hx, hy) (omega (arith, ints))

pub untold : (t : Table) (row v : ℕ) (js : List ℕ) → v < value_count t → All (λ j. column t j v ≡ pos 0) js → entering_among t row (v + 1) js ≡ entering_among t row v js
untold t row v [] within none = refl
untold t row v (j ∷ js) within none =
    let P : ℕ → Type 0 = λ j. column t j v ≡ pos 0 in
    ap (λ (u : ℕ). Some u) (sym (same_least (comes_before_from t row v) (comes_before_from t row (v + 1)) P j js (All-head P j js none) (All-tail P j js none)
    (λ c b hc hb. before_past t row v c b within (no_difference (column t c v) (column t b v) (neg_ℤ (entry t row b)) (neg_ℤ (entry t row c)) hc hb))))

-- candidates are nonbasic
pub candidate_outside : (t : Table) (row j : ℕ) → IsForm t → row < length t.rows → IsCandidate t row j → IsOutside t j
candidate_outside t row j form inside h = (
  h.0,
  λ i l e. ⊎_elim
      (λ (same_row : i ≡ row). let above = form.solved.positive i l in absurd (omega (arith, ints, h.1, above, ap (entry t row) e, ap (λ (k : ℕ). entry t k (basic_of t i)) same_row)))
      (λ apart. let none = form.solved.clear i row l inside (λ f. apart (sym f)) in absurd (omega (arith, ints, h.1, none, ap (entry t row) e)))
      (cases_eq i row),
)

pub candidates_outside : (t : Table) (row : ℕ) (js : List ℕ) → IsForm t → row < length t.rows → All (IsCandidate t row) js → All (IsOutside t) js
candidates_outside t row js form inside all = λ k d l. candidate_outside t row (get_or js k d) form inside (all k d l)

-- a basic variable has the coefficients of its row, with the sign turned
pub only_in : (t : Table) (v row : ℕ) (o : Option ℕ) → row_of_basic t v ≡ Some row → row < length t.rows
    → IfSome o (λ other. (j : ℕ) → j < t.variables → j ≢ basic_of t row → j ≢ other → entry t row j ≡ pos 0)
    → IfSome o (λ only. (j : ℕ) → IsOutside t j → j ≢ only → column t j v ≡ pos 0)
only_in t v row None is inside told = told
only_in t v row (Some other) is inside told = λ j out off.
    let none : entry t row j ≡ pos 0 = told j out.0 (λ e. out.1 row inside (sym e)) off in
    ap (column_in t j v) is ∙ omega (arith, ints, none)

-- the rest are candidates
pub rest_has : (t : Table) (row : ℕ) (left : List ℕ) (i : ℕ) → i < length left → All (IsCandidate t row) (drop i left) → IsCandidate t row (get_or left i 0)
rest_has t row left i h all = All-head (IsCandidate t row) (get_or left i 0) (drop (suc i) left) (All-same (IsCandidate t row) (get_or left i 0 ∷ drop (suc i) left) (drop i left) (sym (drop-cons left i 0 h)) all)

pub rest_more : (t : Table) (row : ℕ) (left : List ℕ) (i : ℕ) → i < length left → All (IsCandidate t row) (drop i left) → All (IsCandidate t row) (drop (i + 1) left)
rest_more t row left i h all = rw add-one (All-rest (IsCandidate t row) (get_or left i 0) (drop (suc i) left) (drop i left) (drop-cons left i 0 h) all)

pub rest_set : (t : Table) (row : ℕ) (left : List ℕ) (i k c : ℕ) → i < length left → k ≤ i → All (IsCandidate t row) (drop i left) → All (IsCandidate t row) (drop (i + 1) (set left k c))
rest_set t row left i k c h l all = rw (drop-set-lt (i + 1) left k c (omega (arith, l))) (rest_more t row left i h all)

-- ---- the candidates
-- those from j on
abbrev pub candidates_from : Table → ℕ → ℕ → List ℕ
candidates_from t row j = filter (λ i. int_lt (entry t row i) (pos 0)) (range_with_len j (t.variables - j))

filter_takes : (p : ℕ → Bool) (j n m : ℕ) → p j ≡ true → n ≡ m + 1 → filter p (range_with_len j n) ≡ j ∷ filter p (range_with_len (j + 1) m)
filter_takes p j zero m e h = absurd (omega (arith, h))
filter_takes p j (suc n) m e h = rw e (ap (λ (k : ℕ). j ∷ filter p (range_with_len (j + 1) k)) (omega (arith, h)))

filter_leaves : (p : ℕ → Bool) (j n m : ℕ) → p j ≡ false → n ≡ m + 1 → filter p (range_with_len j n) ≡ filter p (range_with_len (j + 1) m)
filter_leaves p j zero m e h = absurd (omega (arith, h))
filter_leaves p j (suc n) m e h = rw e (ap (λ (k : ℕ). filter p (range_with_len (j + 1) k)) (omega (arith, h)))

pub candidates_take : (t : Table) (row j : ℕ) (js : List ℕ) → j < t.variables → entry t row j <ℤ pos 0 → js ++ candidates_from t row j ≡ (js ++ j ∷ []) ++ candidates_from t row (j + 1)
candidates_take t row j js h low = ap (λ (is : List ℕ). js ++ is) (filter_takes (λ i. int_lt (entry t row i) (pos 0)) j (t.variables - j) (t.variables - (j + 1)) (is_below (entry t row j) low) (omega (arith, h))) ∙ sym (append_assoc js (j ∷ []) (candidates_from t row (j + 1)))

pub candidates_leave : (t : Table) (row j : ℕ) → j < t.variables → pos 0 ≤ℤ entry t row j → candidates_from t row j ≡ candidates_from t row (j + 1)
candidates_leave t row j h high = filter_leaves (λ i. int_lt (entry t row i) (pos 0)) j (t.variables - j) (t.variables - (j + 1)) (not_below (entry t row j) high) (omega (arith, h))

-- ---- all variables
pub among_begins : (t : Table) (row : ℕ) → entering_among t row 0 (candidates t row) ≡ entering t row
among_begins t row =
    let all : value_count t - 0 ≡ value_count t = omega arith in
    ap (λ (n : ℕ). first_least_of (λ j k. lex_negative n 0 (difference (column t j) (neg_ℤ (entry t row j)) (column t k) (neg_ℤ (entry t row k)))) (candidates t row)) all

-- nothing is left to tell the candidates apart, or there is but one
pub among_ends : (t : Table) (row v : ℕ) (js : List ℕ) → (value_count t ≤ v) ⊎ (length js < 2) → entering_among t row v js ≡ slice_get js 0
among_ends t row v [] h = refl
among_ends t row v (j ∷ []) h = refl
among_ends t row v (j ∷ k ∷ js) (inr few) = absurd (omega (arith, few))
among_ends t row v (j ∷ k ∷ js) (inl h) = ap Some (stays j (k ∷ js))
  where
    never : (i b : ℕ) → comes_before_from t row v i b ≡ false
    never i b = let end : value_count t - v ≡ 0 = omega (arith, h) in ap (λ (n : ℕ). lex_negative n v (difference (column t i) (neg_ℤ (entry t row i)) (column t b) (neg_ℤ (entry t row b)))) end

    stays : (b : ℕ) (is : List ℕ) → first_least (comes_before_from t row v) b is ≡ b
    stays b [] = refl
    stays b (i ∷ is) = ap (λ (x : ℕ). first_least (comes_before_from t row v) x is) (lesser_false (comes_before_from t row v) b i (never i b)) ∙ stays b is

-- ---- by equations
-- a variable's coefficient, as its equation has it
pub coefficient_is : (t : Table) (v j : ℕ) → coefficient_in (equation_of t v) v j ≡ column t j v
coefficient_is t v j = by (row_of_basic t v)
  where
    by : (o : Option ℕ) → coefficient_in (equation_at t o) v j ≡ column_in t j v o
    by None = refl
    by (Some i) = refl

pub own_inside : (o : Option (List ℤ)) (n j : ℕ) → IfSome o (λ row. length row ≡ n + 1) → j < n → IfSome o (λ row. j + 1 < length row)
own_inside None n j wide l = tt
own_inside (Some row) n j wide l = omega (arith, wide, l)

-- no candidate is left
pub none_left : (t : Table) (row v : ℕ) (old : List ℕ) (num den : ℤ) (kept rest : List ℕ) → IsKept t row v old num den kept rest → rest ≡ [] → entering_among t row (v + 1) kept ≡ entering_among t row v old
none_left t row v old num den kept rest is none =
    sym (ap (first_least_after (comes_before_from t row v) (entering_among t row (v + 1) kept)) none ∙ after_none (entering_among t row (v + 1) kept)) ∙ is.value
  where
    after_none : (o : Option ℕ) → first_least_after (comes_before_from t row v) o [] ≡ o
    after_none None = refl
    after_none (Some best) = refl
