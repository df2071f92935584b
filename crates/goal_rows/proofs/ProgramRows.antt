-- The rows of a node's program, variable by variable.
use Rattle.std.proofs.Common.{ℕ, zero, suc, List, [], ◌∷◌, ◌++◌, Bool, ◌≡◌, ◌<◌, ◌+◌, ◌∙◌, take, length, map, get_or, replicate, FitsSigned, w64, sym, refl, ap, arith}
use Rattle.std.specs.Prelude.{All, ℤ, pos, unsigned_abs}
use Rattle.std.proofs.lemmas.Int.{fits_signed_from_abs}
use Rattle.std.proofs.lemmas.List.{append_assoc, get_or_default, length-append, length-map, map-append, take_more}
use Rattle.std.specs.List.{range_with_len, zip}
use Rattle.std.proofs.lemmas.Slice.Zip.{get_or-zip}
use Rattle.std.proofs.lemmas.List.FromFn.{map-range_with_len_more}
use Rattle.std.proofs.lemmas.List.Elements.{All-get_or}
use Rattle.row_program.specs.Bounds.{IsRow}
use Rattle.row_program.specs.declared.limits.TheConstants.{TERM_LIMIT}
use Rattle.row_program.specs.declared.Limit.{Limit}
use Rattle.row_program.specs.declared.program.Row.{Row}
use Rattle.goal_rows.specs.Programs.{arc_weight, is_some_weight, key_weight, row_by, term_at, value_before, weight_of, weights_by}
use Rattle.goal_rows.specs.declared.weighings.Weighing.{Weighing}
use Rattle.goal_rows.specs.declared.weighings.Weighing.TheVariants.{Limited}
use Rattle.goal_rows.specs.Suffixes.{those}
use Rattle.goal_rows.proofs.Lists.{those_are, those_once}

-- one more of what is made of items
pub made_more : {X Y : Type 0} (f : X → Y) (xs : List X) (k : ℕ) (x : X) (before ys : List Y) (y : Y) → k < length xs → y ≡ f (get_or xs k x)
    → ys ≡ before ++ map f (take k xs) → ys ++ y ∷ [] ≡ before ++ map f (take (k + 1) xs)
made_more f xs k x before ys y lt y_is is =
    rw (take_more xs k x lt, map-append f (take k xs) (get_or xs k x ∷ []), is, y_is) (append_assoc before (map f (take k xs)) (f (get_or xs k x) ∷ []))

-- one more of a list of items by number
pub item_more : {X : Type 0} (f : ℕ → X) (a n j : ℕ) (before xs : List X) → a + n ≡ j → xs ≡ before ++ map f (range_with_len a n)
    → xs ++ f j ∷ [] ≡ before ++ map f (range_with_len a (n + 1))
item_more f a n j before xs at is = rw (map-range_with_len_more f a n j at, is) (append_assoc before (map f (range_with_len a n)) (f j ∷ []))

-- the same value once more
pub once_more : {X : Type 0} (x : X) (n : ℕ) → replicate (n + 1) x ≡ replicate n x ++ x ∷ []
once_more x zero = refl
once_more x (suc n) = let e : suc n + 1 ≡ suc (n + 1) = omega arith in rw e (ap (λ xs. x ∷ xs) (once_more x n))

-- ---- small rows

at_of : {A B : Type 0} (f : A → B) (xs : List A) (k : ℕ) (d : B) (a : A) → k < length xs → get_or (map f xs) k d ≡ f (get_or xs k a)
at_of f [] k d a lt = absurd (omega (arith, lt))
at_of f (x ∷ xs) zero d a lt = refl
at_of f (x ∷ xs) (suc k) d a lt = at_of f xs k d a (omega (arith, lt))

-- the terms of small weights make a row
pub small_row : (constant : ℤ) (weights : List ℤ) (n : ℕ) → unsigned_abs constant < TERM_LIMIT → All (λ w. unsigned_abs w < TERM_LIMIT) weights → length weights ≡ n
    → IsRow n (row_by constant weights)
small_row constant weights n small each n_is =
    let test : ℕ → Bool = λ v. is_some_weight (weight_of weights v) in
    let vs = those (length weights) test in
    let below : (k : ℕ) → k < length vs → get_or vs k 0 < length weights = λ k lt. (those_are (length weights) (get_or vs k 0) test (k, lt, get_or_same vs k lt)).0 in
    let count : length (map (term_at weights) vs) ≡ length vs = length-map vs (term_at weights) in
    record {
      small_constant = small;
      small_terms = λ k d lt.
          let kl : k < length vs = omega (arith, lt, count) in
          rw (at_of (term_at weights) vs k d 0 kl) (All-get_or (λ w. unsigned_abs w < TERM_LIMIT) weights (get_or vs k 0) (pos 0) (below k kl) each);
      within = λ k d lt.
          let kl : k < length vs = omega (arith, lt, count) in
          rw (at_of (term_at weights) vs k d 0 kl) (omega (arith, below k kl, n_is));
      one_each = λ i j d ij lt.
          let jl : j < length vs = omega (arith, lt, count) in
          rw (at_of (term_at weights) vs i d 0 (omega arith), at_of (term_at weights) vs j d 0 jl) (those_once (length weights) test i j 0 ij jl);
    }
  where
    get_or_same : (xs : List ℕ) (k : ℕ) → k < length xs → get_or xs k (get_or xs k 0) ≡ get_or xs k 0
    get_or_same [] k lt = absurd (omega (arith, lt))
    get_or_same (x ∷ xs) zero lt = refl
    get_or_same (x ∷ xs) (suc k) lt = get_or_same xs k (omega (arith, lt))

pub few_fit : (x : ℤ) → unsigned_abs x < TERM_LIMIT → FitsSigned w64 x
few_fit x small = fits_signed_from_abs w64 x (omega (arith, small))

pub weights_count : (weighing : Weighing) (classes arcs : List (ℕ × ℕ)) → length (weights_by weighing classes arcs) ≡ length classes + length arcs
weights_count weighing classes arcs =
    let a = length-append (map (λ (c : ℕ × ℕ). key_weight weighing c.0) classes) (map (arc_weight weighing) arcs) in
    let b = length-map classes (λ (c : ℕ × ℕ). key_weight weighing c.0) in
    let d = length-map arcs (arc_weight weighing) in
    omega (arith, a, b, d)

pub limit_made : (limits : List Limit) (i : ℕ) (d : Limit) (classes arcs : List (ℕ × ℕ)) (n : ℤ) (row : Row) → n ≡ value_before (get_or limits i d)
    → row ≡ row_by n (weights_by (Limited (get_or limits i d)) classes arcs)
    → row ≡ row_by (value_before (get_or limits i d)) (weights_by (Limited (get_or limits i d)) classes arcs)
limit_made limits i d classes arcs n row n_is is = is ∙ ap (λ z. row_by z (weights_by (Limited (get_or limits i d)) classes arcs)) n_is

pub zip_at : (sums : List ℤ) (weighings : List Weighing) (r : ℕ) (w : Weighing) → r < length sums → r < length weighings → w ≡ get_or weighings r w
    → get_or (zip sums weighings) r (get_or sums r (pos 0), w) ≡ (get_or sums r (pos 0), w)
zip_at sums weighings r w sl wl is =
    let d : ℤ × Weighing = (get_or sums r (pos 0), w) in
    get_or-zip sums weighings r d sl wl
    ∙ ap (λ z. (z, get_or weighings r w)) (get_or_default sums r (get_or sums r (pos 0)) (pos 0) sl)
    ∙ ap (λ v. (get_or sums r (pos 0), v)) (sym is)
