-- What an old ballot costs, read from the bits of its key.
use Rattle.std.proofs.Common.{ℕ, suc, ◌≡◌, ◌≢◌, ◌<◌, ◌≤◌, ◌+◌, ◌-◌, List, ◌∷◌, length, get_or, drop, map, true, false, cond, ap, ◌∙◌, inl, inr, arith}
use Rattle.std.specs.Prelude.{ℤ, pos, ◌+ℤ◌, ◌*ℤ◌, ◌==◌, not, filter}
use Rattle.std.specs.List.{range_with_len}
use Rattle.std.proofs.lemmas.Int.{ints}
use Rattle.std.proofs.lemmas.Bool.{cases_lt}
use Rattle.std.proofs.lemmas.Bool.Decides.{nat_tests}
use Rattle.irv_count.specs.Orders.{stands}
use Rattle.sig_graph.specs.Paths.{path_sum, weight_at}
use Rattle.dual_bound.specs.Weighing.{over_weight, times_all}
use Rattle.dual_bound.proofs.Pairwise.{zip_rest}

-- ---- suffixes

-- the places of a key from x on
abbrev pub places_from : ℕ → ℕ → ℕ → List ℕ
places_from m key x = filter (λ p. stands key (p - 1)) (range_with_len x (m + 1 - x))

range_next : (m x : ℕ) → x ≤ m → range_with_len x (m + 1 - x) ≡ x ∷ range_with_len (x + 1) (m + 1 - (x + 1))
range_next m x le = let e : m + 1 - x ≡ suc (m + 1 - (x + 1)) = omega (arith, le) in ap (range_with_len x) e

pub path_takes : (m key u x : ℕ) (arcs : List ℤ) (sum step whole : ℤ) → x ≤ m → stands key (x - 1) ≡ true → step ≡ weight_at m arcs u x
    → sum +ℤ path_sum m arcs u (places_from m key x) ≡ whole → (sum +ℤ step) +ℤ path_sum m arcs x (places_from m key (x + 1)) ≡ whole
path_takes m key u x arcs sum step whole le on is so_far =
    let f : places_from m key x ≡ x ∷ places_from m key (x + 1) =
    ap (filter (λ p. stands key (p - 1))) (range_next m x le) ∙ ap (λ b. cond b (x ∷ places_from m key (x + 1)) (places_from m key (x + 1))) on in
    let s = ap (path_sum m arcs u) f in
    omega (arith, ints, s, is, so_far)

pub path_passes : (m key u x : ℕ) (arcs : List ℤ) (sum whole : ℤ) → x ≤ m → stands key (x - 1) ≡ false
    → sum +ℤ path_sum m arcs u (places_from m key x) ≡ whole → sum +ℤ path_sum m arcs u (places_from m key (x + 1)) ≡ whole
path_passes m key u x arcs sum whole le off so_far =
    let f : places_from m key x ≡ places_from m key (x + 1) =
    ap (filter (λ p. stands key (p - 1))) (range_next m x le) ∙ ap (λ b. cond b (x ∷ places_from m key (x + 1)) (places_from m key (x + 1))) off in
    let s = ap (path_sum m arcs u) f in
    omega (arith, ints, s, so_far)

-- ---- covers

-- the others than x from j on
abbrev pub others_from : ℕ → ℕ → ℕ → List ℕ
others_from c x j = filter (λ k. not (k == x)) (range_with_len j (c - j))

-- what a key counts in the rows that compare x with them
abbrev pub rest_cost : ℕ → ℕ → List ℕ → List ℕ → ℤ
rest_cost x key rows js = times_all rows (map (over_weight x key) js)

others_next : (c x j : ℕ) → j < c → others_from c x j ≡ cond (not (j == x)) (j ∷ others_from c x (j + 1)) (others_from c x (j + 1))
others_next c x j less = let e : c - j ≡ suc (c - (j + 1)) = omega (arith, less) in ap (λ n. filter (λ k. not (k == x)) (range_with_len j n)) e

pub cover_takes : (c x key j row : ℕ) (rows : List ℕ) (sum step whole : ℤ) → j < c → j ≢ x → row < length rows → step ≡ pos (get_or rows row 0) *ℤ over_weight x key j
    → sum +ℤ rest_cost x key (drop row rows) (others_from c x j) ≡ whole → (sum +ℤ step) +ℤ rest_cost x key (drop (row + 1) rows) (others_from c x (j + 1)) ≡ whole
cover_takes c x key j row rows sum step whole less differ within is so_far =
    let t : not (j == x) ≡ true = grind (arith, nat_tests) in
    let f = others_next c x j less ∙ ap (λ b. cond b (j ∷ others_from c x (j + 1)) (others_from c x (j + 1))) t in
    let s = ap (rest_cost x key (drop row rows)) f in
    let r = zip_rest (λ v. pos v.0 *ℤ v.1) rows (map (over_weight x key) (others_from c x (j + 1))) row (over_weight x key j) within in
    omega (arith, ints, s, r, is, so_far)

pub cover_passes : (c x key j row : ℕ) (rows : List ℕ) (sum whole : ℤ) → j < c → j ≡ x
    → sum +ℤ rest_cost x key (drop row rows) (others_from c x j) ≡ whole → sum +ℤ rest_cost x key (drop row rows) (others_from c x (j + 1)) ≡ whole
cover_passes c x key j row rows sum whole less same so_far =
    let t : not (j == x) ≡ false = grind (arith, nat_tests) in
    let f = others_next c x j less ∙ ap (λ b. cond b (j ∷ others_from c x (j + 1)) (others_from c x (j + 1))) t in
    let s = ap (rest_cost x key (drop row rows)) f in
    omega (arith, ints, s, so_far)

-- the row that compares x with j is one of them
pub row_within : (n x j row : ℕ) → j < n + 1 → x ≤ n → j ≢ x → (j ≤ x → row ≡ j) → (x < j → row + 1 ≡ j) → row < n
row_within n x j row less within differ before behind = elim (cases_lt x j) [
  | inl lt ↦ let e = behind lt in omega (arith, e, less)
  | inr le ↦ let e = before le in omega (arith, e, le, within, differ)
]
