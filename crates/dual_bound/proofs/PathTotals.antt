-- What the arcs of a path count together, beside all arcs of the graph.
use Rattle.std.proofs.Common.{◌≡◌, ℕ, zero, suc, ◌+◌, ◌-◌, ◌<◌, ◌≤◌, List, [], ◌∷◌, map, refl, ap, ◌∙◌, arith}
use Rattle.std.specs.Prelude.{ℤ, pos, ◌≤ℤ◌}
use Rattle.std.specs.List.{flat_map, range_with_len}
use Rattle.std.proofs.lemmas.Int.{ints}
use Rattle.std.proofs.lemmas.List.Concat.{flat_map-cons}
use Rattle.mov_base.specs.Sums.{add_up, sum_z}
use Rattle.mov_base.proofs.Sums.{add_up-append, add_up-map}
use Rattle.sig_graph.specs.Paths.{IsPathFrom, arcs_of, path_arcs}
use Rattle.sig_graph.proofs.Ranges.{range-same, term-le}

-- ---- all arcs

add_up-lists : {A B : Type 0} (f : B → ℕ) (make : A → List B) (xs : List A) → add_up f (flat_map make xs) ≡ add_up (λ x. add_up f (make x)) xs
add_up-lists f make [] = refl
add_up-lists f make (x ∷ xs) =
    ap (add_up f) (flat_map-cons make x xs) ∙ add_up-append f (make x) (flat_map make xs) ∙ ap (λ n. add_up f (make x) + n) (add_up-lists f make xs)

-- row by row
pub by_rows : (m : ℕ) (f : ℕ × ℕ → ℕ) → add_up f (arcs_of m) ≡ add_up (λ u. add_up (λ x. f (u, x)) (range_with_len (u + 1) (m - u))) (range_with_len 0 m)
by_rows m f =
    add_up-lists f (λ u. map (λ x. (u, x)) (range_with_len (u + 1) (m - u))) (range_with_len 0 m)
    ∙ range-same (λ u. add_up f (map (λ x. (u, x)) (range_with_len (u + 1) (m - u)))) (λ u. add_up (λ x. f (u, x)) (range_with_len (u + 1) (m - u))) 0 m
    (λ u from to. add_up-map f (λ x. (u, x)) (range_with_len (u + 1) (m - u)))

-- ---- a path among all arcs

-- what the arcs out of a place count
abbrev out_row : ℕ → (ℕ × ℕ → ℕ) → ℕ → ℕ
out_row m g u = add_up (λ x. g (u, x)) (range_with_len (u + 1) (m - u))

-- a later part of a range counts no more
later_part : (f : ℕ → ℕ) (a d n : ℕ) → add_up f (range_with_len (a + d) n) ≤ add_up f (range_with_len a (d + n))
later_part f a zero n =
    let e : a + zero ≡ a = omega arith in
    let g : zero + n ≡ n = omega arith in
    rw (e, g) (omega arith)
later_part f a (suc d) n =
    let e : a + suc d ≡ (a + 1) + d = omega arith in
    let g : suc d + n ≡ suc (d + n) = omega arith in
    let rest = later_part f (a + 1) d n in
    rw (e, g) (omega (arith, rest))

path_below : (m u : ℕ) (g : ℕ × ℕ → ℕ) (path : List ℕ) → IsPathFrom m u path → add_up g (path_arcs u path) ≤ add_up (out_row m g) (range_with_len u (m - u))
path_below m u g [] is = omega arith
path_below m u g (x ∷ path) is =
    let here = term-le (λ y. g (u, y)) x (u + 1) (m - u) (omega (arith, is.0)) (omega (arith, is.0, is.1)) in
    let rest = path_below m x g path is.2 in
    let e : x ≡ (u + 1) + (x - (u + 1)) = omega (arith, is.0) in
    let k : (x - (u + 1)) + (m - x) ≡ m - (u + 1) = omega (arith, is.0, is.1) in
    let s : m - u ≡ suc (m - (u + 1)) = omega (arith, is.0, is.1) in
    let part = later_part (out_row m g) (u + 1) (x - (u + 1)) (m - x) in
    let one = ap (λ y. add_up (out_row m g) (range_with_len y (m - x))) e in
    let two = ap (λ n. add_up (out_row m g) (range_with_len (u + 1) n)) k in
    let whole = ap (λ n. add_up (out_row m g) (range_with_len u n)) s in
    omega (arith, here, rest, part, one, two, whole)

-- a path counts no more than all arcs
pub path_within : (m : ℕ) (g : ℕ × ℕ → ℕ) (path : List ℕ) → IsPathFrom m 0 path → add_up g (path_arcs 0 path) ≤ add_up g (arcs_of m)
path_within m g path is =
    let all = by_rows m g in
    let below = path_below m 0 g path is in
    let e : m - 0 ≡ m = omega arith in
    let same = ap (λ n. add_up (out_row m g) (range_with_len 0 n)) e in
    omega (arith, all, below, same)

-- arcs that each bring no more than they count
pub path_at_most : (m u : ℕ) (f : ℕ × ℕ → ℤ) (g : ℕ × ℕ → ℕ) (path : List ℕ) → IsPathFrom m u path → ((a b : ℕ) → a < b → b ≤ m → f (a, b) ≤ℤ pos (g (a, b)))
    → sum_z f (path_arcs u path) ≤ℤ pos (add_up g (path_arcs u path))
path_at_most m u f g [] is each = omega (arith, ints)
path_at_most m u f g (x ∷ path) is each =
    let here = each u x is.0 is.1 in
    let rest = path_at_most m x f g path is.2 each in
    omega (arith, ints, here, rest)
