-- Paths make a flow: their number is its total, and what they bring together it brings.
use Rattle.std.proofs.Common.{◌≡◌, ◌≢◌, ℕ, ◌+◌, ◌-◌, ◌<◌, ◌≤◌, cond, List, [], ◌∷◌, length, get_or, map, All, sym, refl, ap, ◌∙◌, inl, inr, arith}
use Rattle.std.specs.Prelude.{◌==◌}
use Rattle.std.specs.List.{range_with_len}
use Rattle.std.proofs.Math.IntN.{ℤ, ◌+ℤ◌}
use Rattle.std.proofs.lemmas.Int.{ints}
use Rattle.std.proofs.lemmas.Bool.{cases_eq}
use Rattle.std.proofs.lemmas.Bool.Decides.{nat_tests}
use Rattle.std.proofs.lemmas.List.{ext_get_or, get_or-map, length-map}
use Rattle.std.proofs.lemmas.List.Elements.{All-head, All-tail}
use Rattle.mov_base.specs.Sums.{add_up, sum_z}
use Rattle.sig_graph.specs.Flows.{flow_at, flow_in, flow_out, flow_sum, IsFlow}
use Rattle.sig_graph.specs.Paths.{arc_at, arc_total, arcs_of, path_sum, weight_at, IsPath, IsPathFrom}
use Rattle.sig_graph.specs.Walks.{flow_of, one_less, path_uses, uses_of}
use Rattle.sig_graph.proofs.ArcNumbers.{arc_of, get_or-each, length-arcs_of}
use Rattle.sig_graph.proofs.Carried.{length-one_less}
use Rattle.sig_graph.proofs.FlowSums.{flow_sum-less, flow_sum-none}
use Rattle.sig_graph.proofs.Ranges.{range-add, range-less, range-none, range-same}
use Rattle.sig_graph.proofs.Uses.{one_use, one_use-other, one_use-same, taken, uses_from, uses_from-cons}

-- ---- what leaves a place and what comes to it

abbrev pub same : ℕ → ℕ → ℕ
same v u = cond (v == u) 1 0

same-yes : (v u : ℕ) → v ≡ u → same v u ≡ 1
same-yes v u e = grind (arith, nat_tests)

same-no : (v u : ℕ) → v ≢ u → same v u ≡ 0
same-no v u ne = grind (arith, nat_tests)

-- one term alone, which is 1
range-one : (g : ℕ → ℕ) (x a n : ℕ) → ((b : ℕ) → a ≤ b → b < a + n → b ≢ x → g b ≡ 0) → g x ≡ 1 → a ≤ x → x < a + n →
    add_up g (range_with_len a n) ≡ 1
range-one g x a n none one from to =
    let h = range-less (λ _. 0) g x a n (λ b le lt ne. sym (none b le lt ne)) (omega (arith, one)) from to in
    let z = range-none (λ _. 0) a n (λ b le lt. refl) in
    omega (arith, h, z)

one_out : (m v u x : ℕ) → u < x → x ≤ m → add_up (λ y. one_use v y u x) (range_with_len (v + 1) (m - v)) ≡ same v u
one_out m v u x lt le = elim (cases_eq v u) [
  | inl e ↦ range-one (λ y. one_use v y u x) x (v + 1) (m - v)
      (λ y from to ne. one_use-other v y u x (λ _ d. ne (sym d)))
      (one_use-same v x u x (sym e) refl) (omega arith) (omega arith) ∙ sym (same-yes v u e)
  | inr ne ↦ range-none (λ y. one_use v y u x) (v + 1) (m - v)
      (λ y from to. one_use-other v y u x (λ e _. ne (sym e))) ∙ sym (same-no v u ne)
]

one_in : (v u x : ℕ) → u < x → add_up (λ a. one_use a v u x) (range_with_len 0 v) ≡ same v x
one_in v u x lt = elim (cases_eq v x) [
  | inl e ↦ range-one (λ a. one_use a v u x) u 0 v (λ a from to ne. one_use-other a v u x (λ d _. ne (sym d)))
      (one_use-same u v u x refl (sym e)) (omega arith) (omega arith) ∙ sym (same-yes v x e)
  | inr ne ↦ range-none (λ a. one_use a v u x) 0 v (λ a from to. one_use-other a v u x (λ _ d. ne (sym d)))
      ∙ sym (same-no v x ne)
]

abbrev pub out_from : ℕ → ℕ → ℕ → List ℕ → ℕ
out_from m v u path = add_up (λ y. uses_from v y u path) (range_with_len (v + 1) (m - v))

abbrev pub in_from : ℕ → ℕ → List ℕ → ℕ
in_from v u path = add_up (λ a. uses_from a v u path) (range_with_len 0 v)

-- a path from u leaves a place at most as often as it comes to it, or once more where it begins
path_keeps : (m v u : ℕ) (path : List ℕ) → IsPathFrom m u path → out_from m v u path ≤ in_from v u path + same v u
path_keeps m v u [] is = omega (arith, range-none (λ y. uses_from v y u []) (v + 1) (m - v) (λ y from to. refl))
path_keeps m v u (x ∷ path) is =
    let later = path_keeps m v x path is.2 in
    let out = range-same (λ y. uses_from v y u (x ∷ path)) (λ y. one_use v y u x + uses_from v y x path)
    (v + 1) (m - v) (λ y from to. uses_from-cons v y u x path) in
    let out_parts = range-add (λ y. one_use v y u x) (λ y. uses_from v y x path) (v + 1) (m - v) in
    let come = range-same (λ a. uses_from a v u (x ∷ path)) (λ a. one_use a v u x + uses_from a v x path) 0 v
    (λ a from to. uses_from-cons a v u x path) in
    let come_parts = range-add (λ a. one_use a v u x) (λ a. uses_from a v x path) 0 v in
    omega (arith, later, out, out_parts, come, come_parts, one_out m v u x is.0 is.1, one_in v u x is.0)

-- ---- the flow of paths

pub flow_at-of : (m : ℕ) (paths : List (List ℕ)) (u x : ℕ) → u < x → x ≤ m →
    flow_at m (flow_of m paths) u x ≡ uses_of paths u x
flow_at-of m paths u x lt le = get_or-each (λ a. uses_of paths a.0 a.1) m u x 0 lt le

paths_keep : (m v : ℕ) (paths : List (List ℕ)) → All (IsPath m) paths →
    add_up (λ y. uses_of paths v y) (range_with_len (v + 1) (m - v)) ≤
    add_up (λ a. uses_of paths a v) (range_with_len 0 v) + add_up (λ _. same v 0) paths
paths_keep m v [] are = omega (arith, range-none (λ y. uses_of [] v y) (v + 1) (m - v) (λ y from to. refl))
paths_keep m v (path ∷ paths) are =
    let first = path_keeps m v 0 path (All-head (IsPath m) path paths are) in
    let later = paths_keep m v paths (All-tail (IsPath m) path paths are) in
    let out = range-add (λ y. path_uses v y path) (λ y. uses_of paths v y) (v + 1) (m - v) in
    let come = range-add (λ a. path_uses a v path) (λ a. uses_of paths a v) 0 v in
    omega (arith, first, later, out, come)

starts : (paths : List (List ℕ)) → add_up (λ _. same 0 0) paths ≡ length paths
starts [] = refl
starts (path ∷ paths) = omega (arith, starts paths, same-yes 0 0 refl)

none_start : (v : ℕ) (paths : List (List ℕ)) → v ≢ 0 → add_up (λ _. same v 0) paths ≡ 0
none_start v [] ne = refl
none_start v (path ∷ paths) ne = omega (arith, none_start v paths ne, same-no v 0 ne)

pub paths_are_flow : (m : ℕ) (paths : List (List ℕ)) → All (IsPath m) paths → IsFlow m (flow_of m paths) (length paths)
paths_are_flow m paths are = record { each = each; start = start; places = places } where
  each : length (flow_of m paths) ≡ arc_total m
  each = length-map (arcs_of m) (λ a. uses_of paths a.0 a.1) ∙ length-arcs_of m

  out : (v : ℕ) → v ≤ m → flow_out m (flow_of m paths) v ≡
      add_up (λ y. uses_of paths v y) (range_with_len (v + 1) (m - v))
  out v le = range-same (λ y. flow_at m (flow_of m paths) v y) (λ y. uses_of paths v y) (v + 1) (m - v)
      (λ y from to. flow_at-of m paths v y (omega arith) (omega arith))

  come : (v : ℕ) → v ≤ m → flow_in m (flow_of m paths) v ≡ add_up (λ a. uses_of paths a v) (range_with_len 0 v)
  come v le = range-same (λ a. flow_at m (flow_of m paths) a v) (λ a. uses_of paths a v) 0 v
      (λ a from to. flow_at-of m paths a v (omega arith) le)

  start : flow_out m (flow_of m paths) 0 ≤ length paths
  start = omega (arith, out 0 (omega arith), paths_keep m 0 paths are, starts paths)

  places : (v : ℕ) → 1 ≤ v → v ≤ m → flow_out m (flow_of m paths) v ≤ flow_in m (flow_of m paths) v
  places v some le = omega (arith, out v le, come v le, paths_keep m v paths are, none_start v paths (omega arith))

-- ---- what it brings

-- one unit less on an arc
one_less-each : (m : ℕ) (U V : ℕ × ℕ → ℕ) (u x : ℕ) → u < x → x ≤ m →
    ((a b : ℕ) → U (a, b) ≡ one_use a b u x + V (a, b)) →
    one_less m (map U (arcs_of m)) u x ≡ map V (arcs_of m)
one_less-each m U V u x lt le is =
    ext_get_or 0 (one_less m (map U (arcs_of m)) u x) (map V (arcs_of m))
    (omega (arith, long, length-one_less m (map U (arcs_of m)) u x, length-map (arcs_of m) V, length-arcs_of m))
    (λ k within. each k (omega (arith, within, long, length-one_less m (map U (arcs_of m)) u x))) where
      long : length (map U (arcs_of m)) ≡ arc_total m
      long = length-map (arcs_of m) U ∙ length-arcs_of m

      some : 1 ≤ flow_at m (map U (arcs_of m)) u x
      some = omega (arith, get_or-each U m u x 0 lt le, is u x, one_use-same u x u x refl refl)

      each : (k : ℕ) → k < arc_total m → get_or (one_less m (map U (arcs_of m)) u x) k 0 ≡
          get_or (map V (arcs_of m)) k 0
      each k within =
          let a = arc_of m k within in
          let one = taken m (map U (arcs_of m)) u x a.from a.to lt le a.begins a.ends long some in
          let left : flow_at m (one_less m (map U (arcs_of m)) u x) a.from a.to ≡ V (a.from, a.to) =
          omega (arith, one, get_or-each U m a.from a.to 0 a.begins a.ends, is a.from a.to) in
          ap (λ i. get_or (one_less m (map U (arcs_of m)) u x) i 0) (sym a.is) ∙ left
          ∙ sym (get_or-each V m a.from a.to 0 a.begins a.ends) ∙ ap (λ i. get_or (map V (arcs_of m)) i 0) a.is

sum_one : (m : ℕ) (ws : List ℤ) (U V : ℕ × ℕ → ℕ) (u x : ℕ) → u < x → x ≤ m →
    ((a b : ℕ) → U (a, b) ≡ one_use a b u x + V (a, b)) →
    flow_sum (map U (arcs_of m)) ws ≡ flow_sum (map V (arcs_of m)) ws +ℤ weight_at m ws u x
sum_one m ws U V u x lt le is =
    let some : 0 < get_or (map U (arcs_of m)) (arc_at m u x) 0 =
    omega (arith, get_or-each U m u x 0 lt le, is u x, one_use-same u x u x refl refl) in
    flow_sum-less (map U (arcs_of m)) ws (arc_at m u x) some
    ∙ ap (λ f. flow_sum f ws +ℤ weight_at m ws u x) (one_less-each m U V u x lt le is)

-- the arcs of a path from u, and others
sum_path : (m : ℕ) (ws : List ℤ) (V : ℕ × ℕ → ℕ) (u : ℕ) (path : List ℕ) → IsPathFrom m u path →
    flow_sum (map (λ a. uses_from a.0 a.1 u path + V a) (arcs_of m)) ws ≡
    flow_sum (map V (arcs_of m)) ws +ℤ path_sum m ws u path
sum_path m ws V u [] is = let e = map-alike (λ a. 0 + V a) V (arcs_of m) (λ a. omega arith) in
    omega (arith, ints, ap (λ f. flow_sum f ws) e) where
      map-alike : (g h : ℕ × ℕ → ℕ) (arcs : List (ℕ × ℕ)) → ((a : ℕ × ℕ) → g a ≡ h a) → map g arcs ≡ map h arcs
      map-alike g h [] alike = refl
      map-alike g h (a ∷ arcs) alike = let first = alike a in let later = map-alike g h arcs alike in cc
sum_path m ws V u (x ∷ path) is =
    let one = sum_one m ws (λ a. uses_from a.0 a.1 u (x ∷ path) + V a)
    (λ a. uses_from a.0 a.1 x path + V a) u x is.0 is.1
    (λ a b. omega (arith, uses_from-cons a b u x path)) in
    let later = sum_path m ws V x path is.2 in
    omega (arith, ints, one, later)

pub flow_sum-of : (m : ℕ) (ws : List ℤ) (paths : List (List ℕ)) → All (IsPath m) paths →
    flow_sum (flow_of m paths) ws ≡ sum_z (λ path. path_sum m ws 0 path) paths
flow_sum-of m ws [] are = flow_sum-none (flow_of m []) ws (λ k within. get_or-map (λ a. uses_of [] a.0 a.1)
    (arcs_of m) k (0, 0) 0 (omega (arith, within, length-map (arcs_of m) (λ a. uses_of [] a.0 a.1))))
flow_sum-of m ws (path ∷ paths) are =
    let first = sum_path m ws (λ a. uses_of paths a.0 a.1) 0 path (All-head (IsPath m) path paths are) in
    let later = flow_sum-of m ws paths (All-tail (IsPath m) path paths are) in
    omega (arith, ints, first, later)
