-- What a flow brings is what its paths bring together, so at most its total times the best path.
use Rattle.std.proofs.Common.{◌≡◌, ℕ, zero, suc, ◌+◌, ◌-◌, ◌<◌, List, [], ◌∷◌, length, get_or, All, sym, refl, ap, ◌∙◌, inl, inr, arith}
use Rattle.std.specs.List.{range_with_len}
use Rattle.std.proofs.Math.IntN.{ℤ, pos, ◌+ℤ◌, ◌*ℤ◌}
use Rattle.std.proofs.Math.ListN.{set}
use Rattle.std.proofs.lemmas.Int.{ints}
use Rattle.std.proofs.lemmas.Bool.{cases_lt, lt-ltb, le-ltb}
use Rattle.std.proofs.lemmas.List.Elements.{All-head, All-tail}
use lib.Signed.{◌≤ℤ◌}
use Rattle.mov_base.specs.Sums.{sum_z}
use Rattle.sig_graph.specs.Flows.{flow_at, flow_sum, IsFlow}
use Rattle.sig_graph.specs.Paths.{arc_at, arc_total, path_sum, IsBest, IsPath}
use Rattle.sig_graph.specs.Walks.{flow_after, one_less, split_of, walk_from, walk_of}
use Rattle.sig_graph.proofs.ArcNumbers.{arc_of}
use Rattle.sig_graph.proofs.Carried.{length-one_less, walk_after}
use Rattle.sig_graph.proofs.Splits.{flow_next, flow_none, length-split_of, split_is_paths}

times_less : (n : ℕ) (w : ℤ) → 0 < n → pos n *ℤ w ≡ (pos (n - 1) *ℤ w) +ℤ w
times_less zero w some = absurd (omega arith)
times_less (suc n) w some = let e : suc n - 1 ≡ n = omega arith in rw e (omega (arith, ints))

-- one unit less on an arc brings the arc's weight less
pub flow_sum-less : (f : List ℕ) (ws : List ℤ) (k : ℕ) → 0 < get_or f k 0 →
    flow_sum f ws ≡ flow_sum (set f k (get_or f k 0 - 1)) ws +ℤ get_or ws k (pos 0)
flow_sum-less [] ws k some = absurd (omega arith)
flow_sum-less (n ∷ f) [] zero some = refl
flow_sum-less (n ∷ f) [] (suc k) some = refl
flow_sum-less (n ∷ f) (w ∷ ws) zero some = omega (arith, ints, times_less n w some)
flow_sum-less (n ∷ f) (w ∷ ws) (suc k) some = omega (arith, ints, flow_sum-less f ws k some)

pub flow_sum-none : (f : List ℕ) (ws : List ℤ) → ((k : ℕ) → k < length f → get_or f k 0 ≡ 0) → flow_sum f ws ≡ pos 0
flow_sum-none [] ws none = refl
flow_sum-none (n ∷ f) [] none = refl
flow_sum-none (n ∷ f) (w ∷ ws) none =
    let e : n ≡ 0 = none 0 (omega arith) in
    let later = flow_sum-none f ws (λ k lt. none (suc k) (omega arith)) in
    rw e (omega (arith, ints, later))

-- what the flow brings is what a walk's path brings, and what is left then
walk_sum : (m : ℕ) (f : List ℕ) (ws : List ℤ) (u x n : ℕ) → u < x → x + n ≡ m + 1 → length f ≡ arc_total m →
    flow_sum f ws ≡ flow_sum (flow_after m f u (walk_from m f u (range_with_len x n))) ws
    +ℤ path_sum m ws u (walk_from m f u (range_with_len x n))
walk_sum m f ws u x zero lt end long = omega (arith, ints)
walk_sum m f ws u x (suc n) lt end long = elim (cases_lt 0 (flow_at m f u x)) [
  | inl some ↦
      let on = walk_sum m (one_less m f u x) ws x (x + 1) n (omega arith) (omega arith)
      (length-one_less m f u x ∙ long) in
      let one = flow_sum-less f ws (arc_at m u x) some in
      rw (lt-ltb 0 (flow_at m f u x) some, walk_after m f u x n lt (omega arith)) (omega (arith, ints, on, one))
  | inr none ↦ rw (le-ltb 0 (flow_at m f u x) none) (walk_sum m f ws u (x + 1) n (omega arith) (omega arith) long)
]

-- no arc of a flow with the total 0 has any
nothing : (m : ℕ) (f : List ℕ) (k : ℕ) → IsFlow m f 0 → k < length f → get_or f k 0 ≡ 0
nothing m f k is lt =
    let a = arc_of m k (omega (arith, lt, is.each)) in
    ap (λ i. get_or f i 0) (sym a.is) ∙ flow_none m f is (suc a.from) a.from a.to (omega arith) a.begins a.ends

-- the paths into which it is split bring what the flow brings
pub flow_sum-split : (m : ℕ) (f : List ℕ) (n : ℕ) (ws : List ℤ) → IsFlow m f n →
    flow_sum f ws ≡ sum_z (λ path. path_sum m ws 0 path) (split_of m f n)
unfolding split_of
flow_sum-split m f zero ws is = flow_sum-none f ws (λ k lt. nothing m f k is lt)
flow_sum-split m f (suc n) ws is =
    let later = flow_sum-split m (flow_after m f 0 (walk_of m f)) n ws (flow_next m f n is) in
    let first = walk_sum m f ws 0 1 m (omega arith) (omega arith) is.each in
    omega (arith, ints, later, first)

times_more : (n : ℕ) (w : ℤ) → pos (suc n) *ℤ w ≡ (pos n *ℤ w) +ℤ w
times_more n w = omega (arith, ints)

-- paths bring at most their number times the best one
paths_bring : (m : ℕ) (ws : List ℤ) (best : ℤ) (paths : List (List ℕ)) → IsBest m ws 0 best → All (IsPath m) paths →
    sum_z (λ path. path_sum m ws 0 path) paths ≤ℤ (pos (length paths) *ℤ best)
paths_bring m ws best [] top are = omega (arith, ints)
paths_bring m ws best (path ∷ paths) top are =
    let first = top.above path (All-head (IsPath m) path paths are) in
    let later = paths_bring m ws best paths top (All-tail (IsPath m) path paths are) in
    omega (arith, ints, first, later, times_more (length paths) best)

-- a flow brings at most its total times the best path
pub flow_sum-le : (m : ℕ) (f : List ℕ) (n : ℕ) (ws : List ℤ) (best : ℤ) → IsFlow m f n → IsBest m ws 0 best →
    flow_sum f ws ≤ℤ (pos n *ℤ best)
flow_sum-le m f n ws best is top =
    let most = paths_bring m ws best (split_of m f n) top (split_is_paths m f n) in
    rw (flow_sum-split m f n ws is) (rw (length-split_of m f n) at most)
