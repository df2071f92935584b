-- The walks of a flow together use each arc as often as the flow says.
use Rattle.std.proofs.Common.{◌≡◌, ℕ, zero, suc, ◌+◌, ◌-◌, ◌<◌, ◌≤◌, List, length, All, sym, refl, ap, ◌∙◌, inl, inr, arith}
use Rattle.std.specs.List.{range_with_len}
use Rattle.std.proofs.lemmas.Bool.{cases_lt, lt-ltb, le-ltb}
use Rattle.std.proofs.lemmas.List.Elements.{All-nil, All-cons}
use Rattle.sig_graph.specs.Flows.{flow_at, IsFlow}
use Rattle.sig_graph.specs.Paths.{arc_total, IsPath}
use Rattle.sig_graph.specs.Walks.{flow_after, one_less, split_of, uses_of, walk_from, walk_of}
use Rattle.sig_graph.proofs.Carried.{carried_start, length-flow_after, length-one_less, none_yet, walk_after, walk_is_path, walk_keeps, walk_starts}
use Rattle.sig_graph.proofs.Ranges.{range-none, term-le}
use Rattle.sig_graph.proofs.Uses.{taken, uses_from, uses_from-cons, uses_once}

-- ---- what the first walk leaves, and what is left at last

-- a flow with the total n + 1 leaves a flow with the total n
pub flow_next : (m : ℕ) (f : List ℕ) (n : ℕ) → IsFlow m f (suc n) → IsFlow m (flow_after m f 0 (walk_of m f)) n
flow_next m f n is = record {
  each = length-flow_after m f 0 (walk_of m f) ∙ is.each;
  start = elim (walk_starts m f 1 m (omega arith) (omega arith) is.each (none_yet m f 0)) [
    | inl none ↦ omega (arith, none)
    | inr less ↦ omega (arith, less, is.start)
  ];
  places = walk_keeps m f 0 1 m (omega arith) (omega arith) is.each (none_yet m f 0) (carried_start m f is.places);
}

-- a flow with the total 0 is 0 on each arc
pub flow_none : (m : ℕ) (f : List ℕ) → IsFlow m f 0 → (k a b : ℕ) → a < k → a < b → b ≤ m → flow_at m f a b ≡ 0
flow_none m f is zero a b early lt le = absurd (omega arith)
flow_none m f is (suc k) a b early lt le = elim (cases_lt a k) [
  | inl before ↦ flow_none m f is k a b before lt le
  | inr at ↦ elim (cases_lt 0 a) [
    | inl past ↦
        let out = term-le (λ y. flow_at m f a y) b (a + 1) (m - a) (omega arith) (omega arith) in
        let none = range-none (λ u. flow_at m f u a) 0 a (λ u from to. flow_none m f is k u a
        (omega arith) (omega arith) (omega arith)) in
        omega (arith, out, none, is.places a past (omega arith))
    | inr low ↦
        let e : a ≡ 0 = omega arith in
        let out = term-le (λ y. flow_at m f 0 y) b (0 + 1) (m - 0) (omega arith) (omega arith) in
        omega (arith, out, is.start, ap (λ v. flow_at m f v b) e)
  ]
]

-- ---- how often arcs are used

-- what a walk uses, and what it leaves
walk_uses : (m : ℕ) (f : List ℕ) (u x n a b : ℕ) → u < x → x + n ≡ m + 1 → length f ≡ arc_total m → a < b → b ≤ m →
    uses_from a b u (walk_from m f u (range_with_len x n))
    + flow_at m (flow_after m f u (walk_from m f u (range_with_len x n))) a b ≡ flow_at m f a b
walk_uses m f u x zero a b lt end long lt' le' = omega arith
walk_uses m f u x (suc n) a b lt end long lt' le' = elim (cases_lt 0 (flow_at m f u x)) [
  | inl some ↦
      let path = walk_from m (one_less m f u x) x (range_with_len (x + 1) n) in
      let on = walk_uses m (one_less m f u x) x (x + 1) n a b (omega arith) (omega arith)
      (length-one_less m f u x ∙ long) lt' le' in
      let one = taken m f u x a b lt (omega arith) lt' le' long some in
      rw (lt-ltb 0 (flow_at m f u x) some, walk_after m f u x n lt (omega arith))
      (omega (arith, uses_from-cons a b u x path, on, one))
  | inr none ↦ rw (le-ltb 0 (flow_at m f u x) none) (walk_uses m f u (x + 1) n a b
      (omega arith) (omega arith) long lt' le')
]

-- the walks of a flow use each arc as often as the flow says
pub split_uses : (m : ℕ) (f : List ℕ) (n : ℕ) → IsFlow m f n → (a b : ℕ) → a < b → b ≤ m →
    uses_of (split_of m f n) a b ≡ flow_at m f a b
unfolding split_of
split_uses m f zero is a b lt le = sym (flow_none m f is (suc a) a b (omega arith) lt le)
split_uses m f (suc n) is a b lt le =
    let later = split_uses m (flow_after m f 0 (walk_of m f)) n (flow_next m f n is) a b lt le in
    let first = walk_uses m f 0 1 m a b (omega arith) (omega arith) is.each lt le in
    omega (arith, later, first)

-- each arc has at most the total
pub flow_at-le : (m : ℕ) (f : List ℕ) (n : ℕ) → IsFlow m f n → (a b : ℕ) → a < b → b ≤ m → flow_at m f a b ≤ n
flow_at-le m f zero is a b lt le = omega (arith, flow_none m f is (suc a) a b (omega arith) lt le)
flow_at-le m f (suc n) is a b lt le =
    let later = flow_at-le m (flow_after m f 0 (walk_of m f)) n (flow_next m f n is) a b lt le in
    let first = walk_uses m f 0 1 m a b (omega arith) (omega arith) is.each lt le in
    let once = uses_once m a b 0 (walk_of m f) (walk_is_path m f 0 1 m (omega arith) (omega arith)) in
    omega (arith, later, first, once)

-- ---- the list of walks

pub length-split_of : (m : ℕ) (f : List ℕ) (n : ℕ) → length (split_of m f n) ≡ n
unfolding split_of
length-split_of m f zero = refl
length-split_of m f (suc n) = ap suc (length-split_of m (flow_after m f 0 (walk_of m f)) n)

pub split_is_paths : (m : ℕ) (f : List ℕ) (n : ℕ) → All (IsPath m) (split_of m f n)
unfolding split_of
split_is_paths m f zero = All-nil (IsPath m)
split_is_paths m f (suc n) =
    All-cons (IsPath m) (walk_of m f) (split_of m (flow_after m f 0 (walk_of m f)) n)
    (walk_is_path m f 0 1 m (omega arith) (omega arith)) (split_is_paths m (flow_after m f 0 (walk_of m f)) n)
