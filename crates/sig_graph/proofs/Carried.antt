-- What a walk leaves of a flow is a flow. On the way one unit more comes to the place where the walk stands than would
-- be allowed to leave it; it moves along each arc that the walk takes, and stays where no arc has flow left.
use Rattle.std.proofs.Common.{◌≡◌, ◌≢◌, ℕ, zero, suc, ◌+◌, ◌-◌, ◌<◌, ◌≤◌, ◌⊎◌, List, [], ◌∷◌, length, get_or-set_other, get_or-set_same, sym, refl, ap, ◌∙◌, inl, inr, arith}
use Rattle.std.specs.List.{range_with_len}
use Rattle.std.proofs.Math.ListN.{length-set}
use Rattle.std.proofs.lemmas.Bool.{cases_lt, cases_eq, lt-ltb, le-ltb}
use Rattle.sig_graph.specs.Flows.{flow_at, flow_in, flow_out}
use Rattle.sig_graph.specs.Paths.{arc_at, arc_total, IsPathFrom}
use Rattle.sig_graph.specs.Walks.{flow_after, one_less, walk_from}
use Rattle.sig_graph.proofs.ArcNumbers.{arc_at-apart, arc_at-within}
use Rattle.sig_graph.proofs.Ranges.{range-same, range-none, range-less}

-- ---- one less on an arc

pub length-one_less : (m : ℕ) (f : List ℕ) (u x : ℕ) → length (one_less m f u x) ≡ length f
length-one_less m f u x = length-set f (arc_at m u x) (flow_at m f u x - 1)

pub one_less-here : (m : ℕ) (f : List ℕ) (u x : ℕ) → u < x → x ≤ m → length f ≡ arc_total m →
    flow_at m (one_less m f u x) u x ≡ flow_at m f u x - 1
one_less-here m f u x lt le long =
    get_or-set_same f (arc_at m u x) (flow_at m f u x - 1) 0 (omega (arith, arc_at-within m u x lt le))

pub one_less-other : (m : ℕ) (f : List ℕ) (u x a b : ℕ) → u < x → x ≤ m → a < b → b ≤ m → (u ≡ a → x ≡ b → ⊥) →
    flow_at m (one_less m f u x) a b ≡ flow_at m f a b
one_less-other m f u x a b lt le lt' le' apart =
    get_or-set_other f (arc_at m u x) (arc_at m a b) (flow_at m f u x - 1) 0
    (λ e. arc_at-apart m u x a b lt le lt' le' apart (sym e))

module _ (m : ℕ) (f : List ℕ) (u x : ℕ) (lt : u < x) (le : x ≤ m) (long : length f ≡ arc_total m)
    (some : 1 ≤ flow_at m f u x) where
  out_same : (v : ℕ) → v ≤ m → v ≢ u → flow_out m (one_less m f u x) v ≡ flow_out m f v
  out_same v within ne =
      range-same (λ b. flow_at m (one_less m f u x) v b) (λ b. flow_at m f v b) (v + 1) (m - v)
      (λ b from to. one_less-other m f u x v b lt le (omega arith) (omega arith) (λ e d. absurd (omega (arith, e, ne))))

  in_same : (v : ℕ) → v ≤ m → v ≢ x → flow_in m (one_less m f u x) v ≡ flow_in m f v
  in_same v within ne =
      range-same (λ a. flow_at m (one_less m f u x) a v) (λ a. flow_at m f a v) 0 v
      (λ a from to. one_less-other m f u x a v lt le (omega arith) within (λ e d. absurd (omega (arith, d, ne))))

  pub out_less : flow_out m (one_less m f u x) u + 1 ≡ flow_out m f u
  out_less =
      range-less (λ b. flow_at m (one_less m f u x) u b) (λ b. flow_at m f u b) x (u + 1) (m - u)
      (λ b from to ne. one_less-other m f u x u b lt le (omega arith) (omega arith)
      (λ e d. absurd (omega (arith, d, ne))))
      (omega (arith, one_less-here m f u x lt le long)) (omega arith) (omega arith)

  in_less : flow_in m (one_less m f u x) x + 1 ≡ flow_in m f x
  in_less =
      range-less (λ a. flow_at m (one_less m f u x) a x) (λ a. flow_at m f a x) u 0 x
      (λ a from to ne. one_less-other m f u x a x lt le (omega arith) le (λ e d. absurd (omega (arith, e, ne))))
      (omega (arith, one_less-here m f u x lt le long)) (omega arith) (omega arith)

-- ---- the unit that a walk carries

-- no place sends on more than comes to it
abbrev pub Keeps : ℕ → List ℕ → Type 0
Keeps m f = (v : ℕ) → 1 ≤ v → v ≤ m → flow_out m f v ≤ flow_in m f v

-- a flow to which one unit at u is to be added
pub record IsCarried (m : ℕ) (f : List ℕ) (u : ℕ) : Type 0 where
  pub others : (v : ℕ) → 1 ≤ v → v ≤ m → v ≢ u → flow_out m f v ≤ flow_in m f v
  pub here : 1 ≤ u → flow_out m f u ≤ flow_in m f u + 1

carried_on : (m : ℕ) (f : List ℕ) (u x : ℕ) → u < x → x ≤ m → length f ≡ arc_total m → 1 ≤ flow_at m f u x →
    IsCarried m f u → IsCarried m (one_less m f u x) x
carried_on m f u x lt le long some is = record { others = others; here = here } where
  at_u : 1 ≤ u → flow_out m (one_less m f u x) u ≤ flow_in m (one_less m f u x) u
  at_u past = omega (
    arith,
    out_less m f u x lt le long some,
    in_same m f u x lt le long some u (omega arith) (omega arith),
    is.here past,
  )

  others : (v : ℕ) → 1 ≤ v → v ≤ m → v ≢ x → flow_out m (one_less m f u x) v ≤ flow_in m (one_less m f u x) v
  others v past within ne = elim (cases_eq v u) [
    | inl e ↦ (let P : ℕ → Type 0 = λ w. flow_out m (one_less m f u x) w ≤ flow_in m (one_less m f u x) w in
        rw e (at_u (omega arith)))
    | inr nu ↦ omega (
      arith,
      out_same m f u x lt le long some v within nu,
      in_same m f u x lt le long some v within ne,
      is.others v past within nu,
    )
  ]

  here : 1 ≤ x → flow_out m (one_less m f u x) x ≤ flow_in m (one_less m f u x) x + 1
  here past = omega (
    arith,
    out_same m f u x lt le long some x le (omega arith),
    in_less m f u x lt le long some,
    is.others x past le (omega arith),
  )

-- ---- walks

-- a walk looks only at the arcs from where it stands on
pub walk_from-same : (m : ℕ) (f g : List ℕ) (u x n : ℕ) → u < x → x + n ≡ m + 1 →
    ((a b : ℕ) → u ≤ a → a < b → b ≤ m → flow_at m f a b ≡ flow_at m g a b) →
    walk_from m f u (range_with_len x n) ≡ walk_from m g u (range_with_len x n)
walk_from-same m f g u x zero lt end same = refl
walk_from-same m f g u x (suc n) lt end same =
    let here = same u x (omega arith) lt (omega arith) in
    let on = walk_from-same m f g x (x + 1) n (omega arith) (omega arith) (λ a b from. same a b (omega arith)) in
    let past = walk_from-same m f g u (x + 1) n (omega arith) (omega arith) same in
    cc

-- the step onto x leaves the walk from there as it is
pub walk_after : (m : ℕ) (f : List ℕ) (u x n : ℕ) → u < x → x + 1 + n ≡ m + 1 →
    walk_from m f x (range_with_len (x + 1) n) ≡ walk_from m (one_less m f u x) x (range_with_len (x + 1) n)
walk_after m f u x n lt end =
    walk_from-same m f (one_less m f u x) x (x + 1) n (omega arith) end
    (λ a b from below within. sym (one_less-other m f u x a b lt (omega arith) below within
    (λ e d. absurd (omega (arith, e)))))

pub walk_is_path : (m : ℕ) (f : List ℕ) (u x n : ℕ) → u < x → x + n ≡ m + 1 →
    IsPathFrom m u (walk_from m f u (range_with_len x n))
walk_is_path m f u x zero lt end = tt
walk_is_path m f u x (suc n) lt end = elim (cases_lt 0 (flow_at m f u x)) [
  | inl some ↦ rw (lt-ltb 0 (flow_at m f u x) some) (
    lt,
    omega arith,
    walk_is_path m f x (x + 1) n (omega arith) (omega arith),
  )
  | inr none ↦ rw (le-ltb 0 (flow_at m f u x) none) (walk_is_path m f u (x + 1) n (omega arith) (omega arith))
]

-- no arc from u to a place before x has flow left
abbrev pub NoneTo : ℕ → List ℕ → ℕ → ℕ → Type 0
NoneTo m f u x = (y : ℕ) → u < y → y < x → flow_at m f u y ≡ 0

pub none_more : (m : ℕ) (f : List ℕ) (u x : ℕ) → NoneTo m f u x → flow_at m f u x ≤ 0 → NoneTo m f u (x + 1)
none_more m f u x none here y from to = elim (cases_eq y x) [
  | inl e ↦ omega (arith, ap (flow_at m f u) e)
  | inr ne ↦ none y from (omega arith)
]

pub none_yet : (m : ℕ) (f : List ℕ) (u : ℕ) → NoneTo m f u (u + 1)
none_yet m f u y from to = absurd (omega arith)

out_none : (m : ℕ) (f : List ℕ) (u : ℕ) → u ≤ m → NoneTo m f u (m + 1) → flow_out m f u ≡ 0
out_none m f u within none = range-none (λ b. flow_at m f u b) (u + 1) (m - u)
    (λ b from to. none b (omega arith) (omega arith))

pub length-flow_after : (m : ℕ) (f : List ℕ) (u : ℕ) (path : List ℕ) → length (flow_after m f u path) ≡ length f
length-flow_after m f u [] = refl
length-flow_after m f u (x ∷ path) = length-flow_after m (one_less m f u x) x path ∙ length-one_less m f u x

-- what a walk leaves keeps being a flow
pub walk_keeps : (m : ℕ) (f : List ℕ) (u x n : ℕ) → u < x → x + n ≡ m + 1 → length f ≡ arc_total m → NoneTo m f u x →
    IsCarried m f u →
    Keeps m (flow_after m f u (walk_from m f u (range_with_len x n)))
walk_keeps m f u x zero lt end long none is = λ v past within. elim (cases_eq v u) [
  | inl e ↦
      let e' : x ≡ m + 1 = omega arith in
      let out = out_none m f u (omega arith) (rw e' at none) in
      let goal : flow_out m f u ≤ flow_in m f u = omega arith in
      rw e goal
  | inr ne ↦ is.others v past within ne
]
walk_keeps m f u x (suc n) lt end long none is = elim (cases_lt 0 (flow_at m f u x)) [
  | inl some ↦ rw (lt-ltb 0 (flow_at m f u x) some, walk_after m f u x n lt (omega arith))
      (walk_keeps m (one_less m f u x) x (x + 1) n (omega arith) (omega arith) (length-one_less m f u x ∙ long)
      (none_yet m (one_less m f u x) x) (carried_on m f u x lt (omega arith) long some is))
  | inr zero_here ↦ rw (le-ltb 0 (flow_at m f u x) zero_here)
      (walk_keeps m f u (x + 1) n (omega arith) (omega arith) long (none_more m f u x none zero_here) is)
]

-- a path from u leaves the arcs from before u as they are
pub row_after : (m : ℕ) (f : List ℕ) (u : ℕ) (path : List ℕ) (a b : ℕ) → a < u → a < b → b ≤ m → IsPathFrom m u path →
    flow_at m (flow_after m f u path) a b ≡ flow_at m f a b
row_after m f u [] a b before lt le is = refl
row_after m f u (x ∷ path) a b before lt le is =
    row_after m (one_less m f u x) x path a b (omega (arith, is.0)) lt le is.2
    ∙ one_less-other m f u x a b is.0 is.1 lt le (λ e d. absurd (omega (arith, e)))

-- a walk from the start takes one of what leaves it, where anything does
pub walk_starts : (m : ℕ) (f : List ℕ) (x n : ℕ) → 0 < x → x + n ≡ m + 1 → length f ≡ arc_total m → NoneTo m f 0 x →
    (flow_out m (flow_after m f 0 (walk_from m f 0 (range_with_len x n))) 0 ≡ 0)
    ⊎ (flow_out m (flow_after m f 0 (walk_from m f 0 (range_with_len x n))) 0 + 1 ≡ flow_out m f 0)
walk_starts m f x zero past end long none = let e : x ≡ m + 1 = omega arith in
    inl (out_none m f 0 (omega arith) (rw e at none))
walk_starts m f x (suc n) past end long none = elim (cases_lt 0 (flow_at m f 0 x)) [
  | inl some ↦
      let after = flow_after m (one_less m f 0 x) x (walk_from m f x (range_with_len (x + 1) n)) in
      let path = walk_is_path m f x (x + 1) n (omega arith) (omega arith) in
      let same = range-same (λ b. flow_at m after 0 b) (λ b. flow_at m (one_less m f 0 x) 0 b) (0 + 1) (m - 0)
      (λ b from to. row_after m (one_less m f 0 x) x (walk_from m f x (range_with_len (x + 1) n)) 0 b past
      (omega arith) (omega arith) path) in
      let less = out_less m f 0 x past (omega arith) long some in
      rw (lt-ltb 0 (flow_at m f 0 x) some) (inr (omega (arith, same, less)))
  | inr zero_here ↦ rw (le-ltb 0 (flow_at m f 0 x) zero_here)
      (walk_starts m f (x + 1) n (omega arith) (omega arith) long (none_more m f 0 x none zero_here))
]

-- at the start there is none
pub carried_start : (m : ℕ) (f : List ℕ) → Keeps m f → IsCarried m f 0
carried_start m f keeps = record {
  others = λ v past within ne. keeps v past within;
  here = λ past. absurd (omega arith);
}
