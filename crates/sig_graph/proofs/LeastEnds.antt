-- Each walk goes on along the arc with the least end that has flow left, and no other list of paths does.
use Rattle.std.proofs.Common.{◌≡◌, ℕ, zero, suc, ◌+◌, ◌<◌, ◌≤◌, List, [], ◌∷◌, length, refl, ap, inl, inr, arith}
use Rattle.std.specs.List.{range_with_len}
use Rattle.std.proofs.lemmas.Bool.{cases_lt, lt-ltb, le-ltb}
use Rattle.sig_graph.specs.Flows.{flow_at}
use Rattle.sig_graph.specs.Paths.{IsPathFrom}
use Rattle.sig_graph.specs.Walks.{flow_after, split_of, walk_from, walk_of, AreWalks, IsNext, IsWalk}
use Rattle.sig_graph.proofs.Carried.{none_more, none_yet, NoneTo}

walk_is : (m : ℕ) (f : List ℕ) (u x n : ℕ) → u < x → x + n ≡ m + 1 → NoneTo m f u x →
    IsWalk m f u (walk_from m f u (range_with_len x n))
walk_is m f u x zero lt end none = λ y from to. none y from (omega arith)
walk_is m f u x (suc n) lt end none = elim (cases_lt 0 (flow_at m f u x)) [
  | inl some ↦ rw (lt-ltb 0 (flow_at m f u x) some) (
    record { later = lt; within = omega arith; left = some; least = none },
    walk_is m f x (x + 1) n (omega arith) (omega arith) (none_yet m f x),
  )
  | inr zero_here ↦ rw (le-ltb 0 (flow_at m f u x) zero_here)
      (walk_is m f u (x + 1) n (omega arith) (omega arith) (none_more m f u x none zero_here))
]

-- the place that a walk goes on to is not before x, and it is x where the arc to x has flow left
next_place : (m : ℕ) (f : List ℕ) (u x y : ℕ) → NoneTo m f u x → IsNext m f u y → x ≤ y
next_place m f u x y none is = elim (cases_lt y x) [
  | inl lt ↦ absurd (omega (arith, none y is.later lt, is.left))
  | inr le ↦ le
]

next_here : (m : ℕ) (f : List ℕ) (u x y : ℕ) → u < x → NoneTo m f u x → 0 < flow_at m f u x → IsNext m f u y → y ≡ x
next_here m f u x y lt none some is = elim (cases_lt x y) [
  | inl before ↦ absurd (omega (arith, is.least x lt before, some))
  | inr le ↦ omega (arith, next_place m f u x y none is, le)
]

walk_only : (m : ℕ) (f : List ℕ) (u x n : ℕ) (path : List ℕ) → u < x → x + n ≡ m + 1 → NoneTo m f u x →
    IsWalk m f u path →
    path ≡ walk_from m f u (range_with_len x n)
walk_only m f u x zero [] lt end none is = refl
walk_only m f u x zero (y ∷ path) lt end none is = absurd (omega (arith, next_place m f u x y none is.0, is.0.within))
walk_only m f u x (suc n) [] lt end none is = elim (cases_lt 0 (flow_at m f u x)) [
  | inl some ↦ absurd (omega (arith, is x lt (omega arith), some))
  | inr zero_here ↦ rw (le-ltb 0 (flow_at m f u x) zero_here)
      (walk_only m f u (x + 1) n [] (omega arith) (omega arith) (none_more m f u x none zero_here) is)
]
walk_only m f u x (suc n) (y ∷ path) lt end none is = elim (cases_lt 0 (flow_at m f u x)) [
  | inl some ↦
      let e = next_here m f u x y lt none some is.0 in
      let on = walk_only m f x (x + 1) n path (omega arith) (omega arith) (none_yet m f x) (rw e at is.1) in
      rw (lt-ltb 0 (flow_at m f u x) some, e) (ap (λ p. x ∷ p) on)
  | inr zero_here ↦ rw (le-ltb 0 (flow_at m f u x) zero_here)
      (walk_only m f u (x + 1) n (y ∷ path) (omega arith) (omega arith) (none_more m f u x none zero_here) is)
]

pub split_is_walks : (m : ℕ) (f : List ℕ) (n : ℕ) → AreWalks m f (split_of m f n)
unfolding split_of
split_is_walks m f zero = tt
split_is_walks m f (suc n) = (
  walk_is m f 0 1 m (omega arith) (omega arith) (none_yet m f 0),
  split_is_walks m (flow_after m f 0 (walk_of m f)) n,
)

pub walks_are_split : (m : ℕ) (f : List ℕ) (paths : List (List ℕ)) → AreWalks m f paths →
    paths ≡ split_of m f (length paths)
unfolding split_of
walks_are_split m f [] are = refl
walks_are_split m f (path ∷ paths) are =
    let first = walk_only m f 0 1 m path (omega arith) (omega arith) (none_yet m f 0) are.0 in
    let later = walks_are_split m (flow_after m f 0 path) paths are.1 in
    rw (← first) (ap (λ ps. path ∷ ps) later)

-- a walk from the start is the one through all places
pub walk_is_one : (m : ℕ) (f path : List ℕ) → IsWalk m f 0 path → path ≡ walk_of m f
walk_is_one m f path is = walk_only m f 0 1 m path (omega arith) (omega arith) (none_yet m f 0) is

-- and a path
pub walked_is_path : (m : ℕ) (f : List ℕ) (u : ℕ) (path : List ℕ) → IsWalk m f u path → IsPathFrom m u path
walked_is_path m f u [] is = tt
walked_is_path m f u (x ∷ path) is = (is.0.later, is.0.within, walked_is_path m f x path is.1)
