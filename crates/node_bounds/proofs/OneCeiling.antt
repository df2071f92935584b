-- A node has one ceiling at most.
use Rattle.std.proofs.Common.{◌≡◌, ℕ, ◌≤◌, inl, inr, arith}
use Rattle.goal_rows.specs.Elections.{Election, Node}
use Rattle.node_bounds.specs.Ceilings.{IsCeiling}

-- the one that is least is at most the other one
at_most : (e : Election) (node : Node) (t other : ℕ) → IsCeiling e node t → IsCeiling e node other → t ≤ other
at_most e node t other one two = elim two.reached [
  | inl some ↦ one.least other some
  | inr none ↦ elim one.reached [
    | inl some ↦ absurd (none.0 some.0 some.1 some.2)
    | inr also ↦ omega (arith, none.1, also.1)
  ]
]

pub one_ceiling : (e : Election) (node : Node) (t other : ℕ) → IsCeiling e node t → IsCeiling e node other → t ≡ other
one_ceiling e node t other one two = omega (arith, at_most e node t other one two, at_most e node other t two one)
