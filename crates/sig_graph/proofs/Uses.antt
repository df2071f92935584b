-- How often paths use an arc.
use Rattle.std.proofs.Common.{◌≡◌, ℕ, ◌+◌, ◌<◌, ◌≤◌, ◌&&◌, cond, List, [], ◌∷◌, length, refl, ap, inl, inr, arith}
use Rattle.std.specs.Prelude.{count_by, ◌==◌}
use Rattle.std.proofs.lemmas.Bool.{cases_eq}
use Rattle.std.proofs.lemmas.Bool.Decides.{nat_tests}
use Rattle.std.proofs.lemmas.List.Sums.{sum_by-cons}
use Rattle.sig_graph.specs.Flows.{flow_at}
use Rattle.sig_graph.specs.Paths.{arc_total, path_arcs, IsPathFrom}
use Rattle.sig_graph.specs.Walks.{is_arc, one_less}
use Rattle.sig_graph.proofs.Carried.{one_less-here, one_less-other}

abbrev pub uses_from : ℕ → ℕ → ℕ → List ℕ → ℕ
uses_from a b u path = count_by (is_arc a b) (path_arcs u path)

-- whether the arc from u to x is that from a to b, as a number
abbrev pub one_use : ℕ → ℕ → ℕ → ℕ → ℕ
one_use a b u x = cond ((u == a) && (x == b)) 1 0

pub one_use-same : (a b u x : ℕ) → u ≡ a → x ≡ b → one_use a b u x ≡ 1
one_use-same a b u x e d = grind (arith, nat_tests)

pub one_use-other : (a b u x : ℕ) → (u ≡ a → x ≡ b → ⊥) → one_use a b u x ≡ 0
one_use-other a b u x apart = elim (cases_eq u a) [
  | inl e ↦ elim (cases_eq x b) [
    | inl d ↦ absurd (apart e d)
    | inr ne ↦ grind (arith, nat_tests)
  ]
  | inr ne ↦ grind (arith, nat_tests)
]

pub one_use-le : (a b u x : ℕ) → one_use a b u x ≤ 1
one_use-le a b u x = grind (arith, nat_tests)

pub uses_from-cons : (a b u x : ℕ) (path : List ℕ) → uses_from a b u (x ∷ path) ≡ one_use a b u x + uses_from a b x path
uses_from-cons a b u x path = sum_by-cons (λ e. cond (is_arc a b e) 1 0) (u, x) (path_arcs x path)

-- the unit that is taken from an arc
pub taken : (m : ℕ) (f : List ℕ) (u x a b : ℕ) → u < x → x ≤ m → a < b → b ≤ m → length f ≡ arc_total m →
    1 ≤ flow_at m f u x →
    one_use a b u x + flow_at m (one_less m f u x) a b ≡ flow_at m f a b
taken m f u x a b lt le lt' le' long some = elim (cases_eq u a) [
  | inl e ↦ elim (cases_eq x b) [
    | inl d ↦
        let after = ap (λ v. flow_at m (one_less m f u x) v b) e in
        let after' = ap (flow_at m (one_less m f u x) u) d in
        let before = ap (λ v. flow_at m f v b) e in
        let before' = ap (flow_at m f u) d in
        omega (arith, one_less-here m f u x lt le long, one_use-same a b u x e d, after, after', before, before')
    | inr ne ↦ other (λ _ d. ne d)
  ]
  | inr ne ↦ other (λ e _. ne e)
] where
  other : (u ≡ a → x ≡ b → ⊥) → one_use a b u x + flow_at m (one_less m f u x) a b ≡ flow_at m f a b
  other apart = omega (arith, one_less-other m f u x a b lt le lt' le' apart, one_use-other a b u x apart)

-- a path uses an arc at most once
uses_past : (m a b u : ℕ) (path : List ℕ) → a < u → IsPathFrom m u path → uses_from a b u path ≡ 0
uses_past m a b u [] past is = refl
uses_past m a b u (x ∷ path) past is =
    let later = uses_past m a b x path (omega (arith, is.0)) is.2 in
    omega (arith, uses_from-cons a b u x path, later, one_use-other a b u x (λ e _. absurd (omega (arith, e))))

pub uses_once : (m a b u : ℕ) (path : List ℕ) → IsPathFrom m u path → uses_from a b u path ≤ 1
uses_once m a b u [] is = omega arith
uses_once m a b u (x ∷ path) is = elim (cases_eq u a) [
  | inl e ↦ omega (
    arith,
    uses_from-cons a b u x path,
    uses_past m a b x path (omega (arith, is.0)) is.2,
    one_use-le a b u x,
  )
  | inr ne ↦ omega (
    arith,
    uses_from-cons a b u x path,
    uses_once m a b x path is.2,
    one_use-other a b u x (λ e _. ne e),
  )
]
