-- The numbers of arcs: where each stands in the order, and that no two share one.
use Rattle.std.proofs.Common.{◌≡◌, ◌≢◌, ℕ, zero, suc, ◌+◌, ◌-◌, ◌*◌, ◌/◌, ◌<◌, ◌≤◌, List, [], ◌∷◌, ◌++◌, Option, Some, map, length, get_or, slice_get, refl, ap, ◌∙◌, inl, inr, arith}
use Rattle.std.specs.List.{flat_map, range_with_len}
use Rattle.std.proofs.lemmas.Bool.{cases_lt, cases_eq}
use Rattle.std.proofs.lemmas.List.{get_or-map, length-append, length-map}
use Rattle.std.proofs.lemmas.List.FromFn.{length-range_with_len}
use Rattle.std.proofs.lemmas.Option.{get_or_from_slice_get, slice_get_within}
use Rattle.sig_graph.specs.Paths.{arc_at, arc_total, arcs_before, arcs_of}

pub arcs_before-mono : (m a b : ℕ) → a ≤ b → arcs_before m a ≤ arcs_before m b
arcs_before-mono m a zero h = let e : a ≡ 0 = omega arith in rw e (omega arith)
arcs_before-mono m a (suc b) h = elim (cases_lt b a) [
  | inl lt ↦ let e : a ≡ suc b = omega arith in rw e (omega arith)
  | inr le ↦ omega (arith, arcs_before-mono m a b le)
]

-- from u places on, with d more
pub arcs_twice : (m u d : ℕ) → m ≡ u + d → 2 * arcs_before m u ≡ u * (u + 2 * d + 1)
arcs_twice m zero d e = omega arith
arcs_twice m (suc u) d e = let h = arcs_twice m u (suc d) (omega arith) in omega (arith, h)

pub arcs_before-all : (m : ℕ) → arcs_before m m ≡ arc_total m
arcs_before-all m = let h = arcs_twice m m 0 (omega arith) in omega (arith, h)

-- the number by one product
pub arc_at-product : (m u x : ℕ) → u < x → x ≤ m → u * (2 * m + 1 - u) / 2 + x - u - 1 ≡ arc_at m u x
arc_at-product m u x begins ends =
    let h = arcs_twice m u (m - u) (omega arith) in
    let e : 2 * m + 1 - u ≡ u + 2 * (m - u) + 1 = omega arith in
    rw e (omega (arith, h))

-- each arc has a number among them
pub arc_at-within : (m u x : ℕ) → u < x → x ≤ m → arc_at m u x < arc_total m
arc_at-within m u x begins ends =
    let h = arcs_before-mono m (suc u) m (omega arith) in
    omega (arith, h, arcs_before-all m)

-- and a row that ends before a later row begins
arc_at-rows : (m u x a b : ℕ) → u < x → x ≤ m → u < a → a < b → arc_at m u x < arc_at m a b
arc_at-rows m u x a b begins ends below later =
    let h = arcs_before-mono m (suc u) a (omega arith) in
    omega (arith, h)

-- no two arcs share a number
pub arc_at-apart : (m u x a b : ℕ) → u < x → x ≤ m → a < b → b ≤ m → (u ≡ a → x ≡ b → ⊥) → arc_at m u x ≢ arc_at m a b
arc_at-apart m u x a b begins ends begins' ends' apart = elim (cases_lt u a) [
  | inl lt ↦ let h = arc_at-rows m u x a b begins ends lt begins' in omega (arith, h)
  | inr ge ↦ elim (cases_lt a u) [
    | inl lt ↦ let h = arc_at-rows m a b u x begins' ends' lt begins in omega (arith, h)
    | inr le ↦
        let e : u ≡ a = omega arith in
        λ same. apart e (let f = ap (arcs_before m) e in omega (arith, f))
  ]
]

-- two arcs of one number are the same
pub arc_at-same : (m u x a b : ℕ) → u < x → x ≤ m → a < b → b ≤ m → arc_at m u x ≡ arc_at m a b → (u ≡ a) × (x ≡ b)
arc_at-same m u x a b begins ends begins' ends' is = elim (cases_eq u a) [
  | inl e ↦ elim (cases_eq x b) [
    | inl d ↦ (e, d)
    | inr ne ↦ absurd (arc_at-apart m u x a b begins ends begins' ends' (λ _ d. ne d) is)
  ]
  | inr ne ↦ absurd (arc_at-apart m u x a b begins ends begins' ends' (λ e _. ne e) is)
]

-- each number is that of an arc
pub record IsArc (m k : ℕ) : Type 0 where
  pub from : ℕ
  pub to : ℕ
  pub begins : from < to
  pub ends : to ≤ m
  pub is : arc_at m from to ≡ k

arc_before : (m u k : ℕ) → u ≤ m → k < arcs_before m u → IsArc m k
arc_before m zero k within few = absurd (omega arith)
arc_before m (suc u) k within few = elim (cases_lt k (arcs_before m u)) [
  | inl lt ↦ arc_before m u k (omega arith) lt
  | inr ge ↦ record {
    from = u;
    to = suc u + (k - arcs_before m u);
    begins = omega arith;
    ends = omega arith;
    is = omega arith;
  }
]

pub arc_of : (m k : ℕ) → k < arc_total m → IsArc m k
arc_of m k few = arc_before m m k (omega arith) (omega (arith, arcs_before-all m))

-- ---- the list of arcs

abbrev pub row_of : ℕ → ℕ → List (ℕ × ℕ)
row_of m u = map (λ x. (u, x)) (range_with_len (u + 1) (m - u))

length-row_of : (m u : ℕ) → length (row_of m u) ≡ m - u
length-row_of m u = length-map (range_with_len (u + 1) (m - u)) (λ x. (u, x)) ∙ length-range_with_len (u + 1) (m - u)

length-rows : (m u n : ℕ) → u + n ≡ m → arcs_before m u + length (flat_map (row_of m) (range_with_len u n)) ≡
    arcs_before m m
length-rows m u zero e = let f : u ≡ m = omega arith in omega (arith, ap (arcs_before m) f)
length-rows m u (suc n) e =
    let h = length-rows m (suc u) n (omega arith) in
    let s : u + 1 ≡ suc u = omega arith in
    let a = length-append (row_of m u) (flat_map (row_of m) (range_with_len (u + 1) n)) in
    let b = ap (λ v. length (flat_map (row_of m) (range_with_len v n))) s in
    omega (arith, h, a, b, length-row_of m u)

pub length-arcs_of : (m : ℕ) → length (arcs_of m) ≡ arc_total m
length-arcs_of m = let h = length-rows m 0 m (omega arith) in omega (arith, h, arcs_before-all m)

abbrev pub some_arc : ℕ → ℕ → Option (ℕ × ℕ)
some_arc u x = Some (u, x)

same_arc : (u x v y : ℕ) → u ≡ v → x ≡ y → some_arc u x ≡ some_arc v y
same_arc u x v y p q = cc

get-row : (u a n k : ℕ) → k < n → slice_get (map (λ x. (u, x)) (range_with_len a n)) k ≡ some_arc u (a + k)
get-row u a zero k within = absurd (omega arith)
get-row u a (suc n) zero within = same_arc u a u (a + 0) refl (omega arith)
get-row u a (suc n) (suc k) within = get-row u (a + 1) n k (omega arith)
    ∙ same_arc u (a + 1 + k) u (a + suc k) refl (omega arith)

get-append_left : (xs ys : List (ℕ × ℕ)) (k : ℕ) → k < length xs → slice_get (xs ++ ys) k ≡ slice_get xs k
get-append_left [] ys k within = absurd (omega arith)
get-append_left (x ∷ xs) ys zero within = refl
get-append_left (x ∷ xs) ys (suc k) within = get-append_left xs ys k (omega arith)

get-append_right : (xs ys : List (ℕ × ℕ)) (n k : ℕ) → length xs ≡ n → slice_get (xs ++ ys) (n + k) ≡ slice_get ys k
get-append_right [] ys n k e = let f : n + k ≡ k = omega arith in ap (slice_get ys) f
get-append_right (x ∷ xs) ys zero k e = absurd (omega arith)
get-append_right (x ∷ xs) ys (suc n) k e =
    let f : suc n + k ≡ suc (n + k) = omega arith in
    rw f (get-append_right xs ys n k (omega arith))

-- the arcs of the rows from u on, by how many stand before
get-rows : (m u n v x k : ℕ) → u + n ≡ m → u ≤ v → v < x → x ≤ m → arcs_before m u + k ≡ arc_at m v x →
    slice_get (flat_map (row_of m) (range_with_len u n)) k ≡ some_arc v x
get-rows m u zero v x k e from begins ends at = absurd (omega arith)
get-rows m u (suc n) v x k e from begins ends at = elim (cases_lt u v) [
  | inl lt ↦
      let h = arcs_before-mono m (suc u) v (omega arith) in
      let j = k - (m - u) in
      let f : k ≡ (m - u) + j = omega (arith, h) in
      rw f (get-append_right (row_of m u) (flat_map (row_of m) (range_with_len (u + 1) n)) (m - u) j (length-row_of m u)
      ∙ get-rows m (u + 1) n v x j (omega arith) (omega arith) begins ends (next (omega (arith, h))))
  | inr ge ↦
      let same : v ≡ u = omega arith in
      let before = ap (arcs_before m) same in
      let fits : k < m - u = omega (arith, before) in
      get-append_left (row_of m u) (flat_map (row_of m) (range_with_len (u + 1) n)) k (omega (arith, length-row_of m u))
      ∙ get-row u (u + 1) (m - u) k fits
      ∙ same_arc u (u + 1 + k) v x (omega arith) (omega (arith, before))
] where
  next : arcs_before m (suc u) + (k - (m - u)) ≡ arc_at m v x → arcs_before m (u + 1) + (k - (m - u)) ≡ arc_at m v x
  next h = let s : u + 1 ≡ suc u = omega arith in omega (arith, ap (arcs_before m) s, h)

-- the arc from u to x stands at its number
pub get-arcs_of : (m u x : ℕ) → u < x → x ≤ m → slice_get (arcs_of m) (arc_at m u x) ≡ some_arc u x
get-arcs_of m u x begins ends = get-rows m 0 m u x (arc_at m u x) (omega arith) (omega arith) begins ends (omega arith)

-- a value of each arc stands at the arc's number
pub get_or-each : {Y : Type 0} (g : ℕ × ℕ → Y) (m u x : ℕ) (d : Y) → u < x → x ≤ m →
    get_or (map g (arcs_of m)) (arc_at m u x) d ≡ g (u, x)
get_or-each g m u x d begins ends =
    let at = get-arcs_of m u x begins ends in
    get_or-map g (arcs_of m) (arc_at m u x) (u, x) d (slice_get_within (arcs_of m) (arc_at m u x) (u, x) at)
    ∙ ap g (get_or_from_slice_get (arcs_of m) (arc_at m u x) (u, x) (u, x) at)
