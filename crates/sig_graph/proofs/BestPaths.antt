-- The best of a place, from the bests of the later places: one arc more at a time.
use Rattle.std.proofs.Common.{◌≡◌, ◌≢◌, ℕ, zero, suc, ◌+◌, ◌-◌, ◌*◌, ◌<◌, ◌≤◌, List, [], ◌∷◌, length, get_or, get_or-set_other, get_or-set_same, refl, ap, arith, inl, inr}
use Rattle.std.proofs.Math.IntN.{ℤ, pos, negsuc, ◌+ℤ◌}
use Rattle.std.proofs.lemmas.Int.{ints}
use Rattle.std.proofs.lemmas.Bool.{cases_lt}
use Rattle.std.proofs.Math.ListN.{set}
use lib.Signed.{◌<ℤ◌, ◌≤ℤ◌}
use Rattle.sig_graph.specs.Bests.{IsBetter, IsDone}
use Rattle.sig_graph.specs.Paths.{arcs_before, weight_at, path_sum, IsBest, IsPathFrom, IsSmallWeight}
use Rattle.sig_graph.specs.declared.weights.TheConstants.{WEIGHT_LIMIT}

abbrev pub StartsBelow : ℕ → List ℕ → Type 0
StartsBelow h [] = Unit {0}
StartsBelow h (x ∷ path) = x < h

-- the greatest sum over all paths from u whose first place is below h
pub record IsBestVia (m : ℕ) (ws : List ℤ) (u h : ℕ) (best : ℤ) : Type 0 where
  pub above : (path : List ℕ) → IsPathFrom m u path → StartsBelow h path → path_sum m ws u path ≤ℤ best
  pub reached : (path : List ℕ) × IsPathFrom m u path × StartsBelow h path × (path_sum m ws u path ≡ best)

pub via_none : (m : ℕ) (ws : List ℤ) (u : ℕ) → IsBestVia m ws u (u + 1) (pos 0)
via_none m ws u = record { above = none; reached = ([], tt, tt, refl) } where
  none : (path : List ℕ) → IsPathFrom m u path → StartsBelow (u + 1) path → path_sum m ws u path ≤ℤ pos 0
  none [] is low = omega (arith, ints)
  none (x ∷ path) is low = absurd (omega (arith, is.0))

module _ (m : ℕ) (ws : List ℤ) (u x : ℕ) (v b : ℤ) (after : u < x) (within : x ≤ m) (old : IsBestVia m ws u x v)
    (next : IsBest m ws x b) where
  -- a bound on the old paths and on those through x bounds all up to x
  bounded : (t : ℤ) → v ≤ℤ t → (weight_at m ws u x +ℤ b) ≤ℤ t →
      (path : List ℕ) → IsPathFrom m u path → StartsBelow (x + 1) path → path_sum m ws u path ≤ℤ t
  bounded t le via [] is low = omega (arith, ints, old.above [] tt tt)
  bounded t le via (y ∷ path) is low = elim (cases_lt y x) [
    | inl lt ↦ omega (arith, ints, old.above (y ∷ path) is lt)
    | inr ge ↦ at y (omega (arith, low)) is.2
  ] where
    at : (y : ℕ) → y ≡ x → IsPathFrom m y path → (weight_at m ws u y +ℤ path_sum m ws y path) ≤ℤ t
    at y e q = let q' = rw e at q in rw e (omega (arith, ints, next.above path q'))

  wider : (path : List ℕ) → StartsBelow x path → StartsBelow (x + 1) path
  wider [] h = tt
  wider (y ∷ path) h = omega (arith, h)

  via_keeps : (weight_at m ws u x +ℤ b) ≤ℤ v → IsBestVia m ws u (x + 1) v
  via_keeps le = record {
    above = bounded v (omega (arith, ints)) le;
    reached = (old.reached.0, old.reached.1, wider old.reached.0 old.reached.2, old.reached.3);
  }

  via_takes : v <ℤ (weight_at m ws u x +ℤ b) → IsBestVia m ws u (x + 1) (weight_at m ws u x +ℤ b)
  via_takes lt = record {
    above = bounded (weight_at m ws u x +ℤ b) (omega (arith, ints)) (omega (arith, ints));
    reached = (
      x ∷ next.reached.0,
      (after, within, next.reached.1),
      omega arith,
      ap (λ z. weight_at m ws u x +ℤ z) next.reached.2,
    );
  }

-- the paths through x too
pub via_more : (m : ℕ) (ws : List ℤ) (u x : ℕ) (v b r : ℤ) → u < x → x ≤ m → IsBestVia m ws u x v → IsBest m ws x b →
    IsBetter v (weight_at m ws u x +ℤ b) r → IsBestVia m ws u (x + 1) r
via_more m ws u x v b r after within old next choice = elim choice [
  | inl k ↦ rw k.1 (via_keeps m ws u x v b after within old next k.0)
  | inr t ↦ rw t.1 (via_takes m ws u x v b after within old next t.0)
]

pub via_all : (m : ℕ) (ws : List ℤ) (u : ℕ) (v : ℤ) → IsBestVia m ws u (m + 1) v → IsBest m ws u v
via_all m ws u v h = record {
  above = λ path is. h.above path is (starts path is);
  reached = (h.reached.0, h.reached.1, h.reached.3);
} where
  starts : (path : List ℕ) → IsPathFrom m u path → StartsBelow (m + 1) path
  starts [] is = tt
  starts (x ∷ path) is = omega (arith, is.1)

-- ---- sizes

weight_high : (w : ℤ) → IsSmallWeight w → w ≤ℤ pos WEIGHT_LIMIT
weight_high (pos n) small = omega (arith, ints)
weight_high (negsuc n) small = omega (arith, ints)

pub better_high : (m u x : ℕ) (v w b r : ℤ) → u < x → x ≤ m → v ≤ℤ pos ((m - u) * WEIGHT_LIMIT) → IsSmallWeight w →
    b ≤ℤ pos ((m - x) * WEIGHT_LIMIT) → IsBetter v (w +ℤ b) r → r ≤ℤ pos ((m - u) * WEIGHT_LIMIT)
better_high m u x v w b r after within hv hw hb choice = let high = weight_high w hw in elim choice [
  | inl k ↦ rw k.1 hv
  | inr t ↦ rw t.1 (omega (arith, ints))
]

pub better_low : (v w b r : ℤ) → pos 0 ≤ℤ v → IsBetter v (w +ℤ b) r → pos 0 ≤ℤ r
better_low v w b r hv choice = elim choice [
  | inl k ↦ rw k.1 hv
  | inr t ↦ rw t.1 (omega (arith, ints))
]

-- ---- the cells

pub done_last : (m : ℕ) (ws : List ℤ) → IsDone m ws m (pos 0)
done_last m ws = record {
  greatest = record { above = none; reached = ([], tt, refl) };
  at_least = omega (arith, ints);
  at_most = omega (arith, ints);
} where
  none : (path : List ℕ) → IsPathFrom m m path → path_sum m ws m path ≤ℤ pos 0
  none [] is = omega (arith, ints)
  none (x ∷ path) is = absurd (omega (arith, is.0, is.1))

pub arcs_back : (m u : ℕ) → 0 < u → arcs_before m u ≡ arcs_before m (u - 1) + (m - (u - 1))
arcs_back m zero h = absurd (omega arith)
arcs_back m (suc u) h = let e : suc u - 1 ≡ u = omega arith in rw e refl

-- one more cell
pub cells_more : (m : ℕ) (ws : List ℤ) (u : ℕ) (cells : List ℤ) (v : ℤ) → u < length cells →
    ((k : ℕ) → u < k → k ≤ m → IsDone m ws k (get_or cells k (pos 0))) → IsDone m ws u v →
    (k : ℕ) → u ≤ k → k ≤ m → IsDone m ws k (get_or (set cells u v) k (pos 0))
cells_more m ws u cells v fits old new k from to = elim (cases_lt u k) [
  | inl lt ↦ let ne : k ≢ u = omega arith in rw get_or-set_other (old k lt to)
  | inr ge ↦ let e : k ≡ u = omega arith in rw (e, get_or-set_same) new
]

-- there is one best
pub best_is_unique : (m : ℕ) (ws : List ℤ) (u : ℕ) (a b : ℤ) → IsBest m ws u a → IsBest m ws u b → a ≡ b
best_is_unique m ws u a b p q =
    let le = p.above q.reached.0 q.reached.1 in
    let ge = q.above p.reached.0 p.reached.1 in
    omega (arith, ints, le, ge, p.reached.2, q.reached.2)
