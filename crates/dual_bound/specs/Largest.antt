-- The greatest sum of at most so many numbers, from numbers that are counted in classes.
use Rattle.std.specs.Prelude.{◌≡◌, ◌⊎◌, ℕ, ◌+◌, ◌-◌, ◌*◌, ◌^◌, ◌≤◌, ◌<◌, min, All, List, [], ◌∷◌, unsigned_abs, ℤ, pos, ◌+ℤ◌, ◌<ℤ◌}
use Rattle.mov_base.specs.Sums.{most}

-- classes (a number, and how often it stands), the greatest first: what the first k numbers give
abbrev pub greedy : ℕ → List (ℕ × ℕ) → ℕ
greedy k [] = 0
greedy k (p ∷ ps) = min k p.1 * p.0 + greedy (k - p.1) ps

abbrev pub AllAtMost : ℕ → List (ℕ × ℕ) → Type 0
AllAtMost g [] = Unit {0}
AllAtMost g (p ∷ ps) = (p.0 ≤ g) × AllAtMost g ps

-- no class has a greater number than one before it
abbrev pub IsDescending : List (ℕ × ℕ) → Type 0
IsDescending [] = Unit {0}
IsDescending (p ∷ ps) = AllAtMost p.0 ps × IsDescending ps

-- the test over a base and the gains themselves
abbrev pub CutsAt : ℤ → List ℕ → ℕ → Type 0
CutsAt base gains t = (t ≡ 0) ⊎ ((base +ℤ pos (most (t - 1) gains)) <ℤ pos 0)

-- t is the greatest number up to `end` at which it passes
pub record IsGreatestCut (base : ℤ) (gains : List ℕ) (end t : ℕ) : Type 0 where
  pub within : t ≤ end
  pub cut : CutsAt base gains t
  pub greatest : (u : ℕ) → u ≤ end → CutsAt base gains u → u ≤ t

-- no gain is above 2^88
abbrev pub AreSmall : List (ℕ × ℕ) → Type 0
AreSmall classes = All (λ p. p.0 ≤ 2 ^ 88) classes

-- a number of at most 120 bits
abbrev pub IsSmallBase : ℤ → Type 0
IsSmallBase base = unsigned_abs base < 2 ^ 120
