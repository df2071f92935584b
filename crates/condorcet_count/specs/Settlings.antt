-- Settlings of pairs, and the outcome of one. Of each two candidates one is chosen; for x < y the test s x y says whether it is x,
-- the lower-numbered one. How ties are settled is this project's own.
use Rattle.std.specs.Prelude.{◌≡◌, ◌≢◌, ℕ, ◌<◌, ◌≤◌, nat_le, Bool, true, false, Option, Some, None}

-- of c candidates: the one that fewer ballots prefer is never chosen
pub record IsSettling (c : ℕ) (pref : ℕ → ℕ → ℕ) (s : ℕ → ℕ → Bool) : Type 0 where
  pub lower : (x y : ℕ) → x < y → y < c → s x y ≡ true → pref y x ≤ pref x y
  pub higher : (x y : ℕ) → x < y → y < c → s x y ≡ false → pref x y ≤ pref y x

-- x is chosen against y
abbrev pub Chooses : (ℕ → ℕ → Bool) → ℕ → ℕ → Type 0
Chooses s x y = (x < y → s x y ≡ true) × (y < x → s y x ≡ false)

-- x is chosen in all its pairs
pub record IsChosenInAll (c : ℕ) (s : ℕ → ℕ → Bool) (x : ℕ) : Type 0 where
  pub stands : x < c
  pub chosen : (y : ℕ) → y < c → y ≢ x → Chooses s x y

-- the outcome of a settling: who is chosen in all its pairs, and nobody where there is none
abbrev pub IsOutcomeOf : ℕ → (ℕ → ℕ → Bool) → Option ℕ → Type 0
IsOutcomeOf c s (Some x) = IsChosenInAll c s x
IsOutcomeOf c s None = (x : ℕ) → IsChosenInAll c s x → ⊥

-- some settling has this outcome
abbrev pub IsAdmittedOutcome : ℕ → (ℕ → ℕ → ℕ) → Option ℕ → Type 0
IsAdmittedOutcome c pref o = (s : ℕ → ℕ → Bool) × IsSettling c pref s × IsOutcomeOf c s o

-- the settling that gives each tied pair to the lower number
abbrev pub ties_to_lower : (ℕ → ℕ → ℕ) → ℕ → ℕ → Bool
ties_to_lower pref x y = nat_le (pref y x) (pref x y)

-- the outcome of the settling that gives each tied pair to the lower number
abbrev pub IsReportedOutcome : ℕ → (ℕ → ℕ → ℕ) → Option ℕ → Type 0
IsReportedOutcome c pref o = IsOutcomeOf c (ties_to_lower pref) o
