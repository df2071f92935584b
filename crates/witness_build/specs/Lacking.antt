-- How many ballots a candidate lacks against each other one, and how many equal ballots make up for it.
use Rattle.std.specs.Prelude.{◌≡◌, ◌≢◌, ◌⊎◌, ℕ, ◌+◌, ◌*◌, ◌<◌, ◌≤◌, if◌then◌else◌}
use Rattle.irv_count.specs.Orders.{stands}

-- how much closer x comes to j where a ballot with this key under the cover of x is replaced by x alone
abbrev pub gain_by : ℕ → ℕ → ℕ → ℕ
gain_by key x j = if stands key j then 2 else if stands key x then 0 else 1

-- k such replacements make up for what x lacks against j, as far as they can
abbrev pub IsEnough : ℕ → ℕ → ℕ → Type 0
IsEnough gain lacking k = (gain ≡ 0) ⊎ (lacking ≤ k * gain)

-- each of k such replacements is needed against j
abbrev pub AreUsed : ℕ → ℕ → ℕ → Type 0
AreUsed gain lacking k = (0 < gain) × (k * gain < lacking + gain)

-- k of them make up for what x lacks against each other candidate below `to`, as far as they can, and no fewer do
pub record AreNeededTo (to x k : ℕ) (gain lacking : ℕ → ℕ) : Type 0 where
  pub enough : (j : ℕ) → j < to → j ≢ x → IsEnough (gain j) (lacking j) k
  pub used : (k ≡ 0) ⊎ ((j : ℕ) × (j < to) × (j ≢ x) × AreUsed (gain j) (lacking j) k)

-- the same of one candidate
pub record AreNeededAt (j x k gain lacking : ℕ) : Type 0 where
  pub enough : j ≢ x → IsEnough gain lacking k
  pub used : (k ≡ 0) ⊎ ((j ≢ x) × AreUsed gain lacking k)
