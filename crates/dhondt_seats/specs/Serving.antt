-- Seats that are served one after another.
use Rattle.std.specs.Prelude.{◌≡◌, ◌≢◌, ◌⊎◌, ℕ, ◌+◌, ◌*◌, ◌<◌, ◌≤◌, List, length, slice_index}

-- party b's quotient at place r, with vb votes, comes before party a's at place q, with va votes
abbrev pub ComesBefore : ℕ → ℕ → ℕ → ℕ → ℕ → ℕ → Type 0
ComesBefore vb b r va a q = (va * r < vb * q) ⊎ ((va * r ≡ vb * q) × ((b < a) ⊎ ((b ≡ a) × (r < q))))

-- the party whose next quotient comes first
pub record IsNext (votes shares : List ℕ) (p : ℕ) : Type 0 where
  pub party : p < length votes
  pub first : (a : ℕ) → a < length votes → a ≢ p
      → ComesBefore (slice_index votes p) p (slice_index shares p + 1) (slice_index votes a) a (slice_index shares a + 1)

-- the seats so far are those of the first quotients
pub record IsServed (votes shares : List ℕ) : Type 0 where
  pub parties : length shares ≡ length votes
  pub first : (b r a q : ℕ) → b < length votes → a < length votes → 1 ≤ r → r ≤ slice_index shares b → slice_index shares a < q
      → ComesBefore (slice_index votes b) b r (slice_index votes a) a q
