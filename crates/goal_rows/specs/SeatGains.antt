-- Where another allocation of seats is admitted than a given one.
use Rattle.std.specs.Prelude.{◌≢◌, ℕ, ◌+◌, ◌*◌, ◌<◌, ◌≤◌, List, length, slice_index}

-- party g's next quotient reaches the last of party l, which has a seat
pub record IsSeatGain (votes shares : List ℕ) (g l : ℕ) : Type 0 where
  pub gainer : g < length votes
  pub loser : l < length votes
  pub differ : g ≢ l
  pub seated : 1 ≤ slice_index shares l
  pub reaches : slice_index votes l * (slice_index shares g + 1) ≤ slice_index votes g * slice_index shares l
