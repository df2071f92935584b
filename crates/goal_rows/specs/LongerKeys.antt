-- What is known of the goals that a goal is split into, before any replacement.
use Rattle.std.specs.Prelude.{ℕ, ◌+◌, ◌*◌, ◌^◌, ◌<◌, ◌≤◌, if◌then◌else◌, List, map}
use Rattle.irv_count.specs.Orders.{stands}
use Rattle.signature_class.specs.Signatures.{bits_of, holds_before, suffix_key}
use Rattle.signature_class.specs.declared.limits.TheConstants.{MOST_PLACES}
use Rattle.goal_rows.specs.declared.goals.Goal.{Goal}
use Rattle.goal_rows.specs.declared.cover_grounds.Told.{Told}
use Rattle.goal_rows.specs.declared.parts.Ground.{Ground}

-- the goals of some grounds
abbrev pub goals_of : List Ground → List Goal
goals_of starts = map (λ start. start.goal) starts

-- the set of those who hold a ballot where they and all of a suffix stand
abbrev pub leaders_key : List ℕ → List ℕ → ℕ
leaders_key suffix ballot = bits_of MOST_PLACES (λ z. holds_before z suffix ballot)

-- what a kind of ballots, and how many there are of it, tell of the keys under a suffix and those with one candidate
-- more in front
abbrev pub told_of : List ℕ → List ℕ × ℕ → Told
told_of suffix kind =
    record { key = suffix_key suffix kind.0; leaders = leaders_key suffix kind.0; count = kind.1 }

-- the key fits its places, and there are such ballots
pub record IsTold (told : Told) : Type 0 where
  pub fits : told.key < 2 ^ MOST_PLACES
  pub some : 1 ≤ told.count

-- the key of such ballots where z is put in front of the suffix
abbrev pub key_behind : ℕ → Told → ℕ
key_behind z told = 2 * told.key + (if stands told.leaders z then 1 else 0)

-- their class
abbrev pub class_behind : ℕ → Told → ℕ × ℕ
class_behind z told = (key_behind z told, told.count)
